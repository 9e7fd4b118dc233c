-- `put_capture` meets its contract: each number that is put leaves the numbers after it and the runs still to come.
use Rattle.std.proofs.Common.{arith}
use Rattle.capture.proofs.Grouping.{sum_runs, coming_all, coming_low, coming_room, coming_one}
use Rattle.capture.proofs.Sinks.{Lawful, taking_next}
use Rattle.capture.proofs.WriteLaws.{settings_low, before_k, before_n, before_q, before_level, before_runs}
use Rattle.capture.proofs.writing.put_capture.Given as given
use Rattle.capture.proofs.writing.put_capture.Goals as goal

laws : (g : given.Over) → Lawful g.S.Sink.room g.S.Sink.took
laws g = record { none = g.met.S.Sink.none; joined = g.met.S.Sink.joined; left = g.met.S.Sink.left }

pub put_number-requires-clause-in_range : goal.put_number-requires-clause-in_range
put_number-requires-clause-in_range g c =
    (settings_low c.args.settings.k.0 c.args.settings.n c.args.settings.q.0 c.requires.fit).0

pub put_number-requires-clause-room : goal.put_number-requires-clause-room
put_number-requires-clause-room g c =
    let s = c.args.settings in
    taking_next (laws g) _ _
    (before_k s.k.0 s.n s.q.0 c.args.reads.now _ c.first_level-level.ensures.0 (laws g) c.args.sink.now) c.requires.room

pub put_number-requires-2-clause-in_range : goal.put_number-requires-2-clause-in_range
put_number-requires-2-clause-in_range g c =
    (settings_low c.args.settings.k.0 c.args.settings.n c.args.settings.q.0 c.requires.fit).1.0

pub put_number-requires-2-clause-room : goal.put_number-requires-2-clause-room
put_number-requires-2-clause-room g c =
    let s = c.args.settings in
    taking_next (laws g) _ _
    (before_n s.k.0 s.n s.q.0 c.args.reads.now _ c.first_level-level.ensures.0 (laws g) c.args.sink.now
    c.put_number.ensures) c.requires.room

pub put_number-requires-3-clause-in_range : goal.put_number-requires-3-clause-in_range
put_number-requires-3-clause-in_range g c =
    (settings_low c.args.settings.k.0 c.args.settings.n c.args.settings.q.0 c.requires.fit).1.1

pub put_number-requires-3-clause-room : goal.put_number-requires-3-clause-room
put_number-requires-3-clause-room g c =
    let s = c.args.settings in
    taking_next (laws g) _ _
    (before_q s.k.0 s.n s.q.0 c.args.reads.now _ c.first_level-level.ensures.0 (laws g) c.args.sink.now
    c.put_number.ensures c.put_number-2.ensures) c.requires.room

pub put_number-requires-4-clause-room : goal.put_number-requires-4-clause-room
put_number-requires-4-clause-room g c =
    let s = c.args.settings in
    taking_next (laws g) _ _
    (before_level s.k.0 s.n s.q.0 c.args.reads.now _ c.first_level-level.ensures.0 (laws g) c.args.sink.now
    c.put_number.ensures c.put_number-2.ensures c.put_number-3.ensures) c.requires.room

pub loop-run-init : goal.loop-run-init
loop-run-init g c =
    let s = c.args.settings in
    rw c.into_iter-run-iterator.ensures.into_iter_gives
    (record {
      taking =
          before_runs s.k.0 s.n s.q.0 c.args.reads.now _ c.first_level-level.ensures.0 (laws g) c.args.sink.now
          c.put_number.ensures c.put_number-2.ensures c.put_number-3.ensures _ c.put_number-4.ensures;
      low = omega (arith, sum_runs c.args.reads.now, c.requires.few);
    })

pub put_number-requires-in-loop-run-clause-in_range : goal.put_number-requires-in-loop-run-clause-in_range
put_number-requires-in-loop-run-clause-in_range g c = coming_low (laws g) c.loop-run.invariant _ c.in-Some.ensures.steps

pub put_number-requires-in-loop-run-clause-room : goal.put_number-requires-in-loop-run-clause-room
put_number-requires-in-loop-run-clause-room g c =
    coming_room (laws g) c.loop-run.invariant _ c.in-Some.ensures.steps c.requires.room

pub loop-run-preserved : goal.loop-run-preserved
loop-run-preserved g c =
    coming_one (laws g) c.loop-run.invariant _ c.in-Some.ensures.steps _ c.put_number-in-loop-run.ensures

pub returns : goal.returns
returns g c = coming_all (laws g) c.loop-run.invariant c.in-None.ensures.steps.0
