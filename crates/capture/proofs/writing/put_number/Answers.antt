-- `put_number` meets its contract: each turn puts one group, and those of what is left are still to come.
use Rattle.capture.proofs.Sinks.{Lawful}
use Rattle.capture.proofs.Spelling.{put_none, put_room, put_one, put_all}
use Rattle.capture.proofs.writing.put_number.Given as given
use Rattle.capture.proofs.writing.put_number.Goals as goal

laws : (g : given.Over) → Lawful g.S.Sink.room g.S.Sink.took
laws g = record { none = g.met.S.Sink.none; joined = g.met.S.Sink.joined; left = g.met.S.Sink.left }

pub loop-left-init : goal.loop-left-init
loop-left-init g c = put_none (laws g) _ _ c.requires.in_range

pub put-requires : goal.put-requires
put-requires g c = put_room (laws g) c.loop-left.invariant c.requires.room

pub loop-left-preserved : goal.loop-left-preserved
loop-left-preserved g c = put_one (laws g) c.loop-left.invariant _ c.loop-left-test.true c.put.ensures

pub put-requires-2 : goal.put-requires-2
put-requires-2 g c = put_room (laws g) c.loop-left.invariant c.requires.room

pub returns : goal.returns
returns g c = put_all (laws g) c.loop-left.invariant _ c.loop-left-test.false c.put-2.ensures
