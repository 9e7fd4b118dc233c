-- `put_capture` meets its contract: each number that is put leaves the numbers after it and the runs still to come.
use Rattle.capture.specs.Writing.{capture_of}
use Rattle.capture.proofs.Grouping.{Coming}
use Rattle.capture.proofs.writing.put_capture.Given as goal

abbrev pub invariant-loop-run : goal.invariant-loop-run
invariant-loop-run g l =
    let settings = l.fn.settings in
    Coming g.S.Sink.took l.fn.sink (capture_of settings.k.0 settings.n settings.q.0 l.fn.reads) l.sink
    l.run-iterator.0.now
