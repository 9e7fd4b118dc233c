-- `put_number` meets its contract: each turn puts one group, and those of what is left are still to come.
use Rattle.capture.proofs.Spelling.{Put}
use Rattle.capture.proofs.writing.put_number.Given as goal

abbrev pub invariant-loop-left : goal.invariant-loop-left
invariant-loop-left g l = Put g.S.Sink.took l.v l.initial.sink l.left l.sink

abbrev pub decreases-loop-left : goal.decreases-loop-left
decreases-loop-left g l = l.left
