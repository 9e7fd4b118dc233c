-- `entries` meets its contract: what is to be written in the end stays the same, and so does the place after it.
use Rattle.std.proofs.Common.{length}
use Rattle.cases.proofs.Entries.{Putting}
use Rattle.cases.proofs.reading.entries.Given as goal

abbrev pub invariant-loop-entry : goal.invariant-loop-entry
invariant-loop-entry l = Putting l.from l.text l.initial.list l.size l.rest l.list

abbrev pub decreases-loop-entry : goal.decreases-loop-entry
decreases-loop-entry l = length l.rest
