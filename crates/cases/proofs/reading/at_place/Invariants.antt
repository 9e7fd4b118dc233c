-- `at_place` meets its contract: the number that it is to find is still to be found in the rest.
use Rattle.std.proofs.Common.{length}
use Rattle.cases.proofs.Entries.{Among}
use Rattle.cases.proofs.reading.at_place.Given as goal

abbrev pub invariant-loop-entry : goal.invariant-loop-entry
invariant-loop-entry l = Among l.place l.text l.left l.rest

abbrev pub decreases-loop-entry : goal.decreases-loop-entry
decreases-loop-entry l = length l.rest
