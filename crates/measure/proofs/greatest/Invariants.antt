-- `greatest` meets its contract: a bound that the greatest so far keeps to is passed by no entry before the place
-- reached.
use Rattle.measure.proofs.Above.{Kept}
use Rattle.measure.proofs.greatest.Given as goal

abbrev pub invariant-loop-entry : goal.invariant-loop-entry
invariant-loop-entry l = Kept l.entries l.most l.entry-index
