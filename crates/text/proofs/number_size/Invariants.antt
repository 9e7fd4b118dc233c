-- `number_size` meets its contract: each turn counts one digit, and those of what is left are still to come.
use Rattle.text.proofs.Digits.{Counted}
use Rattle.text.proofs.number_size.Given as goal

abbrev pub invariant-loop-left : goal.invariant-loop-left
invariant-loop-left l = Counted l.n l.left l.size

abbrev pub decreases-loop-left : goal.decreases-loop-left
decreases-loop-left l = l.left
