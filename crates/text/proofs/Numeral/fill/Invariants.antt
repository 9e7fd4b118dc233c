-- `fill` meets its contract: each turn stores one digit before those stored so far, and the highest comes last.
use Rattle.std.proofs.Common.{◌-◌, length}
use Rattle.text.specs.Decimal.{decimal}
use Rattle.text.proofs.Digits.{Storing}
use Rattle.text.proofs.Numeral.fill.Given as goal

abbrev pub invariant-loop-left : goal.invariant-loop-left
invariant-loop-left l =
    Storing l.initial.part (length l.initial.part - length (decimal l.self.digits)) l.self.digits l.part l.left l.to

abbrev pub decreases-loop-left : goal.decreases-loop-left
decreases-loop-left l = l.left
