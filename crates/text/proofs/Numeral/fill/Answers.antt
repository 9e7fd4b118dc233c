-- `fill` meets its contract: each turn stores one digit before those stored so far, and the highest comes last.
use Rattle.std.proofs.Common.{arith}
use Rattle.text.proofs.Digits.{digits_within, storing_to_end, storing_some, storing_one, storing_end, filled, filled_below}
use Rattle.text.proofs.Numeral.fill.Goals as goal

pub loop-left-init : goal.loop-left-init
loop-left-init c =
    storing_to_end _ c.args.self.digits (omega arith) (digits_within c.args.self.below c.args.self.digits _ c.requires)

pub overflow_sub-to : goal.overflow_sub-to
overflow_sub-to c = omega (arith, storing_some c.loop-left.invariant c.loop-left-test.true)

pub bounds-part-to : goal.bounds-part-to
bounds-part-to c =
    omega (
      arith,
      c.loop-left.invariant.within,
      c.loop-left.invariant.size,
      storing_some c.loop-left.invariant c.loop-left-test.true,
      digits_within c.args.self.below c.args.self.digits _ c.requires,
    )

pub loop-left-preserved : goal.loop-left-preserved
loop-left-preserved c = storing_one c.loop-left.invariant c.loop-left-test.true

pub overflow_sub-to-2 : goal.overflow_sub-to-2
overflow_sub-to-2 c = omega (arith, storing_end c.loop-left.invariant c.loop-left-test.false)

pub bounds-part-to-2 : goal.bounds-part-to-2
bounds-part-to-2 c =
    omega (
      arith,
      c.loop-left.invariant.within,
      c.loop-left.invariant.size,
      storing_end c.loop-left.invariant c.loop-left-test.false,
      digits_within c.args.self.below c.args.self.digits _ c.requires,
    )

pub returns-then-self : goal.returns-then-self
returns-then-self c =
    rw c.if-self.true
    (filled_below c.loop-left.invariant c.loop-left-test.false (rw c.if-self.true at c.requires))

pub returns-else-self : goal.returns-else-self
returns-else-self c =
    rw c.if-self.false (filled c.loop-left.invariant c.loop-left-test.false (rw c.if-self.false at c.requires))
