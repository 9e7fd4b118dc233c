-- `number_size` meets its contract: each turn counts one digit, and those of what is left are still to come.
use Rattle.std.proofs.Common.{arith}
use Rattle.text.proofs.Digits.{counted_none, counted_one, counted_all}
use Rattle.text.proofs.number_size.Goals as goal

pub loop-left-init : goal.loop-left-init
loop-left-init c = counted_none _ (omega arith)

pub loop-left-preserved : goal.loop-left-preserved
loop-left-preserved c = counted_one c.loop-left.invariant c.loop-left-test.true

pub returns : goal.returns
returns c = counted_all c.loop-left.invariant c.loop-left-test.false
