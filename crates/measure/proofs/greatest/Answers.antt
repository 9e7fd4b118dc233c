-- `greatest` meets its contract: a bound that the greatest so far keeps to is passed by no entry before the place
-- reached.
use Rattle.std.proofs.Common.{arith}
use Rattle.measure.proofs.Above.{searched_none, searched_all}
use Rattle.measure.proofs.greatest.Goals as goal

pub loop-entry-init : goal.loop-entry-init
loop-entry-init c = (omega arith, λ m h. searched_none m _)

pub returns : goal.returns
returns c = λ m h. searched_all (c.loop-entry.invariant.1 m h) (omega arith)
