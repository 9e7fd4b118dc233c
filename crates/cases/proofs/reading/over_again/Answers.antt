-- `over_again` meets its contract: a turn is one of those that are left.
use Rattle.std.proofs.Common.{◌∙◌, sym, arith, ℕ}
use lib.ListN.{length-set}
use Rattle.cases.proofs.Laying.{gone_on}
use Rattle.cases.proofs.reading.over_again.Goals as goal

pub loop-at-preserved : goal.loop-at-preserved
loop-at-preserved c = (
  omega (arith, length-set {A = ℕ}),
  sym (gone_on c.min-end.result c.loop-at.at c.args.size c.loop-at.list c.loop-at-test.true) ∙ c.loop-at.invariant.1,
)
