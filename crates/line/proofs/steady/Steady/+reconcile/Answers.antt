-- `reconcile` meets its contract: it is the same read after the block, which ends it, or what is left of it is the
-- call's.
use Rattle.line.proofs.UnderWay.{finds_left}
use Rattle.line.proofs.steady.Steady.+reconcile.Goals as goal

pub returns-in-Some : goal.returns-in-Some
returns-in-Some t c =
    finds_left _ _ _ c.args.self.now.in_range c.look_block-at.ensures.0 c.look_block-at.ensures.3 c.in-Some.ensures
