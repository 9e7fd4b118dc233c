-- `smooth_block` meets its contract: the first step is made here, and where it is not the last a call does the rest.
use Rattle.std.proofs.Common.{◌+◌, ◌-◌, length, drop, arith, length-take}
use Rattle.line.specs.Windows.{level_at}
use Rattle.line.proofs.Windows.{block_one, block_more}
use Rattle.line.proofs.smoothing.smooth_block.Goals as goal

pub returns-then-g-eq1 : goal.returns-then-g-eq1
returns-then-g-eq1 c = block_one (level_at c.args.levels.now) _ _ _ c.if-g-eq1.true c.agree_apart.ensures

pub returns : goal.returns
returns c =
    let wanted = length c.args.out.now + (c.args.g - 1) in
    block_more (level_at c.args.levels.now) _ _ _ _ c.agree_apart-2.new.out (drop wanted c.args.held.now)
    (omega (arith, c.requires, length-take wanted c.args.held.now)) c.agree_apart-2.ensures c.widen.ensures
