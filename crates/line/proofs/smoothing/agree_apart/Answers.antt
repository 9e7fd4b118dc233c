-- `agree_apart` meets its contract: each place so far has what its two levels agree on.
use Rattle.std.proofs.Common.{◌+◌, ◌<◌, ◌≢◌, length, sym, arith, get_or-set_other, get_or-set_same, below_more}
use Rattle.measure.proofs.LevelLaws.{get_d_any}
use Rattle.line.proofs.Windows.{listed_by}
use Rattle.line.proofs.smoothing.agree_apart.Goals as goal

pub loop-i-preserved : goal.loop-i-preserved
loop-i-preserved c =
    let levels = c.args.levels.now in
    let i = c.loop-i.i in
    let is =
    rw (
      get_d_any levels (i + c.args.apart) 0 2 (omega arith),
      get_d_any levels i 0 2 (omega arith),
    ) at c.agreed.ensures in
    below_more _ _
    (λ k h. let other : k ≢ i = omega arith in rw get_or-set_other (c.loop-i.invariant k h))
    (let here : i < length c.loop-i.out = omega arith in rw get_or-set_same (sym is))

pub returns : goal.returns
returns c =
    listed_by _ c.loop-i.out _ c.loop-i.auto.out λ k h. c.loop-i.invariant k (omega (arith, c.loop-i-test.false))
