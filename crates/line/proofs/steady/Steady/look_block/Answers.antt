-- `look_block` meets its contract: a read under way stays the same read with each cycle of the block.
use Rattle.std.proofs.Common.{◌<◌, length, arith}
use Rattle.line.proofs.Times.{in_wave}
use Rattle.line.proofs.UnderWay.{way_on}
use Rattle.line.proofs.steady.Steady.look_block.Goals as goal

-- each cycle that is looked at starts before the read's end, and so it is one of the wave's
pub loop-at-preserved : goal.loop-at-preserved
loop-at-preserved c =
    let begun : c.loop-at.at.start.0 < c.args.t.0 = omega (arith, c.loop-at-test.true, c.min-stop.ensures) in
    let here =
    in_wave c.args.self.w.0 (length c.args.self.wave.now) c.loop-at.at.next.0 c.args.t.0 (omega arith)
    c.requires.2 in (
      c.look_on-at.ensures.2,
      omega (arith, c.look_on-at.ensures.1, here),
      way_on _ _ _ _ _ _ _ _ _ _ c.loop-at.invariant.2 here c.loop-at.invariant.0 begun c.look_on-at.ensures.0
          c.look_on-at.ensures.1,
    )
