-- `turning` meets its contract: the gaps are how far M2 starts below M1 and M3, and two divisions give the steps that
-- it stays there.
use Rattle.std.proofs.Common.{◌+◌, ◌≡◌, arith}
use Rattle.settings.specs.Margins.{ends_of}
use Rattle.settings.proofs.InRange.{starts}
use Rattle.settings.proofs.PickRanges.{Rising}
use Rattle.settings.proofs.BestCount.{turning, best_turning}
use Rattle.settings.proofs.picking.turning.Goals as goal

pub overflow_sub-gap1 : goal.overflow_sub-gap1
overflow_sub-gap1 c = omega (arith, starts c.args.settings c.requires)

pub overflow_mul-gap3 : goal.overflow_mul-gap3
overflow_mul-gap3 c = omega (arith, starts c.args.settings c.requires)

pub steps_below-requires : goal.steps_below-requires
steps_below-requires c = omega (arith, starts c.args.settings c.requires)

pub returns : goal.returns
returns c =
    let s = c.args.settings in
    let start : Rising s.pair.a.0 s.pair.b.0 s.pair.g.0 (ends_of s.clocks) = starts s c.requires in
    let e : 1 + c.steps_below.result ≡ turning s.pair.a.0 s.pair.b.0 s.pair.g.0 (ends_of s.clocks) =
    omega (arith, c.steps_below.ensures) in
    rw e (best_turning _ _ _ _ start)
