-- The definitions compute to what the rules print.
use mathlib.Core.Path.{refl}
use Rattle.measure.specs.Table.{Agree}
use Rattle.line.specs.Smooth.{smooth_from}
use Rattle.line.specs.Warp.{look, dropped, warp_from, warp}
use Rattle.line.specs.Settle.{settle}
use Rattle.line.specs.Cases.{cases}

pub cases_hold : Agree cases
unfolding smooth_from look dropped warp_from warp settle
cases_hold = (refl, (refl, (refl, (refl, (refl, (refl, (refl, (refl, (refl, (refl, tt))))))))))
