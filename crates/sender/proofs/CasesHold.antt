-- The definitions compute to what the rules print.
use mathlib.Core.Path.{refl}
use Rattle.measure.specs.Table.{Agree}
use Rattle.sender.specs.Sending.{wave, cells}
use Rattle.sender.specs.Cases.{cases}

pub cases_hold : Agree cases
unfolding wave cells
cases_hold = (refl, tt)
