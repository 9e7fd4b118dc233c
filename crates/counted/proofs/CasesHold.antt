-- The definitions compute to what the rules print.
use mathlib.Core.Path.{refl}
use Rattle.measure.specs.Lists.{first_above}
use Rattle.measure.specs.Table.{Agree}
use Rattle.counted.specs.Counted.{from_mark, counted, current}
use Rattle.counted.specs.Answers.{counted_bits}
use Rattle.counted.specs.Cases.{cases}

pub cases_hold : Agree cases
unfolding counted_bits counted current from_mark first_above
cases_hold = (refl, (refl, (refl, tt)))
