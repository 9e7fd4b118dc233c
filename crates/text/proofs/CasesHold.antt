-- The definitions compute to the bytes that are printed.
use Rattle.std.proofs.Common.{refl}
use Rattle.measure.specs.Table.{Agree}
use Rattle.text.specs.Decimal.{decimal_in}
use Rattle.text.specs.Cases.{cases}

pub cases_hold : Agree cases
unfolding decimal_in
cases_hold = (refl, (refl, (refl, (refl, tt))))
