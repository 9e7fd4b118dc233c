-- The definitions compute to what the rules print.
use Rattle.std.proofs.Common.{refl}
use Rattle.measure.specs.Table.{Agree}
use Rattle.capture.specs.Numbers.{following, group, number_at, grouped}
use Rattle.capture.specs.Capture.{fitting_at, some_runs_from, runs_from}
use Rattle.capture.specs.Cases.{cases}

pub cases_hold : Agree cases
unfolding following group number_at grouped fitting_at some_runs_from runs_from
cases_hold = (refl, (refl, (refl, (refl, (refl, tt)))))
