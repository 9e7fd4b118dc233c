-- Warp by lengths computes to what is worked out by hand.
use mathlib.Core.Path.{refl}
use Rattle.measure.specs.Table.{Agree}
use Rattle.line.specs.Wander.{start_of, shared, all_are, share_from, warp_by_lengths}
use Rattle.line.specs.WanderCases.{cases}

pub cases_hold : Agree cases
unfolding start_of shared all_are share_from warp_by_lengths
cases_hold = (refl, (refl, (refl, (refl, (refl, (refl, tt))))))
