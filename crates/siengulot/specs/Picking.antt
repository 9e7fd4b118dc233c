-- What crosses to C of a picked sampling count.
use Rattle.std.specs.Prelude.{ℕ, ◌≡◌}
use Rattle.measure.specs.Refusals.{Answer}
use Rattle.settings.specs.Margins.{Ends}
use Rattle.siengulot.specs.Crossing.{numbered}
use Rattle.settings.specs.Pick.{Picks}

-- H11: the two numbers are those of an answer that fits
pub record PickCrosses (a b g : ℕ) (e : Ends) (number k : ℕ) : Type 0 where
  pub answer : Answer ℕ
  pub fits : Picks a b g e answer
  pub crosses : numbered answer ≡ (number, k)
