-- What is shown of the picked sampling count.
use Rattle.std.specs.Prelude.{ℕ, ◌≡◌, true, ◌≤ℤ◌}
use Rattle.measure.specs.Ranges.{sampling}
use Rattle.measure.specs.Refusals.{Answer, given, refused}
use Rattle.settings.specs.Margins.{Ends, ends, steady, accepted}
use Rattle.settings.specs.Pick.{least, pickable, Best, NoneAccepted, Picks}

-- M32: one answer fits, and no other
pub record OneFits (a b g : ℕ) (e : Ends) : Type 0 where
  pub answer : Answer ℕ
  pub fits : Picks a b g e answer
  pub only : (other : Answer ℕ) → Picks a b g e other → other ≡ answer

-- M32
pub record PickShown : Type 0 where
  -- whatever comes in, exactly one answer fits
  pub one_fits : (a b g : ℕ) (e : Ends) → OneFits a b g e
  -- the k that is given is accepted, and no other in range does better
  pub accepts : (a b g k : ℕ) (e : Ends) → Picks a b g e (given k) → accepted a b g k e ≡ true
  pub none_better : (a b g k : ℕ) (e : Ends) → Picks a b g e (given k)
      → (other : ℕ) → sampling other ≡ true → least a b g other e ≤ℤ least a b g k e
  -- with a, b, g and the ends in range, refusal 9 is given exactly if no k in range has three margins of zero or more
  pub refused_none : (a b g : ℕ) (e : Ends) → Picks a b g e (refused 9 0) → NoneAccepted a b g e
  pub none_refused : (a b g : ℕ) (e : Ends) → pickable a b g e ≡ true → NoneAccepted a b g e
      → Picks a b g e (refused 9 0)
  -- both come up: equal clocks with Moore's cell of 18 cycles are given k 9, and 10 where both
  -- wander by a twentieth; of the least settings, whose best k has margins below zero, refusal 9 is given
  pub given_best : Best 5 13 1 9 (steady 100 100)
  pub is_given : Picks 5 13 1 (steady 100 100) (given 9)
  pub is_given_over : Picks 5 13 1 (ends 95 105 95 105) (given 10)
  pub refused_best : Best 1 1 1 1 (steady 1 1)
  pub is_refused : Picks 1 1 1 (steady 1 1) (refused 9 0)
