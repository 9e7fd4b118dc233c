-- The sampling count that is picked for the fitter: the best of all in range, said by comparing margins.
use Rattle.std.specs.Prelude.{ℕ, ◌<◌, ◌≡◌, Bool, true, false, ◌&&◌, ℤ, ◌≤ℤ◌, ◌<ℤ◌, Result}
use Rattle.std.specs.Int.Signed.{le_z}
use Rattle.measure.specs.Choose.{choose}
use Rattle.measure.specs.Ranges.{subcell, sampling, settling}
use Rattle.measure.specs.Refusals.{Answer, given, refused, says}
use Rattle.measure.specs.declared.ReadCycles.{ReadCycles}
use Rattle.measure.specs.declared.Refusal.{Refusal}
use Rattle.settings.specs.Margins.{Ends, m1, m2, m3, zero_or_more, accepted}
use Rattle.settings.specs.Answers.{ends_fit}

-- M30: the lower of two margins
abbrev pub lower : ℤ → ℤ → ℤ
lower one other = choose (le_z one other) one other

-- M30: the least of a sampling count's margins M1, M2 and M3
unfoldable pub least : (a b g k : ℕ) (e : Ends) → ℤ
least a b g k e = lower (m1 a g e) (lower (m2 a g k e) (m3 a b g k e))

-- M30: k is the best: it is in range, none in range has a greater least margin, and each smaller one has a lesser
pub record Best (a b g k : ℕ) (e : Ends) : Type 0 where
  pub in_range : sampling k ≡ true
  pub none_better : (other : ℕ) → sampling other ≡ true → least a b g other e ≤ℤ least a b g k e
  pub smaller_worse : (other : ℕ) → sampling other ≡ true → other < k → least a b g other e <ℤ least a b g k e

-- M31: no k in range has three margins of zero or more
abbrev pub NoneAccepted : (a b g : ℕ) (e : Ends) → Type 0
NoneAccepted a b g e = (k : ℕ) → sampling k ≡ true → accepted a b g k e ≡ false

-- R58, R76: a, b, g and the ends are in range
abbrev pub pickable : (a b g : ℕ) (e : Ends) → Bool
pickable a b g e = subcell a && subcell b && settling g && ends_fit e

-- M31, R58, R76: What is answered: refusal 1 where a setting is out of range, then refusal 9 where no k is accepted,
-- and otherwise the best k, whose least margin is zero or more.
pub data Picks (a b g : ℕ) (e : Ends) : Answer ℕ → Type 0 where
  out_of_range : pickable a b g e ≡ false → Picks a b g e (refused 1 0)
  none : pickable a b g e ≡ true → NoneAccepted a b g e → Picks a b g e (refused 9 0)
  best : {k : ℕ} → pickable a b g e ≡ true → Best a b g k e → zero_or_more (least a b g k e) ≡ true
      → Picks a b g e (given k)

-- A8: what each case of the code's answer says
abbrev pub picked_says : Result ReadCycles Refusal → Answer ℕ
picked_says answer = says (λ k. k.0) answer
