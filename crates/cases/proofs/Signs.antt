-- The signs of a text, one after another.
use Rattle.std.proofs.Common.{◌≡◌, ℕ, suc, ◌+◌, ◌-◌, ◌*◌, ◌<◌, ◌≤◌, List, [], ◌∷◌, length, drop, refl, arith, eq-eqb, ne_eqb, lt-ltb, le-ltb, Some, None, Option, true, false, Bool}
use Rattle.measure.specs.Choose.{choose}
use Rattle.cases.specs.Reading.{first_of, digit_of, goes_on, value_on, digits_on, first_digit}

-- where the sign stands first, none is before it; where another does, there is one more
pub first_hit : (sign first : ℕ) (more : List ℕ) → first ≡ sign → first_of sign (first ∷ more) ≡ 0
unfolding first_of
first_hit sign first more e = rw (eq-eqb first sign e) refl

pub first_miss : (sign first : ℕ) (more : List ℕ) → (first ≡ sign → ⊥)
    → first_of sign (first ∷ more) ≡ first_of sign more + 1
unfolding first_of
first_miss sign first more e = rw (ne_eqb first sign e) (omega arith)

-- a sign that is a digit, and one that is none
pub digit_is : (sign : ℕ) → 48 ≤ sign → sign ≤ 57 → digit_of sign ≡ sign - 48
digit_is sign l m = rw (le-ltb sign 48 l, le-ltb 57 sign m)

pub digit_below : (sign : ℕ) → sign < 48 → digit_of sign ≡ 10
digit_below sign l = rw (lt-ltb sign 48 l)

pub digit_above : (sign : ℕ) → 57 < sign → digit_of sign ≡ 10
digit_above sign l = rw (le-ltb sign 48 (omega arith), lt-ltb 57 sign l)

-- a first digit
pub digit_hit : (first : ℕ) (more : List ℕ) → digit_of first < 10 → first_digit (first ∷ more) ≡ 0
unfolding first_digit
digit_hit first more d = rw (lt-ltb (digit_of first) 10 d) refl

pub digit_miss : (first : ℕ) (more : List ℕ) → 10 ≤ digit_of first
    → first_digit (first ∷ more) ≡ first_digit more + 1
unfolding first_digit
digit_miss first more d = rw (le-ltb (digit_of first) 10 d) (omega arith)

-- a number goes on with a sign, or ends before it
module _ (text after : List ℕ) (value sign : ℕ) (e : text ≡ sign ∷ after) where
  pub number_goes_on : (more : ℕ) → choose (goes_on value sign) (Some (value * 10 + digit_of sign)) None ≡ Some more
      → (value_on value text ≡ value_on more after)
      × (drop (digits_on value text) text ≡ drop (digits_on more after) after)
  unfolding value_on digits_on
  number_goes_on more f = rw e (go (goes_on value sign) refl f)
    where
      go : (on : Bool) → goes_on value sign ≡ on → choose on (Some (value * 10 + digit_of sign)) None ≡ Some more
          → (choose (goes_on value sign) (value_on (value * 10 + digit_of sign) after) value ≡ value_on more after)
          × (drop (choose (goes_on value sign) (suc (digits_on (value * 10 + digit_of sign) after)) 0) (sign ∷ after)
          ≡ drop (digits_on more after) after)
      go true g k = let same : value * 10 + digit_of sign ≡ more = cc in rw (g, same) (refl, refl)
      go false g k = let z : ◌≡◌ {A = ℕ} 0 1 = cc in absurd (omega arith)

  pub number_ends : ◌≡◌ {A = Option ℕ} (choose (goes_on value sign) (Some (value * 10 + digit_of sign)) None) None
      → (value_on value text ≡ value) × (digits_on value text ≡ 0)
  unfolding value_on digits_on
  number_ends f = rw e (go (goes_on value sign) refl f)
    where
      go : (on : Bool) → goes_on value sign ≡ on
          → ◌≡◌ {A = Option ℕ} (choose on (Some (value * 10 + digit_of sign)) None) None
          → (choose (goes_on value sign) (value_on (value * 10 + digit_of sign) after) value ≡ value)
          × (choose (goes_on value sign) (suc (digits_on (value * 10 + digit_of sign) after)) 0 ≡ 0)
      go true g k = let z : ◌≡◌ {A = ℕ} 0 1 = cc in absurd (omega arith)
      go false g k = rw g (refl, refl)

pub number_none : (text : List ℕ) (value : ℕ) → length text ≡ 0
    → (value_on value text ≡ value) × (digits_on value text ≡ 0)
unfolding value_on digits_on
number_none [] value e = (refl, refl)
number_none (first ∷ more) value e = absurd (omega arith)
