-- What stands at the front of bytes follows from the first byte and what stands after it, and is as small as its bytes
-- allow.
use Rattle.std.proofs.Common.{ℕ, zero, suc, ◌+◌, ◌-◌, ◌*◌, ◌≤◌, ◌<◌, ◌≡◌, refl, List, [], ◌∷◌, Bool, true, false}
use Rattle.std.proofs.Common.{arith, ltb, leb, eqb, length, drop, get_or, lt-ltb, le-ltb, le-leb}
use Rattle.std.proofs.Common.{eq-eqb, ne_eqb, leb-true, ltb-true}
use native.Mathlib.Nat.{pow-succ', one-le-pow, pow-le-pow_right}
use borrow.Author.Tests.{lt-leb}
use Rattle.measure.specs.Choose.{choose}
use Rattle.capture.specs.Numbers.{Group, value, cut, long, before, following, group, last_most, bound}

-- what holds of both of a choice holds of the choice
pub either : {A : Type 0} (P : A → Type 0) (test : Bool) {one other : A} → (test ≡ true → P one)
    → (test ≡ false → P other) → P (choose test one other)
either P true f g = f refl
either P false f g = g refl

-- a byte that follows another of its number
pub following_none : (more : ℕ) → following more [] ≡ cut
unfolding following
following_none more = refl

module _ (more b : ℕ) (l : List ℕ) where
  pub following_zero : b ≡ 0 → following more (b ∷ l) ≡ long
  unfolding following
  following_zero e = go more
    where
      go : (more : ℕ) → following more (b ∷ l) ≡ long
      go zero = simp (eq-eqb b 0 e)
      go (suc more) = simp (eq-eqb b 0 e)

  pub following_last : more ≡ 0 → (b ≡ 0 → ⊥) → b ≤ last_most → following more (b ∷ l) ≡ value b 1
  unfolding following
  following_last e n h = simp (e, ne_eqb b 0 n, le-leb b last_most h)

  pub following_over : more ≡ 0 → (b ≡ 0 → ⊥) → last_most < b → following more (b ∷ l) ≡ long
  unfolding following
  following_over e n h = simp (e, ne_eqb b 0 n, lt-leb b last_most h)

pub following_one : (more b : ℕ) (l : List ℕ) → (more ≡ 0 → ⊥) → (b ≡ 0 → ⊥) → b < 128
    → following more (b ∷ l) ≡ value b 1
unfolding following
following_one zero b l p n h = absurd (p refl)
following_one (suc more) b l p n h = simp (ne_eqb b 0 n, lt-ltb b 128 h)

pub following_on : (more b : ℕ) (l : List ℕ) → (more ≡ 0 → ⊥) → 128 ≤ b
    → following more (b ∷ l) ≡ before b (following (more - 1) l)
unfolding following
following_on zero b l p h = absurd (p refl)
following_on (suc more) b l p h =
    let n : b ≡ 0 → ⊥ = λ e. omega arith in
    let fewer : suc more - 1 ≡ more = omega arith in
    simp (ne_eqb b 0 n, le-ltb b 128 h, fewer)

-- a last byte of 0, at a place of the bytes
pub following_zero_at : (more at b : ℕ) (s rest : List ℕ) → drop at s ≡ b ∷ rest → b ≡ 0
    → following more (drop at s) ≡ long
following_zero_at more at b s rest e z = rw e (following_zero more b rest z)

-- a number's first byte
pub group_none : (more : ℕ) → group more [] ≡ cut
unfolding group
group_none more = refl

pub group_one : (more b : ℕ) (l : List ℕ) → (more ≡ 0 → ⊥) → b < 128 → group more (b ∷ l) ≡ value b 1
unfolding group
group_one zero b l p h = absurd (p refl)
group_one (suc more) b l p h = simp (lt-ltb b 128 h)

pub group_on : (more b : ℕ) (l : List ℕ) → (more ≡ 0 → ⊥) → 128 ≤ b
    → group more (b ∷ l) ≡ before b (following (more - 1) l)
unfolding group
group_on zero b l p h = absurd (p refl)
group_on (suc more) b l p h =
    let fewer : suc more - 1 ≡ more = omega arith in
    simp (le-ltb b 128 h, fewer)

-- a number has a byte, and no more of them than there are
abbrev pub Ends : ℕ → Group → Type 0
Ends len (value v size) = (1 ≤ size) × (size ≤ len)
Ends len cut = Unit {0}
Ends len long = Unit {0}

ends_before : (len byte : ℕ) (g : Group) → Ends len g → Ends (suc len) (before byte g)
ends_before len byte (value v size) e = (omega arith, omega arith)
ends_before len byte cut e = tt
ends_before len byte long e = tt

following_ends : (more : ℕ) (l : List ℕ) → Ends (length l) (following more l)
unfolding following
following_ends more [] = tt
following_ends zero (byte ∷ l) =
    either (Ends (suc (length l))) (eqb byte 0) (λ e. tt)
    (λ e. either (Ends (suc (length l))) (leb byte last_most) (λ f. (omega arith, omega arith)) (λ f. tt))
following_ends (suc more) (byte ∷ l) =
    either (Ends (suc (length l))) (eqb byte 0) (λ e. tt)
    (λ e. either (Ends (suc (length l))) (ltb byte 128) (λ f. (omega arith, omega arith))
    (λ f. ends_before (length l) byte (following more l) (following_ends more l)))

pub group_ends : (more : ℕ) (l : List ℕ) → Ends (length l) (group more l)
unfolding group
group_ends more [] = tt
group_ends zero (byte ∷ l) =
    either (Ends (suc (length l))) (leb byte last_most) (λ f. (omega arith, omega arith)) (λ f. tt)
group_ends (suc more) (byte ∷ l) =
    either (Ends (suc (length l))) (ltb byte 128) (λ f. (omega arith, omega arith))
    (λ f. ends_before (length l) byte (following more l) (following_ends more l))

-- entries that are bytes
abbrev pub Bytes : List ℕ → Type 0
Bytes l = (i : ℕ) → get_or l i 0 < 256

-- how great a number can be, and how many bytes it can have
abbrev pub Within : ℕ → ℕ → Group → Type 0
Within more len (value v size) = (v < bound more) × ((1 ≤ size) × ((size ≤ more + 1) × (size ≤ len)))
Within more len cut = Unit {0}
Within more len long = Unit {0}

pub bound_suc : (more : ℕ) → bound (suc more) ≡ 128 * bound more
bound_suc more = omega (arith, pow-succ' 128 more)

pub bound_some : (more : ℕ) → 1 ≤ bound more
bound_some more = omega (arith, one-le-pow more 128 (omega arith))

pub bound_le : (more most : ℕ) → more ≤ most → bound more ≤ bound most
bound_le more most h = omega (arith, pow-le-pow_right {n = 128} (omega arith) {i = more} {j = most} h)

within_before : (more len b : ℕ) (g : Group) → b < 256 → Within more len g → Within (suc more) (suc len) (before b g)
within_before more len b (value v size) h w = omega (arith, bound_suc more)
within_before more len b cut h w = tt
within_before more len b long h w = tt

-- a number of one byte
within_one : (more b : ℕ) (l : List ℕ) → b < 128 → Within (suc more) (suc (length l)) (value b 1)
within_one more b l h = omega (arith, bound_suc more, bound_some more)

-- a number whose last byte is as great as it may be
within_last : (b : ℕ) (l : List ℕ) → b ≤ last_most → Within zero (suc (length l)) (value b 1)
within_last b l h = omega arith

pub following_within : (more : ℕ) (l : List ℕ) → Bytes l → Within more (length l) (following more l)
unfolding following
following_within more [] h = tt
following_within zero (b ∷ l) h =
    either (Within zero (suc (length l))) (eqb b 0) (λ e. tt)
    (λ e. either (Within zero (suc (length l))) (leb b last_most) (λ f. within_last b l (leb-true b last_most f))
    (λ f. tt))
following_within (suc more) (b ∷ l) h =
    either (Within (suc more) (suc (length l))) (eqb b 0) (λ e. tt)
    (λ e. either (Within (suc more) (suc (length l))) (ltb b 128)
    (λ f. within_one more b l (ltb-true b 128 f))
    (λ f. within_before more (length l) b (following more l) (h 0) (following_within more l (λ i. h (suc i)))))

pub group_within : (more : ℕ) (l : List ℕ) → Bytes l → Within more (length l) (group more l)
unfolding group
group_within more [] h = tt
group_within zero (b ∷ l) h =
    either (Within zero (suc (length l))) (leb b last_most) (λ f. within_last b l (leb-true b last_most f)) (λ f. tt)
group_within (suc more) (b ∷ l) h =
    either (Within (suc more) (suc (length l))) (ltb b 128)
    (λ f. within_one more b l (ltb-true b 128 f))
    (λ f. within_before more (length l) b (following more l) (h 0) (following_within more l (λ i. h (suc i))))
