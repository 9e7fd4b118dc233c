-- Signed numbers compared through lengths: two that lie so far above the same depth stand to each other as these
-- heights do.
use Rattle.std.proofs.Common.{◌≡◌, refl, sym, ap, subst, ◌∙◌, Bool, true, false, not, ◌&&◌, ℕ, zero, suc, ◌+◌, ◌-◌}
use Rattle.std.proofs.Common.{◌≤◌, ◌<◌, min, add-zero, add_comm, arith, T, leb, ltb, ℤ, pos, negsuc, ◌-ℤ◌, ◌≤ℤ◌}
use Rattle.std.proofs.Common.{lt-ltb, le-ltb, le-leb}
use Rattle.std.proofs.lemmas.Bool.{lt-leb}
use Rattle.std.specs.Int.Signed.{le_z, lt_z}
use native.Mathlib.Decide.{dec_le}
use lib.IntN.{+ℤ-neg_ℤ_cancel}
use Rattle.measure.specs.Choose.{choose}
use Rattle.settings.specs.Margins.{zero_or_more}
use Rattle.settings.specs.Pick.{lower}
use Rattle.settings.proofs.Inequalities.{less_less}

same_test : (x y m n : ℕ) → (m ≤ n → x ≤ y) → (n < m → y < x) → leb x y ≡ leb m n
same_test x y m n up down = go (dec_le m n)
  where
    go : Dec (m ≤ n) → leb x y ≡ leb m n
    go (yes h) = le-leb x y (up h) ∙ sym (le-leb m n h)
    go (no h) = lt-leb x y (down (omega arith)) ∙ sym (lt-leb m n (omega arith))

-- the order of two heights above the same depth
pub shifted_le : (depth m n : ℕ) → le_z (pos m -ℤ pos depth) (pos n -ℤ pos depth) ≡ leb m n
shifted_le zero m n = rw (add-zero m, add-zero n)
shifted_le (suc d) m n = go (dec_le (suc d) m) (dec_le (suc d) n)
  where
    go : Dec (suc d ≤ m) → Dec (suc d ≤ n) → le_z (pos m -ℤ pos (suc d)) (pos n -ℤ pos (suc d)) ≡ leb m n
    go (yes h) (yes l) =
        rw (le-ltb m (suc d) h, le-ltb n (suc d) l)
        (same_test (m - suc d) (n - suc d) m n (λ g. omega arith) (λ g. omega arith))
    go (yes h) (no l) = rw (le-ltb m (suc d) h, lt-ltb n (suc d) (omega arith)) (sym (lt-leb m n (omega arith)))
    go (no h) (yes l) = rw (lt-ltb m (suc d) (omega arith), le-ltb n (suc d) l) (sym (le-leb m n (omega arith)))
    go (no h) (no l) =
        rw (lt-ltb m (suc d) (omega arith), lt-ltb n (suc d) (omega arith))
        (same_test (suc d - suc n) (suc d - suc m) m n (λ g. omega arith) (λ g. omega arith))

not_le : (m n : ℕ) → ltb m n ≡ not (leb n m)
not_le m n = go (dec_le n m)
  where
    go : Dec (n ≤ m) → ltb m n ≡ not (leb n m)
    go (yes h) = rw (le-ltb m n h, le-leb n m h)
    go (no h) = rw (lt-ltb m n (omega arith), lt-leb n m (omega arith))

-- the strict order, by the other
not_le_z : (x y : ℤ) → lt_z x y ≡ not (le_z y x)
not_le_z (pos m) (pos n) = not_le m n
not_le_z (pos m) (negsuc n) = refl
not_le_z (negsuc m) (pos n) = refl
not_le_z (negsuc m) (negsuc n) = not_le n m

pub shifted_lt : (depth m n : ℕ) → lt_z (pos m -ℤ pos depth) (pos n -ℤ pos depth) ≡ ltb m n
shifted_lt depth m n =
    not_le_z (pos m -ℤ pos depth) (pos n -ℤ pos depth) ∙ ap not (shifted_le depth n m) ∙ sym (not_le m n)

pub shifted_lower : (depth m n : ℕ)
    → lower (pos m -ℤ pos depth) (pos n -ℤ pos depth) ≡ pos (min m n) -ℤ pos depth
shifted_lower depth m n = go (dec_le m n)
  where
    go : Dec (m ≤ n) → lower (pos m -ℤ pos depth) (pos n -ℤ pos depth) ≡ pos (min m n) -ℤ pos depth
    go (yes h) =
        let e : min m n ≡ m = omega arith in
        rw (shifted_le depth m n ∙ le-leb m n h, e)
    go (no h) =
        let e : min m n ≡ n = omega arith in
        rw (shifted_le depth m n ∙ lt-leb m n (omega arith), e)

-- equal differences
pub same_difference : (p q m n : ℕ) → p + n ≡ m + q → pos p -ℤ pos q ≡ pos m -ℤ pos n
same_difference p q m n e =
    sym (both_more p q n) ∙ ap (λ (x : ℕ). pos x -ℤ pos (n + q)) e
    ∙ ap (λ (x : ℕ). pos (m + q) -ℤ pos x) (add_comm n q) ∙ both_more m n q
  where
    both_more : (p q n : ℕ) → pos (p + n) -ℤ pos (n + q) ≡ pos p -ℤ pos q
    both_more p q n =
        sym (less_less (pos (p + n)) n q) ∙ ap (λ (z : ℤ). z -ℤ pos q) (+ℤ-neg_ℤ_cancel (pos p) (pos n))

-- the lower of two is zero or more exactly if both are
pub lower_met : (x y : ℤ) → zero_or_more (lower x y) ≡ zero_or_more x && zero_or_more y
lower_met (pos m) (pos n) = go (leb m n)
  where
    go : (first : Bool) → zero_or_more (choose first (pos m) (pos n)) ≡ true
    go true = refl
    go false = refl
lower_met (pos m) (negsuc n) = refl
lower_met (negsuc m) (pos n) = refl
lower_met (negsuc m) (negsuc n) = go (leb n m)
  where
    go : (first : Bool) → zero_or_more (choose first (negsuc m) (negsuc n)) ≡ false
    go true = refl
    go false = refl

-- what is at most a negative number is negative
pub negative_below : (x y : ℤ) → x ≤ℤ y → zero_or_more y ≡ false → zero_or_more x ≡ false
negative_below x (pos n) h e = absurd (subst T e tt)
negative_below (pos m) (negsuc n) h e = absurd h.le
negative_below (negsuc m) (negsuc n) h e = refl
