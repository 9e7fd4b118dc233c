-- The number that the search carries along: it grows by a bit at its low end, loses one at its high end, and is that of
-- the mark where its bits are the mark.
use mathlib.Core.Path.{◌≡◌, refl, sym, ap, subst, ◌∙◌}
use mathlib.Core.Logic.{dite}
use mathlib.Core.Bool.{Bool, true, false, ◌&&◌}
use mathlib.Core.List.{List, [], ◌∷◌, ◌++◌}
use Prim.Native.Nat.{ℕ, zero, suc, ◌+◌, ◌*◌, ◌-◌, ◌^◌, ◌<◌, ◌≤◌}
use native.Mathlib.Nat.{pow-succ'}
use native.Mathlib.Decide.{ℕ_discrete}
use native.Mathlib.Omega.{arith}
use lib.Dec.{T, eqb}
use lib.ListN.{length, take, drop, length-drop}
use lib.Seq.{length-take-le}
use borrow.Author.Tests.{eq-eqb, ne_eqb}
use Rattle.measure.specs.Levels.{Levels}
use Rattle.measure.proofs.LevelLaws.{most_take, most_drop}
use Rattle.timecode.specs.Words.{same}
use Rattle.timecode.specs.Carried.{carried}

pub carried_last : (before : ℕ) (bits : List ℕ) (bit : ℕ)
    → carried before (bits ++ bit ∷ []) ≡ 2 * carried before bits + bit
unfolding carried
carried_last before [] bit = refl
carried_last before (x ∷ bits) bit = carried_last (2 * before + x) bits bit

spread : (before bit p rest : ℕ) → (2 * before + bit) * p + rest ≡ before * (2 * p) + ((2 * 0 + bit) * p + rest)
spread before bit p rest = omega arith

pub carried_first : (before : ℕ) (bits : List ℕ) → carried before bits ≡ before * 2 ^ length bits + carried 0 bits
unfolding carried
carried_first before [] = omega arith
carried_first before (bit ∷ bits) =
    let size = 2 ^ length bits in
    rw (pow-succ' 2 (length bits))
    (carried_first (2 * before + bit) bits ∙ spread before bit size (carried 0 bits)
    ∙ ap (λ (n : ℕ). before * (2 * size) + n) (sym (carried_first (2 * 0 + bit) bits)))

pub carried_cons : (bit : ℕ) (bits : List ℕ) → carried 0 (bit ∷ bits) ≡ bit * 2 ^ length bits + carried 0 bits
unfolding carried
carried_cons bit bits =
    let e : 0 + bit ≡ bit = omega arith in
    carried_first (0 + bit) bits ∙ ap (λ (n : ℕ). n * 2 ^ length bits + carried 0 bits) e

pub carried_grows : (before : ℕ) (bits : List ℕ) → before ≤ carried before bits
unfolding carried
carried_grows before [] = omega arith
carried_grows before (bit ∷ bits) = omega (arith, carried_grows (2 * before + bit) bits)

pub carried_below : (bits : List ℕ) → Levels bits → carried 0 bits < 2 ^ length bits
unfolding carried
carried_below [] levels = omega arith
carried_below (zero ∷ bits) levels = omega (arith, carried_below bits levels.1, pow-succ' 2 (length bits))
carried_below (suc zero ∷ bits) levels =
    omega (arith, carried_first 1 bits, carried_below bits levels.1, pow-succ' 2 (length bits))
carried_below (suc (suc bit) ∷ bits) levels = absurd (omega (arith, levels.0))

-- 15 bits make less than 2 to the power of 15
pub carried_fifteen : (bits : List ℕ) (at : ℕ) → at + 15 ≤ length bits → Levels bits
    → carried 0 (take 15 (drop at bits)) < 32768
carried_fifteen bits at h levels =
    let left : length (drop at bits) ≡ length bits - at = length-drop at bits in
    rw (length-take-le 15 (drop at bits) (omega arith))
    at (carried_below (take 15 (drop at bits)) (most_take 1 15 (drop at bits) (most_drop 1 at bits levels)))

-- bits that make the same number are the same
pair_same : (a b x y : ℕ) (rest : Bool) → x ≤ 1 → y ≤ 1
    → eqb a b && (eqb x y && rest) ≡ eqb (2 * a + x) (2 * b + y) && rest
pair_same a b x y rest p q =
    dite (ℕ_discrete a b)
    (λ e. dite (ℕ_discrete x y)
    (λ f. rw (eq-eqb a b e, eq-eqb x y f, eq-eqb (2 * a + x) (2 * b + y) (omega arith)))
    (λ n. rw (eq-eqb a b e, ne_eqb x y n, ne_eqb (2 * a + x) (2 * b + y) (λ g. n (omega arith)))))
    (λ n. rw (ne_eqb a b n, ne_eqb (2 * a + x) (2 * b + y) (λ g. n (omega arith))))

pub same_carried : (a b : ℕ) (one other : List ℕ) → length one ≡ length other → Levels one → Levels other
    → eqb a b && same one other ≡ eqb (carried a one) (carried b other)
unfolding carried
same_carried a b [] [] e p q = go (eqb a b)
  where
    go : (is : Bool) → is && true ≡ is
    go true = refl
    go false = refl
same_carried a b [] (y ∷ other) e p q = absurd (omega (arith, e))
same_carried a b (x ∷ one) [] e p q = absurd (omega (arith, e))
same_carried a b (x ∷ one) (y ∷ other) e p q =
    pair_same a b x y (same one other) p.0 q.0
    ∙ same_carried (2 * a + x) (2 * b + y) one other (omega (arith, e)) p.1 q.1

-- lists that are the same are as long
pub same_length : (one other : List ℕ) → same one other ≡ true → length one ≡ length other
same_length [] [] e = refl
same_length [] (y ∷ other) e = absurd (subst T (sym e) tt)
same_length (x ∷ one) [] e = absurd (subst T (sym e) tt)
same_length (x ∷ one) (y ∷ other) e = go (eqb x y) e (same_length one other)
  where
    go : (is : Bool) → is && same one other ≡ true → (same one other ≡ true → length one ≡ length other)
        → suc (length one) ≡ suc (length other)
    go true f rest = ap suc (rest f)
    go false f rest = absurd (subst T (sym f) tt)
