-- Smoothing with a settling count g: a change makes its cycle and the g - 1 after it unknown, so a stretch of one level
-- is known from its cycle g on.
use mathlib.Core.Path.{◌≡◌, refl, subst, sym, ap, ◌∙◌}
use mathlib.Core.Logic.{◌≢◌, dite}
use mathlib.Core.Bool.{Bool, true, false}
use mathlib.Core.List.{List, [], ◌∷◌}
use Prim.Native.Nat.{ℕ, zero, suc, ◌+◌, ◌-◌, ◌≤◌, ◌<◌}
use native.Mathlib.Nat.{not-suc-le-zero}
use native.Mathlib.Decide.{ℕ_discrete}
use native.Mathlib.Omega.{arith}
use lib.Dec.{eqb}
use lib.ListN.{length, get_or}
use borrow.Author.Tests.{eq-eqb, ne_eqb}
use Rattle.measure.specs.Levels.{AtMost, Levels}
use Rattle.measure.proofs.Stretches.{Stretch}
use Rattle.line.specs.Smooth.{unknown, seen, smooth_from, smooth}

pub length_smooth_from : (g left before : ℕ) (levels : List ℕ)
    → length (smooth_from g left before levels) ≡ length levels
unfolding smooth_from
length_smooth_from g left before [] = refl
length_smooth_from g left before (level ∷ levels) =
    ap suc (length_smooth_from g (unknown g left (eqb before level) - 1) level levels)

pub length_smooth : (g : ℕ) (levels : List ℕ) → length (smooth g levels) ≡ length levels
length_smooth g = length_smooth_from g 0 1

-- no cycle becomes more than unknown
pub smooth_most : (g left before : ℕ) (levels : List ℕ) → Levels levels → AtMost 2 (smooth_from g left before levels)
unfolding smooth_from
smooth_most g left before [] all = tt
smooth_most g left before (level ∷ levels) all = (this n, smooth_most g (n - 1) level levels all.1)
  where
    n : ℕ
    n = unknown g left (eqb before level)

    this : (n : ℕ) → seen n level ≤ 2
    this zero = omega (arith, all.0)
    this (suc n) = omega arith

pub unknown_most : (g left : ℕ) (same : Bool) → left ≤ g → unknown g left same ≤ g
unknown_most g left true h = h
unknown_most g left false h = omega arith

-- with no change in the first m cycles, what is known of them is the level before
pub flat : (g : ℕ) (levels : List ℕ) (left v i m : ℕ) → ((j : ℕ) → j < m → get_or levels j 2 ≡ v) → m ≤ length levels
    → left ≤ i → i < m
    → get_or (smooth_from g left v levels) i 2 ≡ v
unfolding smooth_from
flat g [] left v i m h p q r = absurd (omega arith)
flat g (x ∷ xs) zero v zero m h p q r = rw (eq-eqb v x (sym (h 0 (omega arith)))) (h 0 (omega arith))
flat g (x ∷ xs) (suc left) v zero m h p q r = absurd (not-suc-le-zero q)
flat g (x ∷ xs) left v (suc i) m h p q r =
    rw (eq-eqb v x (sym e))
    (flat g xs (left - 1) x i (m - 1) (λ j y. h (suc j) (omega arith) ∙ sym e) (omega arith) (omega arith)
    (omega arith) ∙ e)
  where
    e : x ≡ v
    e = h 0 (omega arith)

-- a stretch of m cycles from the first on is known after g of them, whatever stood before
turn : (g : ℕ) (levels : List ℕ) (left u v i m : ℕ) → left ≤ g → ((j : ℕ) → j < m → get_or levels j 2 ≡ v)
    → m ≤ length levels → g ≤ i → i < m
    → get_or (smooth_from g left u levels) i 2 ≡ v
unfolding smooth_from
turn g levels left u v i m o h p q r =
    dite (ℕ_discrete v u)
    (λ e. subst (λ (y : ℕ). get_or (smooth_from g left y levels) i 2 ≡ v) e (flat g levels left v i m h p (omega arith) r))
    (λ d. changed levels i h p q r d)
  where
    nought : {g : ℕ} → g ≤ 0 → 0 ≡ g
    nought q = omega arith

    changed : (levels : List ℕ) (i : ℕ) → ((j : ℕ) → j < m → get_or levels j 2 ≡ v) → m ≤ length levels → g ≤ i → i < m
        → v ≢ u
        → get_or (smooth_from g left u levels) i 2 ≡ v
    changed [] i h p q r d = absurd (omega arith)
    changed (x ∷ xs) zero h p q r d =
        rw (ne_eqb u x (omega (arith, h 0 (omega arith)))) (subst (λ (y : ℕ). seen y x ≡ v) (nought q) (h 0 r))
    changed (x ∷ xs) (suc i) h p q r d =
        rw (ne_eqb u x (omega (arith, h 0 (omega arith))))
        (flat g xs (g - 1) x i (m - 1) (λ j y. h (suc j) (omega arith) ∙ sym (h 0 (omega arith))) (omega arith)
        (omega arith) (omega arith)
        ∙ h 0 (omega arith))

-- a stretch from cycle c on is known from its cycle g on
pub stretch_known : (g : ℕ) (levels : List ℕ) (left u c k v : ℕ) → left ≤ g → Stretch (λ i. get_or levels i 2) c k v
    → c + k ≤ length levels
    → (i : ℕ) → c + g ≤ i → i < c + k → get_or (smooth_from g left u levels) i 2 ≡ v
unfolding smooth_from
stretch_known g levels left u zero k v o h p i q r =
    turn g levels left u v i k o (λ j y. h j (omega arith) (omega arith)) (omega arith) (omega arith) (omega arith)
stretch_known g [] left u (suc c) k v o h p i q r = absurd (omega arith)
stretch_known g (x ∷ xs) left u (suc c) k v o h p zero q r = absurd (omega arith)
stretch_known g (x ∷ xs) left u (suc c) k v o h p (suc i) q r =
    stretch_known g xs (unknown g left (eqb u x) - 1) x c k v (omega (arith, unknown_most g left (eqb u x) o))
    (λ j y z. h (suc j) (omega arith) (omega arith)) (omega arith) i (omega arith) (omega arith)

-- what is known after smoothing was so before, at its cycle and at the g before that; v stands before the first
pub kept : (g left v : ℕ) (l : List ℕ) (c u : ℕ) → left ≤ g → u ≢ 2 → get_or (smooth_from g left v l) c 2 ≡ u
    → (left ≤ c) × (c < g → v ≡ u) × ((i : ℕ) → i ≤ c → c ≤ i + g → get_or l i 2 ≡ u)
unfolding smooth_from
kept g left v [] c u o h e = absurd (h (sym e))
kept g left v (x ∷ xs) zero u o h e =
    dite (ℕ_discrete v x)
    (λ y. let (z, t) = first left (rw (eq-eqb v x y) at e) in (omega arith, (λ p. y ∙ t), here t))
    (λ y. let (z, t) = first g (rw (ne_eqb v x y) at e) in (omega arith, (λ p. absurd (omega arith)), here t))
  where
    first : (n : ℕ) → seen n x ≡ u → (n ≡ 0) × (x ≡ u)
    first zero e = (refl, e)
    first (suc n) e = absurd (h (sym e))

    here : x ≡ u → (i : ℕ) → i ≤ 0 → 0 ≤ i + g → get_or (x ∷ xs) i 2 ≡ u
    here z zero p q = z
    here z (suc i) p q = absurd (omega arith)
kept g left v (x ∷ xs) (suc c) u o h e =
    go (kept g (unknown g left (eqb v x) - 1) x xs c u (omega (arith, unknown_most g left (eqb v x) o)) h e)
  where
    still : v ≡ x → unknown g left (eqb v x) ≡ left
    still y = rw (eq-eqb v x y)

    anew : v ≢ x → unknown g left (eqb v x) ≡ g
    anew y = rw (ne_eqb v x y)

    go : (unknown g left (eqb v x) - 1 ≤ c) × (c < g → x ≡ u) × ((i : ℕ) → i ≤ c → c ≤ i + g → get_or xs i 2 ≡ u)
        → (left ≤ suc c) × (suc c < g → v ≡ u) × ((i : ℕ) → i ≤ suc c → suc c ≤ i + g → get_or (x ∷ xs) i 2 ≡ u)
    go (p, q, f) = (
      dite (ℕ_discrete v x) (λ y. omega (arith, still y)) (λ y. omega (arith, anew y)),
      (λ z. dite (ℕ_discrete v x) (λ y. y ∙ q (omega arith)) (λ y. absurd (omega (arith, anew y)))),
      at,
    )
      where
        at : (i : ℕ) → i ≤ suc c → suc c ≤ i + g → get_or (x ∷ xs) i 2 ≡ u
        at zero y z = q (omega arith)
        at (suc i) y z = f i (omega arith) (omega arith)
