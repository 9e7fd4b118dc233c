-- Levels that are reconciled in turn: in which order does not matter, since the answer is their level where all are
-- equal and otherwise unknown.
use mathlib.Core.Path.{◌≡◌, refl, sym, ◌∙◌}
use mathlib.Core.Logic.{dite}
use Prim.Native.Nat.{ℕ}
use native.Mathlib.Decide.{ℕ_discrete}
use borrow.Author.Tests.{eq-eqb, ne_eqb}
use Rattle.line.specs.Warp.{reconcile}

pub reconcile_same : (x : ℕ) → reconcile x x ≡ x
reconcile_same x = rw (eq-eqb x x refl)

pub reconcile_unknown : (x : ℕ) → reconcile x 2 ≡ 2
reconcile_unknown x = dite (ℕ_discrete x 2) (λ e. rw (eq-eqb x 2 e) e) (λ n. rw (ne_eqb x 2 n))

pub unknown_reconcile : (x : ℕ) → reconcile 2 x ≡ 2
unknown_reconcile x = dite (ℕ_discrete 2 x) (λ e. rw (eq-eqb 2 x e)) (λ n. rw (ne_eqb 2 x n))

pub reconcile_again : (x y : ℕ) → reconcile x (reconcile x y) ≡ reconcile x y
reconcile_again x y =
    dite (ℕ_discrete x y) (λ e. rw (eq-eqb x y e) (reconcile_same x)) (λ n. rw (ne_eqb x y n) (reconcile_unknown x))

reconcile_other : (x y z : ℕ) → (x ≡ y → ⊥) → reconcile x (reconcile y z) ≡ 2
reconcile_other x y z n =
    dite (ℕ_discrete y z) (λ e. rw (eq-eqb y z e, ne_eqb x y n)) (λ m. rw (ne_eqb y z m) (reconcile_unknown x))

pub reconcile_assoc : (x y z : ℕ) → reconcile x (reconcile y z) ≡ reconcile (reconcile x y) z
reconcile_assoc x y z =
    dite (ℕ_discrete x y)
    (λ e. rw (← e, reconcile_same x) (reconcile_again x z))
    (λ n. reconcile_other x y z n ∙ sym (rw (ne_eqb x y n) (unknown_reconcile z)))
