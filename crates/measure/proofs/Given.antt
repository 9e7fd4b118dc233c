-- An answer that was given was not refused: a test that refuses where it fails held, and one that refuses where it
-- holds failed.
use Prim.Native.Nat.{ℕ}
use mathlib.Core.Path.{◌≡◌, refl, ap}
use mathlib.Core.Bool.{Bool, true, false}
use mathlib.Core.List.{List}
use native.Mathlib.Omega.{arith}
use Rattle.measure.specs.Choose.{choose}
use Rattle.measure.specs.Refusals.{Answer, given, refused}

pub refused_none : {A : Type 0} (number place : ℕ) (out out' : List ℕ) (x : A)
    → ◌≡◌ {A = Answer A × List ℕ} (refused number place, out) (given x, out') → ⊥
refused_none {A} number place out out' x e =
    let f : ◌≡◌ {A = Answer A} (refused number place) (given x) = ap (λ (p : Answer A × List ℕ). p.0) e in
    let z : ◌≡◌ {A = ℕ} 0 1 = cc in
    omega arith

module _ {A : Type 0} (number place : ℕ) (out out' : List ℕ) (x : A) where
  pub held : (test : Bool) (rest : Answer A × List ℕ) → choose test rest (refused number place, out) ≡ (given x, out')
      → (test ≡ true) × (rest ≡ (given x, out'))
  held true rest e = (refl, e)
  held false rest e = absurd (refused_none number place out out' x e)

  pub failed : (test : Bool) (rest : Answer A × List ℕ) → choose test (refused number place, out) rest ≡ (given x, out')
      → (test ≡ false) × (rest ≡ (given x, out'))
  failed true rest e = absurd (refused_none number place out out' x e)
  failed false rest e = (refl, e)
