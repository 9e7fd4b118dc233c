-- A test that holds of every number below a bound: the prover computes it for each, and a law gives it of any.
use mathlib.Core.Path.{◌≡◌, subst, sym}
use mathlib.Core.Bool.{Bool, true, false, ◌&&◌}
use Prim.Native.Nat.{ℕ, zero, suc, ◌<◌}
use native.Mathlib.Decide.{ℕ_discrete}
use native.Mathlib.Omega.{arith}
use lib.Dec.{T}

abbrev pub all_below : (test : ℕ → Bool) (bound : ℕ) → Bool
all_below test zero = true
all_below test (suc n) = test n && all_below test n

left : (a b : Bool) → T (a && b) → T a
left true b t = tt
left false b t = t

right : (a b : Bool) → T (a && b) → T b
right true b t = t
right false b t = absurd t

pub each_below : (test : ℕ → Bool) (bound : ℕ) → T (all_below test bound) → (x : ℕ) → x < bound → T (test x)
each_below test zero all x h = absurd (omega arith)
each_below test (suc n) all x h =
    go (ℕ_discrete x n) (λ (h : x < n). each_below test n (right (test n) (all_below test n) all) x h)
  where
    go : Dec (x ≡ n) → (x < n → T (test x)) → T (test x)
    go (yes is) rest = subst (λ (m : ℕ). T (test m)) (sym is) (left (test n) (all_below test n) all)
    go (no is) rest = rest (omega arith)
