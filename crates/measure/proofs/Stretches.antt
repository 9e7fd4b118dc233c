-- A list that stands in a sequence of levels from a place on, and a stretch there of one level: each part of the list
-- stands where it follows the part before it.
use mathlib.Core.Path.{◌≡◌, subst, ◌∙◌}
use mathlib.Core.Logic.{dite}
use mathlib.Core.List.{List, ◌++◌}
use Prim.Native.Nat.{ℕ, ◌+◌, ◌-◌, ◌≤◌, ◌<◌}
use native.Mathlib.Nat.{add_assoc, add-sub_of_le}
use native.Mathlib.Decide.{dec_le}
use native.Mathlib.Omega.{arith}
use lib.ListN.{length, get_or, replicate, length-append, length-replicate, get_or-replicate, get_or-append}
use lib.Seq.{get_or-append-add}

-- W is v on n places from c on
abbrev pub Stretch : (W : ℕ → ℕ) (c n v : ℕ) → Type 0
Stretch W c n v = (i : ℕ) → c ≤ i → i < c + n → W i ≡ v

-- the list l stands in W from place c on
abbrev pub Stands : (W : ℕ → ℕ) (c : ℕ) (l : List ℕ) → Type 0
Stands W c l = (i : ℕ) → i < length l → W (c + i) ≡ get_or l i 2

module _ (W : ℕ → ℕ) (c : ℕ) where
  pub stands_left : (l m : List ℕ) → Stands W c (l ++ m) → Stands W c l
  stands_left l m h i p = h i (rw length-append (omega arith)) ∙ get_or-append l m 2 i p

  pub stands_right : (l m : List ℕ) → Stands W c (l ++ m) → Stands W (c + length l) m
  stands_right l m h i p = rw add_assoc (h (length l + i) (rw length-append (omega arith))) ∙ get_or-append-add l m i 2

  pub stands_stretch : (n v : ℕ) → Stands W c (replicate n v) → Stretch W c n v
  stands_stretch n v h i p q =
      subst (λ (x : ℕ). W x ≡ v) (add-sub_of_le p)
      (h (i - c) (rw length-replicate (omega arith)) ∙ get_or-replicate n (i - c) v 2 (omega arith))

  -- two stretches of one level are one
  pub stretch_join : (n m v : ℕ) → Stretch W c n v → Stretch W (c + n) m v → Stretch W c (n + m) v
  stretch_join n m v p q i x y = dite (dec_le (c + n) i) (λ z. q i z (omega arith)) (λ z. p i x (omega arith))
