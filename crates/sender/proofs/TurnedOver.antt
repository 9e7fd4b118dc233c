-- A wave with every level turned over carries the same rows, from the other level: a code subcell that brings back the
-- level before it still does, and one that stays at the mark's still does.
use mathlib.Core.Path.{◌≡◌, refl, subst, ap, ◌∙◌}
use mathlib.Core.Bool.{Bool, true, false}
use mathlib.Core.List.{List, [], ◌∷◌}
use Prim.Native.Nat.{ℕ, ◌+◌, ◌*◌, ◌≤◌, ◌<◌}
use native.Mathlib.Omega.{arith}
use lib.Dec.{eqb}
use lib.ListN.{length}
use Rattle.measure.specs.Choose.{choose}
use Rattle.measure.proofs.Stretches.{Stretch}
use Rattle.sender.specs.Sending.{Row, opposite, code_level}
use Rattle.sender.proofs.Waves.{Carries}
use Rattle.sender.proofs.PlanWaves.{size, CarriesRows}

code_turned : (before bit : ℕ) → opposite (code_level before bit) ≡ code_level (opposite before) bit
code_turned before bit = go (eqb bit 1)
  where
    go : (one : Bool) → opposite (choose one before (opposite before))
        ≡ choose one (opposite before) (opposite (opposite before))
    go true = refl
    go false = refl

-- the first cycles of T, so many, are those of W turned over
module _ (a b : ℕ) (W T : ℕ → ℕ) (many : ℕ) (turned : (i : ℕ) → i < many → T i ≡ opposite (W i)) where
  pub stretch_turned : (c n v : ℕ) → c + n ≤ many → Stretch W c n v → Stretch T c n (opposite v)
  stretch_turned c n v h stretch i p q = turned i (omega arith) ∙ ap opposite (stretch i p q)

  carries_turned : (bits : List ℕ) (c v : ℕ) → c + length bits * (a + b) ≤ many → Carries a b W c v bits
      → Carries a b T c (opposite v) bits
  carries_turned [] c v h carried = tt
  carries_turned (x ∷ xs) c v h carried = (
    stretch_turned c a (opposite v) (omega arith) carried.0,
    subst (λ (u : ℕ). Stretch T (c + a) b u) (code_turned v x)
        (stretch_turned (c + a) b (code_level v x) (omega arith) carried.1),
    subst (λ (u : ℕ). Carries a b T (c + (a + b)) u xs) (code_turned v x)
        (carries_turned xs (c + (a + b)) (code_level v x) (omega arith) carried.2),
  )

  pub rows_turned : (rows : List Row) (v c : ℕ) → c + size (a + b) rows ≤ many → CarriesRows a b W v c rows
      → CarriesRows a b T (opposite v) c rows
  rows_turned [] v c h carried = tt
  rows_turned (row ∷ rows) v c h carried = (
    stretch_turned c row.lead v (omega arith) carried.0,
    carries_turned row.bits (c + row.lead) v (omega arith) carried.1,
    rows_turned rows v (c + row.lead + length row.bits * (a + b)) (omega arith) carried.2,
  )
