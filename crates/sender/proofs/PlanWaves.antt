-- A plan's wave as stretches: each row's lead, and then the row's cells from high.
use mathlib.Core.Path.{◌≡◌, refl, subst, ◌∙◌}
use mathlib.Core.List.{List, [], ◌∷◌, ◌++◌, append-nil}
use Prim.Native.Nat.{ℕ, ◌+◌, ◌*◌}
use native.Mathlib.Nat.{zero-add}
use native.Mathlib.Omega.{arith}
use lib.ListN.{length, get_or, replicate, length-append, length-replicate}
use Rattle.measure.specs.Levels.{Levels}
use Rattle.measure.proofs.LevelLaws.{most_append, most_replicate}
use Rattle.measure.proofs.Stretches.{Stretch, Stands, stands_left, stands_right, stands_stretch}
use Rattle.sender.specs.Sending.{Row, code_level, cells, pad, wave, plan_wave}
use Rattle.sender.proofs.Cells.{length_cells, length_wave}
use Rattle.sender.proofs.Waves.{Carries, carries, wave_followed, wave_levels}

-- the level on the line after the cells of a message that starts from the level v
abbrev pub final : (v : ℕ) (bits : List ℕ) → ℕ
final v [] = v
final v (x ∷ xs) = final (code_level v x) xs

-- the cycles of rows, where a cell has d
abbrev pub size : (d : ℕ) → List Row → ℕ
size d [] = 0
size d (row ∷ rows) = row.lead + length row.bits * d + size d rows

-- the wave W carries the rows from cycle c on, each from the level v, which its lead has too
abbrev pub CarriesRows : (a b : ℕ) (W : ℕ → ℕ) (v c : ℕ) → List Row → Type 0
CarriesRows a b W v c [] = Unit {0}
CarriesRows a b W v c (row ∷ rows) =
    Stretch W c row.lead v
    × Carries a b W (c + row.lead) v row.bits
    × CarriesRows a b W v (c + row.lead + length row.bits * (a + b)) rows

pub length_rows : (a b : ℕ) (rows : List Row) → length (plan_wave a b rows) ≡ size (a + b) rows
unfolding plan_wave
length_rows a b [] = omega arith
length_rows a b (row ∷ rows) = simp (length-append, length_wave) (omega (arith, length_rows a b rows))

pub size_append : (d : ℕ) (qs rs : List Row) → size d (qs ++ rs) ≡ size d qs + size d rs
size_append d [] rs = omega arith
size_append d (q ∷ qs) rs = omega (arith, size_append d qs rs)

-- one row
pub length_one : (a b : ℕ) (row : Row) → length (plan_wave a b (row ∷ [])) ≡ row.lead + length row.bits * (a + b)
unfolding plan_wave
length_one a b row = rw append-nil (length_wave a b row.lead row.bits)

-- a plan's cycles are levels
pub plan_levels : (a b : ℕ) (rows : List Row) → Levels (plan_wave a b rows)
unfolding plan_wave
plan_levels a b [] = tt
plan_levels a b (row ∷ rows) =
    most_append 1 (wave a b row.lead row.bits) (plan_wave a b rows) (wave_levels a b row.lead row.bits)
    (plan_levels a b rows)

-- no row has no cycles; and a row's parts before the rows after it
pub plan_none : (a b : ℕ) → plan_wave a b [] ≡ []
unfolding plan_wave
plan_none a b = refl

pub plan_parts : (a b : ℕ) (row : Row) (rows : List Row)
    → plan_wave a b (row ∷ rows) ≡ replicate row.lead 1 ++ (cells a b 1 row.bits ++ plan_wave a b rows)
unfolding plan_wave
plan_parts a b row rows = wave_followed a b row.lead row.bits (plan_wave a b rows)

module _ (a b : ℕ) (W : ℕ → ℕ) where
  carries_from : (rows : List Row) (c : ℕ) → Stands W c (plan_wave a b rows) → CarriesRows a b W 1 c rows
  carries_from [] c h = tt
  carries_from (row ∷ rows) c h = (
    stands_stretch W c p 1 (stands_left W c (replicate p 1) (C ++ rest) whole),
    carries a b W row.bits (c + p) 1 (stands_left W (c + p) C rest from_cells),
    carries_from rows (c + p + length row.bits * (a + b))
        (rw length_cells at (stands_right W (c + p) C rest from_cells)),
  )
    where
      p : ℕ
      p = row.lead

      C : List ℕ
      C = cells a b 1 row.bits

      rest : List ℕ
      rest = plan_wave a b rows

      whole : Stands W c (replicate p 1 ++ (C ++ rest))
      whole = rw (plan_parts a b row rows) at h

      from_cells : Stands W (c + p) (C ++ rest)
      from_cells = rw length-replicate at (stands_right W c (replicate p 1) (C ++ rest) whole)

-- a plan's wave that is followed by so many high cycles, which may be none
module _ (a b after : ℕ) (rows : List Row) where
  pub plan_length : length (plan_wave a b rows ++ pad after) ≡ size (a + b) rows + after
  plan_length = simp (length-append, length-replicate) (omega (arith, length_rows a b rows))

  pub plan_high_levels : Levels (plan_wave a b rows ++ pad after)
  plan_high_levels =
      most_append 1 (plan_wave a b rows) (pad after) (plan_levels a b rows) (most_replicate 1 after 1 (omega arith))

  abbrev W : ℕ → ℕ
  W i = get_or (plan_wave a b rows ++ pad after) i 2

  whole : Stands W 0 (plan_wave a b rows ++ pad after)
  whole i p = rw zero-add

  -- it carries its rows
  pub plan_carries : CarriesRows a b W 1 0 rows
  plan_carries = carries_from a b W rows 0 (stands_left W 0 (plan_wave a b rows) (pad after) whole)

  -- and is high after them
  pub plan_high : Stretch W (size (a + b) rows) after 1
  plan_high =
      stands_stretch W (size (a + b) rows) after 1
      (subst (λ (c : ℕ). Stands W c (pad after)) (zero-add _ ∙ length_rows a b rows)
      (stands_right W 0 (plan_wave a b rows) (pad after) whole))
