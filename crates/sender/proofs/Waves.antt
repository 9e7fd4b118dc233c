-- A wave as stretches of one level: the lead, two stretches for each cell, its mark and its code, and the high cycles
-- that follow it, each where the one before it ends.
use mathlib.Core.Path.{◌≡◌, refl, subst, ◌∙◌}
use mathlib.Core.List.{List, [], ◌∷◌, ◌++◌, append_assoc}
use Prim.Native.Nat.{ℕ, zero, suc, ◌+◌, ◌*◌, ◌≤◌, ◌<◌}
use native.Mathlib.Nat.{add_assoc, zero-add}
use native.Mathlib.Omega.{arith}
use lib.ListN.{length, get_or, replicate, length-append, length-replicate, get_or-replicate, get_or-append}
use Rattle.measure.specs.Cells.{bit_of}
use Rattle.measure.specs.Levels.{Levels}
use Rattle.measure.proofs.LevelLaws.{most_append, most_replicate}
use Rattle.measure.proofs.Stretches.{Stretch, Stands, stands_left, stands_right, stands_stretch}
use Rattle.sender.specs.Sending.{opposite, code_level, cells, pad, wave}
use Rattle.sender.proofs.Cells.{length_cells, length_wave, code_level_most}

-- a cell's mark and code, as mark and sample, are its bit
pub bit_code : (before bit : ℕ) → before ≤ 1 → bit ≤ 1 → bit_of (opposite before) (code_level before bit) ≡ bit
bit_code zero zero h p = refl
bit_code zero (suc zero) h p = refl
bit_code zero (suc (suc bit)) h p = absurd (omega arith)
bit_code (suc zero) zero h p = refl
bit_code (suc zero) (suc zero) h p = refl
bit_code (suc zero) (suc (suc bit)) h p = absurd (omega arith)
bit_code (suc (suc before)) bit h p = absurd (omega arith)

-- the wave W carries the message from cycle c on, from the level v
abbrev pub Carries : (a b : ℕ) (W : ℕ → ℕ) (c v : ℕ) → List ℕ → Type 0
Carries a b W c v [] = Unit {0}
Carries a b W c v (x ∷ xs) =
    Stretch W c a (opposite v)
    × Stretch W (c + a) b (code_level v x)
    × Carries a b W (c + (a + b)) (code_level v x) xs

-- one cell before the others, and a wave's parts before what follows it
cells_first : (a b v x : ℕ) (xs : List ℕ)
    → cells a b v (x ∷ xs) ≡ replicate a (opposite v) ++ (replicate b (code_level v x) ++ cells a b (code_level v x) xs)
unfolding cells
cells_first a b v x xs =
    append_assoc (replicate a (opposite v)) (replicate b (code_level v x)) (cells a b (code_level v x) xs)

pub wave_followed : (a b p1 : ℕ) (bits more : List ℕ)
    → wave a b p1 bits ++ more ≡ replicate p1 1 ++ (cells a b 1 bits ++ more)
unfolding wave
wave_followed a b p1 bits more = append_assoc (replicate p1 1) (cells a b 1 bits) more

-- cells that stand in a wave are carried there
pub carries : (a b : ℕ) (W : ℕ → ℕ) (bits : List ℕ) (c v : ℕ) → Stands W c (cells a b v bits) → Carries a b W c v bits
carries a b W [] c v h = tt
carries a b W (x ∷ xs) c v h = (
  stands_stretch W c a (opposite v) (stands_left W c mark rest cell),
  stands_stretch W (c + a) b (code_level v x) (stands_left W (c + a) code more after),
  carries a b W xs (c + (a + b)) (code_level v x)
      (subst (λ (n : ℕ). Stands W n more) (rw length-replicate (add_assoc c a b))
      (stands_right W (c + a) code more after)),
)
  where
    mark : List ℕ
    mark = replicate a (opposite v)

    code : List ℕ
    code = replicate b (code_level v x)

    more : List ℕ
    more = cells a b (code_level v x) xs

    rest : List ℕ
    rest = code ++ more

    cell : Stands W c (mark ++ rest)
    cell = rw (cells_first a b v x xs) at h

    after : Stands W (c + a) rest
    after = rw length-replicate at (stands_right W c mark rest cell)

-- a wave's cycles are levels, whatever its bits are
cells_levels : (a b v : ℕ) (bits : List ℕ) → v ≤ 1 → Levels (cells a b v bits)
unfolding cells
cells_levels a b v [] h = tt
cells_levels a b v (x ∷ xs) h =
    rw (cells_first a b v x xs)
    (most_append 1 (replicate a (opposite v)) (replicate b (code_level v x) ++ cells a b (code_level v x) xs)
    (most_replicate 1 a (opposite v) (omega arith))
    (most_append 1 (replicate b (code_level v x)) (cells a b (code_level v x) xs)
    (most_replicate 1 b (code_level v x) (code_level_most v x h))
    (cells_levels a b (code_level v x) xs (code_level_most v x h))))

pub wave_levels : (a b p1 : ℕ) (bits : List ℕ) → Levels (wave a b p1 bits)
unfolding wave
wave_levels a b p1 bits =
    most_append 1 (replicate p1 1) (cells a b 1 bits) (most_replicate 1 p1 1 (omega arith))
    (cells_levels a b 1 bits (omega arith))

-- a wave that is followed by so many high cycles, which may be none
module _ (a b p1 after : ℕ) (bits : List ℕ) where
  pub followed_length : length (wave a b p1 bits ++ pad after) ≡ p1 + length bits * (a + b) + after
  followed_length = simp (length-append, length-replicate) (omega (arith, length_wave a b p1 bits))

  pub followed_levels : Levels (wave a b p1 bits ++ pad after)
  followed_levels =
      most_append 1 (wave a b p1 bits) (pad after) (wave_levels a b p1 bits) (most_replicate 1 after 1 (omega arith))

  abbrev W : ℕ → ℕ
  W i = get_or (wave a b p1 bits ++ pad after) i 2

  -- from its first cell on
  from_cells : Stands W p1 (cells a b 1 bits ++ pad after)
  from_cells =
      subst (λ (c : ℕ). Stands W c (cells a b 1 bits ++ pad after)) (zero-add _ ∙ length-replicate p1 1)
      (stands_right W 0 (pad p1) (cells a b 1 bits ++ pad after)
      (subst (Stands W 0) (wave_followed a b p1 bits (pad after)) whole))
    where
      whole : Stands W 0 (wave a b p1 bits ++ pad after)
      whole i p = rw zero-add

  -- it carries the message after the lead
  pub followed_carries : Carries a b W p1 1 bits
  followed_carries = carries a b W bits p1 1 (stands_left W p1 (cells a b 1 bits) (pad after) from_cells)

  -- and is high after that
  pub followed_high : Stretch W (p1 + length bits * (a + b)) after 1
  followed_high =
      stands_stretch W (p1 + length bits * (a + b)) after 1
      (subst (λ (n : ℕ). Stands W (p1 + n) (pad after)) (length_cells a b 1 bits)
      (stands_right W p1 (cells a b 1 bits) (pad after) from_cells))

  -- and before it
  pub followed_leads : (i : ℕ) → i < p1 → W i ≡ 1
  followed_leads i p =
      rw (wave_followed a b p1 bits (pad after))
      (get_or-append (pad p1) (cells a b 1 bits ++ pad after) 2 i (rw length-replicate p)
      ∙ get_or-replicate p1 i 1 2 p)
