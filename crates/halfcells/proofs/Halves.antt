-- The cells of bits with one half cell for a mark and one for a code: what they are on the line, where they end, and
-- what they are for a line that enters at the other level.
use mathlib.Core.Path.{◌≡◌, refl, sym, ap, ◌∙◌}
use mathlib.Core.List.{List, [], ◌∷◌, ◌++◌, append_assoc}
use mathlib.Core.Bool.{Bool, true, false}
use Prim.Native.Nat.{ℕ, zero, suc, ◌+◌, ◌*◌, ◌^◌, ◌≤◌}
use native.Mathlib.Nat.{pow-suc}
use native.Mathlib.Omega.{arith}
use lib.Dec.{eqb}
use lib.ListN.{length, replicate}
use Rattle.measure.specs.Choose.{choose}
use Rattle.measure.specs.Levels.{Levels}
use Rattle.sender.specs.Sending.{opposite, code_level, cells}
use Rattle.sender.proofs.Cells.{cells_step, cells_end, code_level_most}
use Rattle.sender.proofs.PlanWaves.{final}
use Rattle.halfcells.specs.HalfCells.{from_bits}
use Rattle.halfcells.specs.Shown.{held}

pub no_cell : (a b v : ℕ) → cells a b v [] ≡ []
no_cell a b v = cells_end a b v [] 0 (omega arith)

-- one cell, and then the others
pub first_cell : (v bit : ℕ) (bits : List ℕ)
    → cells 1 1 v (bit ∷ bits) ≡ opposite v ∷ code_level v bit ∷ cells 1 1 (code_level v bit) bits
first_cell v bit bits = cells_step 1 1 v (bit ∷ bits) 0 (omega arith)

-- the cells of more bits go on at the level on which the others end
pub cells_append : (a b v : ℕ) (one other : List ℕ)
    → cells a b v (one ++ other) ≡ cells a b v one ++ cells a b (final v one) other
cells_append a b v [] other = rw (no_cell a b v)
cells_append a b v (bit ∷ one) other =
    let code = code_level v bit in
    let cell = replicate a (opposite v) ++ replicate b code in
    cells_step a b v (bit ∷ one ++ other) 0 (omega arith)
    ∙ ap (λ (l : List ℕ). cell ++ l) (cells_append a b code one other)
    ∙ sym (append_assoc cell (cells a b code one) (cells a b (final code one) other))
    ∙ sym (ap (λ (l : List ℕ). l ++ cells a b (final code one) other) (cells_step a b v (bit ∷ one) 0 (omega arith)))

pub cells_levels : (v : ℕ) (bits : List ℕ) → v ≤ 1 → Levels (cells 1 1 v bits)
cells_levels v [] h = rw (no_cell 1 1 v) tt
cells_levels v (bit ∷ bits) h =
    let code : code_level v bit ≤ 1 = code_level_most v bit h in
    rw (first_cell v bit bits) (omega arith, (code, cells_levels (code_level v bit) bits code))

-- each half cell held for a cycles
pub held_cells : (a v : ℕ) (bits : List ℕ) → held a (cells 1 1 v bits) ≡ cells a a v bits
unfolding held
held_cells a v [] = rw (no_cell 1 1 v, no_cell a a v)
held_cells a v (bit ∷ bits) =
    let mark = replicate a (opposite v) in
    let code = replicate a (code_level v bit) in
    ap (held a) (first_cell v bit bits)
    ∙ ap (λ (l : List ℕ). mark ++ (code ++ l)) (held_cells a (code_level v bit) bits)
    ∙ sym (append_assoc mark code (cells a a (code_level v bit) bits))
    ∙ sym (cells_step a a v (bit ∷ bits) 0 (omega arith))

-- the last of a list of levels, or the level before it where it is empty
abbrev pub last : (before : ℕ) (levels : List ℕ) → ℕ
last before [] = before
last before (level ∷ levels) = last level levels

pub last_cell : (v : ℕ) (bits : List ℕ) → last v (cells 1 1 v bits) ≡ final v bits
last_cell v [] = rw (no_cell 1 1 v)
last_cell v (bit ∷ bits) = ap (last v) (first_cell v bit bits) ∙ last_cell (code_level v bit) bits

pub last_append : (before level : ℕ) (levels : List ℕ) → last before (levels ++ level ∷ []) ≡ level
last_append before level [] = refl
last_append before level (first ∷ levels) = last_append first level levels

-- every level turned over
abbrev pub turned : List ℕ → List ℕ
turned [] = []
turned (level ∷ levels) = opposite level ∷ turned levels

code_turned : (v bit : ℕ) → v ≤ 1 → code_level (opposite v) bit ≡ opposite (code_level v bit)
code_turned v bit h = go (eqb bit 1)
  where
    go : (same : Bool) → choose same (opposite v) (opposite (opposite v)) ≡ opposite (choose same v (opposite v))
    go true = refl
    go false = refl

pub cells_turned : (v : ℕ) (bits : List ℕ) → v ≤ 1 → cells 1 1 (opposite v) bits ≡ turned (cells 1 1 v bits)
cells_turned v [] h = rw (no_cell 1 1 v, no_cell 1 1 (opposite v))
cells_turned v (bit ∷ bits) h =
    let code = code_level v bit in
    first_cell (opposite v) bit bits
    ∙ rw (code_turned v bit h)
    (ap (λ (l : List ℕ). opposite (opposite v) ∷ opposite code ∷ l) (cells_turned code bits (code_level_most v bit h)))
    ∙ sym (ap turned (first_cell v bit bits))

pub length_turned : (levels : List ℕ) → length (turned levels) ≡ length levels
length_turned [] = refl
length_turned (level ∷ levels) = ap suc (length_turned levels)

-- a number and that of the opposite bits make the greatest number of so many bits
pub from_turned : (bits : List ℕ) → Levels bits → from_bits bits + from_bits (turned bits) + 1 ≡ 2 ^ length bits
unfolding from_bits
from_turned [] all = refl
from_turned (bit ∷ bits) all =
    let p = 2 ^ length bits in
    let one : bit * p + opposite bit * p ≡ p = go bit all.0 in
    rw (length_turned bits, pow-suc 2 (length bits)) (omega (arith, one, from_turned bits all.1))
  where
    go : (bit : ℕ) → bit ≤ 1 → bit * 2 ^ length bits + opposite bit * 2 ^ length bits ≡ 2 ^ length bits
    go zero h = omega arith
    go (suc zero) h = omega arith
    go (suc (suc bit)) h = absurd (omega arith)
