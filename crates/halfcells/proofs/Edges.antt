-- Cells with an edge at their start: those of bits all have one and give the bits back, and half cells of which all
-- have one are the cells of their bits; and the first that has none, part by part.
use mathlib.Core.Path.{◌≡◌, refl, ap, ap₂, ◌∙◌}
use mathlib.Core.Bool.{Bool, true, false}
use mathlib.Core.List.{List, [], ◌∷◌, ◌++◌}
use Prim.Native.Nat.{ℕ, zero, suc, ◌+◌, ◌*◌, ◌≤◌, ◌<◌}
use native.Mathlib.Omega.{arith}
use borrow.Author.Tests.{eqb-false}
use lib.Dec.{eqb}
use lib.ListN.{length}
use Rattle.measure.specs.Cells.{bit_of}
use Rattle.measure.specs.Choose.{choose}
use Rattle.measure.specs.Levels.{Levels}
use Rattle.sender.specs.Sending.{opposite, code_level, cells}
use Rattle.sender.proofs.Cells.{code_level_most}
use Rattle.sender.proofs.Waves.{bit_code}
use Rattle.halfcells.specs.HalfCells.{no_edge_from, cell_bits}
use Rattle.halfcells.proofs.Halves.{no_cell, first_cell, last}

-- the mark of a cell is not the level before it
turns_over : (v : ℕ) → v ≤ 1 → eqb (opposite v) v ≡ false
turns_over zero h = refl
turns_over (suc zero) h = refl
turns_over (suc (suc v)) h = absurd (omega arith)

pub cells_edged : (v : ℕ) (bits : List ℕ) → v ≤ 1 → no_edge_from v (cells 1 1 v bits) ≡ length bits
unfolding no_edge_from
cells_edged v [] h = rw (no_cell 1 1 v)
cells_edged v (bit ∷ bits) h =
    rw (first_cell v bit bits, turns_over v h)
    (ap suc (cells_edged (code_level v bit) bits (code_level_most v bit h)))

pub bits_of_cells : (v : ℕ) (bits : List ℕ) → v ≤ 1 → Levels bits → cell_bits (cells 1 1 v bits) ≡ bits
unfolding cell_bits
bits_of_cells v [] h all = rw (no_cell 1 1 v)
bits_of_cells v (bit ∷ bits) h all =
    rw (first_cell v bit bits)
    (ap₂ (λ (x : ℕ) (l : List ℕ). x ∷ l) (bit_code v bit h all.0)
    (bits_of_cells (code_level v bit) bits (code_level_most v bit h) all.1))

-- a cell with an edge is the cell of its bit
cell_back : (v mark code : ℕ) → v ≤ 1 → mark ≤ 1 → code ≤ 1 → eqb mark v ≡ false
    → (opposite v ≡ mark) × (code_level v (bit_of mark code) ≡ code)
cell_back zero zero code h m c e = absurd (eqb-false 0 0 e refl)
cell_back zero (suc zero) zero h m c e = (refl, refl)
cell_back zero (suc zero) (suc zero) h m c e = (refl, refl)
cell_back zero (suc zero) (suc (suc code)) h m c e = absurd (omega arith)
cell_back zero (suc (suc mark)) code h m c e = absurd (omega arith)
cell_back (suc zero) zero zero h m c e = (refl, refl)
cell_back (suc zero) zero (suc zero) h m c e = (refl, refl)
cell_back (suc zero) zero (suc (suc code)) h m c e = absurd (omega arith)
cell_back (suc zero) (suc zero) code h m c e = absurd (eqb-false 1 1 e refl)
cell_back (suc zero) (suc (suc mark)) code h m c e = absurd (omega arith)
cell_back (suc (suc v)) mark code h m c e = absurd (omega arith)

-- n cells, all with an edge
pub cells_back : (n v : ℕ) (halves : List ℕ) → v ≤ 1 → Levels halves → length halves ≡ n * 2 → no_edge_from v halves ≡ n
    → cells 1 1 v (cell_bits halves) ≡ halves
unfolding no_edge_from cell_bits
cells_back zero v [] h all size e = no_cell 1 1 v
cells_back zero v (mark ∷ halves) h all size e = absurd (omega arith)
cells_back (suc n) v [] h all size e = absurd (omega arith)
cells_back (suc n) v (mark ∷ []) h all size e = absurd (omega arith)
cells_back (suc n) v (mark ∷ code ∷ halves) h all size e =
    go (eqb mark v) refl e
    (λ (e : no_edge_from code halves ≡ n). cells_back n code halves all.1.0 all.1.1 (omega arith) e)
  where
    go : (same : Bool) → eqb mark v ≡ same → choose same 0 (suc (no_edge_from code halves)) ≡ suc n
        → (no_edge_from code halves ≡ n → cells 1 1 code (cell_bits halves) ≡ halves)
        → cells 1 1 v (cell_bits (mark ∷ code ∷ halves)) ≡ mark ∷ code ∷ halves
    go true is e rest = absurd (omega arith)
    go false is e rest =
        let back = cell_back v mark code h all.0 all.1.0 is in
        first_cell v (bit_of mark code) (cell_bits halves)
        ∙ ap₂ (λ (m c : ℕ). m ∷ c ∷ cells 1 1 c (cell_bits halves)) back.0 back.1
        ∙ ap (λ (l : List ℕ). mark ∷ code ∷ l) (rest (omega arith))

-- no more cells are found than there are
pub edges_most : (n v : ℕ) (halves : List ℕ) → length halves ≡ n * 2 → no_edge_from v halves ≤ n
unfolding no_edge_from
edges_most zero v [] size = omega arith
edges_most zero v (mark ∷ halves) size = absurd (omega arith)
edges_most (suc n) v [] size = omega arith
edges_most (suc n) v (mark ∷ []) size = omega arith
edges_most (suc n) v (mark ∷ code ∷ halves) size = go (eqb mark v) (edges_most n code halves (omega arith))
  where
    go : (same : Bool) → no_edge_from code halves ≤ n → choose same 0 (suc (no_edge_from code halves)) ≤ suc n
    go true h = omega arith
    go false h = omega arith

-- where each of n cells has an edge, the first that has none is among those after them; otherwise among them
pub edges_past : (n v : ℕ) (one other : List ℕ) → length one ≡ n * 2 → no_edge_from v one ≡ n
    → no_edge_from v (one ++ other) ≡ n + no_edge_from (last v one) other
unfolding no_edge_from
edges_past zero v [] other size e = omega arith
edges_past zero v (mark ∷ one) other size e = absurd (omega arith)
edges_past (suc n) v [] other size e = absurd (omega arith)
edges_past (suc n) v (mark ∷ []) other size e = absurd (omega arith)
edges_past (suc n) v (mark ∷ code ∷ one) other size e =
    go (eqb mark v) e (λ (e : no_edge_from code one ≡ n). edges_past n code one other (omega arith) e)
  where
    go : (same : Bool) → choose same 0 (suc (no_edge_from code one)) ≡ suc n
        → (no_edge_from code one ≡ n → no_edge_from code (one ++ other) ≡ n + no_edge_from (last code one) other)
        → choose same 0 (suc (no_edge_from code (one ++ other))) ≡ suc n + no_edge_from (last code one) other
    go true e rest = absurd (omega arith)
    go false e rest = omega (arith, rest (omega arith))

pub edges_within : (n v : ℕ) (one other : List ℕ) → length one ≡ n * 2 → no_edge_from v one < n
    → no_edge_from v (one ++ other) ≡ no_edge_from v one
unfolding no_edge_from
edges_within zero v one other size e = absurd (omega arith)
edges_within (suc n) v [] other size e = absurd (omega arith)
edges_within (suc n) v (mark ∷ []) other size e = absurd (omega arith)
edges_within (suc n) v (mark ∷ code ∷ one) other size e =
    go (eqb mark v) e (λ (e : no_edge_from code one < n). edges_within n code one other (omega arith) e)
  where
    go : (same : Bool) → choose same 0 (suc (no_edge_from code one)) < suc n
        → (no_edge_from code one < n → no_edge_from code (one ++ other) ≡ no_edge_from code one)
        → choose same 0 (suc (no_edge_from code (one ++ other))) ≡ choose same 0 (suc (no_edge_from code one))
    go true e rest = refl
    go false e rest = ap suc (rest (omega arith))

pub length_cell_bits : (n : ℕ) (halves : List ℕ) → length halves ≡ n * 2 → length (cell_bits halves) ≡ n
unfolding cell_bits
length_cell_bits zero [] size = refl
length_cell_bits zero (mark ∷ halves) size = absurd (omega arith)
length_cell_bits (suc n) [] size = absurd (omega arith)
length_cell_bits (suc n) (mark ∷ []) size = absurd (omega arith)
length_cell_bits (suc n) (mark ∷ code ∷ halves) size = ap suc (length_cell_bits n halves (omega arith))

bit_most : (mark code : ℕ) → bit_of mark code ≤ 1
bit_most mark code = go (eqb code mark)
  where
    go : (same : Bool) → choose same 0 1 ≤ 1
    go true = omega arith
    go false = omega arith

pub cell_bits_levels : (halves : List ℕ) → Levels (cell_bits halves)
unfolding cell_bits
cell_bits_levels [] = tt
cell_bits_levels (mark ∷ []) = tt
cell_bits_levels (mark ∷ code ∷ halves) = (bit_most mark code, cell_bits_levels halves)

-- the bits of half cells, part by part
pub cell_bits_append : (n : ℕ) (one other : List ℕ) → length one ≡ n * 2
    → cell_bits (one ++ other) ≡ cell_bits one ++ cell_bits other
unfolding cell_bits
cell_bits_append zero [] other size = refl
cell_bits_append zero (mark ∷ one) other size = absurd (omega arith)
cell_bits_append (suc n) [] other size = absurd (omega arith)
cell_bits_append (suc n) (mark ∷ []) other size = absurd (omega arith)
cell_bits_append (suc n) (mark ∷ code ∷ one) other size =
    ap (λ (l : List ℕ). bit_of mark code ∷ l) (cell_bits_append n one other (omega arith))
