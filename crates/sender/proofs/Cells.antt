-- Cells from a place on, and how long they are: each takes a + b cycles.
use Rattle.std.proofs.Common.{◌≡◌, Bool, true, false, List, [], ◌∷◌, ◌++◌, ℕ, ◌+◌, ◌*◌, ◌<◌, ◌≤◌, add-one, arith}
use Rattle.std.proofs.Common.{length, drop, get_or, replicate, length-append, drop_of_length-le, drop-cons, eqb}
use lib.ListN.{length-replicate}
use Rattle.measure.specs.Choose.{choose}
use Rattle.sender.specs.Sending.{opposite, code_level, cells, wave}

-- from a bit on: its cell, and then the cells of the bits after it, from the level that its cell leaves
pub cells_step : (a b before : ℕ) (bits : List ℕ) (i : ℕ) → i < length bits
    → cells a b before (drop i bits)
    ≡ replicate a (opposite before) ++ replicate b (code_level before (get_or bits i 0))
    ++ cells a b (code_level before (get_or bits i 0)) (drop (i + 1) bits)
unfolding cells
cells_step a b before bits i h = rw (drop-cons bits i 0 h, add-one)

pub cells_end : (a b before : ℕ) (bits : List ℕ) (i : ℕ) → length bits ≤ i → cells a b before (drop i bits) ≡ []
unfolding cells
cells_end a b before bits i h = rw (drop_of_length-le bits h)

pub length_cell : (a b mark code : ℕ) → length (replicate a mark ++ replicate b code) ≡ a + b
length_cell a b mark code = simp (length-append, length-replicate)

pub length_cells : (a b before : ℕ) (bits : List ℕ) → length (cells a b before bits) ≡ length bits * (a + b)
unfolding cells
length_cells a b before [] = omega arith
length_cells a b before (bit ∷ bits) =
    simp (length-append, length-replicate) (omega (arith, length_cells a b (code_level before bit) bits))

-- a message's wave: the lead, and a + b cycles for each bit
pub length_wave : (a b p1 : ℕ) (bits : List ℕ) → length (wave a b p1 bits) ≡ p1 + length bits * (a + b)
unfolding wave
length_wave a b p1 bits = simp (length-append, length-replicate) (omega (arith, length_cells a b 1 bits))

-- the level that a cell leaves is one of the two
pub code_level_most : (before bit : ℕ) → before ≤ 1 → code_level before bit ≤ 1
code_level_most before bit h = go (eqb bit 1)
  where
    go : (same : Bool) → choose same before (opposite before) ≤ 1
    go true = h
    go false = omega arith
