-- A byte's word, entered at either level: its half cells are the cells of the byte's bits, and what it gives back.
use mathlib.Core.Path.{◌≡◌, refl, sym, ap, ◌∙◌}
use mathlib.Core.List.{List}
use Prim.Native.Nat.{ℕ, zero, suc, ◌+◌, ◌-◌, ◌*◌, ◌%◌, ◌^◌, ◌≤◌, ◌<◌}
use native.Mathlib.Nat.{mod-eq_of_lt}
use native.Mathlib.Omega.{arith}
use lib.ListN.{length}
use Rattle.sender.specs.Sending.{cells}
use Rattle.sender.proofs.Cells.{length_cells}
use Rattle.sender.proofs.PlanWaves.{final}
use Rattle.halfcells.specs.HalfCells.{bits_of, from_bits, high_word, word_from, no_edge_from, cell_bits, byte_of}
use Rattle.halfcells.proofs.Bits.{length_bits, bits_levels, from_bits_lem, bits_from}
use Rattle.halfcells.proofs.Halves.{cells_levels, cells_turned, last, last_cell, turned, from_turned}
use Rattle.halfcells.proofs.Edges.{bits_of_cells, cells_back, length_cell_bits, cell_bits_levels}
use Rattle.halfcells.proofs.ReadWhole.{last_bit}

-- the half cells of a byte's bits
abbrev halves : (v byte : ℕ) → List ℕ
halves v byte = cells 1 1 v (bits_of 8 byte)

length_halves : (v byte : ℕ) → length (halves v byte) ≡ 16
length_halves v byte = length_cells 1 1 v (bits_of 8 byte) ∙ ap (λ (n : ℕ). n * 2) (length_bits 8 byte)

-- a byte's word is the number of its half cells
pub word_is : (v byte : ℕ) → v ≤ 1 → word_from v byte ≡ from_bits (halves v byte)
unfolding high_word
word_is zero byte h =
    let one = halves 1 byte in
    let whole : from_bits one + from_bits (turned one) + 1 ≡ 65536 =
    from_turned one (cells_levels 1 (bits_of 8 byte) (omega arith)) ∙ ap (λ (n : ℕ). 2 ^ n) (length_halves 1 byte) in
    let low : 65535 - from_bits one ≡ from_bits (turned one) = omega arith in
    low ∙ ap from_bits (sym (cells_turned 1 (bits_of 8 byte) (omega arith)))
word_is (suc zero) byte h = refl
word_is (suc (suc v)) byte h = absurd (omega arith)

pub word_halves : (v byte : ℕ) → v ≤ 1 → bits_of 16 (word_from v byte) ≡ halves v byte
word_halves v byte h =
    ap (bits_of 16) (word_is v byte h)
    ∙ ap (λ (n : ℕ). bits_of n (from_bits (halves v byte))) (sym (length_halves v byte))
    ∙ bits_from (halves v byte) (cells_levels v (bits_of 8 byte) h)

-- it ends at the level on which the cells do
pub word_ends : (v byte : ℕ) → v ≤ 1 → word_from v byte % 2 ≡ final v (bits_of 8 byte)
word_ends v byte h =
    sym (last_bit 15 v (word_from v byte)) ∙ ap (last v) (word_halves v byte h) ∙ last_cell v (bits_of 8 byte)

-- it gives the byte back
pub byte_back : (v byte : ℕ) → v ≤ 1 → byte < 256 → byte_of (word_from v byte) ≡ byte
unfolding byte_of
byte_back v byte h b =
    ap (λ (l : List ℕ). from_bits (cell_bits l)) (word_halves v byte h)
    ∙ ap from_bits (bits_of_cells v (bits_of 8 byte) h (bits_levels 8 byte))
    ∙ from_bits_lem 8 byte
    ∙ mod-eq_of_lt b

-- and a word of which each cell has an edge is the word of its byte
pub word_back : (v word : ℕ) → v ≤ 1 → word < 65536 → no_edge_from v (bits_of 16 word) ≡ 8
    → word_from v (byte_of word) ≡ word
unfolding byte_of
word_back v word h w e =
    let bits = cell_bits (bits_of 16 word) in
    let eight : length bits ≡ 8 = length_cell_bits 8 (bits_of 16 word) (length_bits 16 word) in
    let same : bits_of 8 (byte_of word) ≡ bits =
    ap (λ (n : ℕ). bits_of n (from_bits bits)) (sym eight) ∙ bits_from bits (cell_bits_levels (bits_of 16 word)) in
    word_is v (byte_of word) h
    ∙ ap (λ (l : List ℕ). from_bits (cells 1 1 v l)) same
    ∙ ap from_bits (cells_back 8 v (bits_of 16 word) h (bits_levels 16 word) (length_bits 16 word) e)
    ∙ from_bits_lem 16 word
    ∙ mod-eq_of_lt w
