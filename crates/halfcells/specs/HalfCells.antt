-- Rules W: bytes as words of sixteen half cells, and such words as bytes again.
use Rattle.std.specs.Prelude.{ℕ, zero, suc, ◌+◌, ◌-◌, ◌*◌, ◌/◌, ◌%◌, ◌^◌, List, [], ◌∷◌, ◌++◌, length, eqb}
use Rattle.measure.specs.Choose.{choose}
use Rattle.measure.specs.Cells.{bit_of}
use Rattle.sender.specs.Sending.{cells}

-- W1, W2: the n lowest bits of a number, the highest of them first: the bits of a byte, and the half cells of a word
unfoldable pub bits_of : (n x : ℕ) → List ℕ
bits_of zero x = []
bits_of (suc n) x = x / 2 ^ n % 2 ∷ bits_of n x

-- W1, W2: the number that has these bits, the highest first
unfoldable pub from_bits : (bits : List ℕ) → ℕ
from_bits [] = 0
from_bits (bit ∷ bits) = bit * 2 ^ length bits + from_bits bits

-- W3, W4: the word of a byte for a line that enters high: its cells, one half cell for the mark and one for the code
unfoldable pub high_word : (byte : ℕ) → ℕ
high_word byte = from_bits (cells 1 1 1 (bits_of 8 byte))

-- W5: for a line that enters low: the opposite of each of the sixteen half cells
abbrev pub word_from : (level byte : ℕ) → ℕ
word_from level byte = choose (eqb level 1) (high_word byte) (65535 - high_word byte)

-- W7: the level on which a word ends: its last half cell
abbrev pub end_of : (word : ℕ) → ℕ
end_of word = word % 2

-- W7: the words of bytes, from the level before the first: each enters at the level on which the one before ends
unfoldable pub words_from : (level : ℕ) (bytes : List ℕ) → List ℕ
words_from level [] = []
words_from level (byte ∷ bytes) = word_from level byte ∷ words_from (end_of (word_from level byte)) bytes

-- W7: the words of a message: the line is high before the first
abbrev pub words_of : (bytes : List ℕ) → List ℕ
words_of bytes = words_from 1 bytes

-- W2: the half cells of words, in order
unfoldable pub half_cells : (words : List ℕ) → List ℕ
half_cells [] = []
half_cells (word ∷ words) = bits_of 16 word ++ half_cells words

-- W10: which is the first cell with no edge at its start, its first half cell being of the level before it; the number
-- of cells where each has an edge
unfoldable pub no_edge_from : (before : ℕ) (halves : List ℕ) → ℕ
no_edge_from before [] = 0
no_edge_from before (mark ∷ []) = 0
no_edge_from before (mark ∷ code ∷ halves) = choose (eqb mark before) 0 (suc (no_edge_from code halves))

-- W10: the first such cell of words: the line is high before the first word
abbrev pub first_no_edge : (words : List ℕ) → ℕ
first_no_edge words = no_edge_from 1 (half_cells words)

-- W11: the bit of each cell, from its two half cells
unfoldable pub cell_bits : (halves : List ℕ) → List ℕ
cell_bits [] = []
cell_bits (mark ∷ []) = []
cell_bits (mark ∷ code ∷ halves) = bit_of mark code ∷ cell_bits halves

-- W11: the byte of a word
unfoldable pub byte_of : (word : ℕ) → ℕ
byte_of word = from_bits (cell_bits (bits_of 16 word))

-- W11: the bytes of words
unfoldable pub bytes_of : (words : List ℕ) → List ℕ
bytes_of [] = []
bytes_of (word ∷ words) = byte_of word ∷ bytes_of words
