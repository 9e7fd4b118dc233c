-- What is shown of the words of half cells (W20 to W22): held on the line they are the wave, and they go both ways.
-- Statements only; proofs/Shown has their proofs.
use Rattle.std.specs.Prelude.{ℕ, ◌≤◌, ◌≡◌, false, List, [], ◌∷◌, ◌++◌, length, take, replicate}
use Rattle.measure.specs.Levels.{AtMost}
use Rattle.measure.specs.Lists.{onto}
use Rattle.measure.specs.Refusals.{given}
use Rattle.sender.specs.Sending.{wave}
use Rattle.halfcells.specs.HalfCells.{bits_of, words_of, half_cells, bytes_of}
use Rattle.halfcells.specs.Answers.{some_no_edge, encoded, decoded}

-- W1: the bits of a message of bytes
unfoldable pub message_bits : (bytes : List ℕ) → List ℕ
message_bits [] = []
message_bits (byte ∷ bytes) = bits_of 8 byte ++ message_bits bytes

-- W8: each half cell held for a cycles
unfoldable pub held : (a : ℕ) (halves : List ℕ) → List ℕ
held a [] = []
held a (half ∷ halves) = replicate a half ++ held a halves

-- W20: the words of a message, each half cell held for a cycles, are the wave of its bits with b equal to a and no pads
abbrev pub WordsAreTheWave : Type 0
WordsAreTheWave = (a : ℕ) (bytes : List ℕ) → held a (half_cells (words_of bytes)) ≡ wave a a 0 (message_bits bytes)

-- W21: the words of bytes have an edge at the start of each cell and give the bytes back
abbrev pub WordsGiveBack : Type 0
WordsGiveBack =
    (bytes : List ℕ) → AtMost 255 bytes → (some_no_edge (words_of bytes) ≡ false) × (bytes_of (words_of bytes) ≡ bytes)

-- W22: words with an edge at the start of each cell are the words of the bytes that they give
abbrev pub BytesGiveBack : Type 0
BytesGiveBack =
    (words : List ℕ) → AtMost 65535 words → some_no_edge words ≡ false → words_of (bytes_of words) ≡ words

-- W21: The same of the operations. What `encode` put at the front of an output, `decode` puts as the same bytes at the
-- front of another that has room.
abbrev pub EncodedDecodes : Type 0
EncodedDecodes =
    (bytes out out' room : List ℕ) (count : ℕ) → AtMost 255 bytes → encoded bytes out ≡ (given count, out')
    → length bytes ≤ length room → decoded (take count out') room ≡ (given (length bytes), onto bytes room)

-- W22: What `decode` accepted, `encode` puts as the same words at the front of an output that has room.
abbrev pub DecodedEncodes : Type 0
DecodedEncodes =
    (words out out' room : List ℕ) (count : ℕ) → AtMost 65535 words → decoded words out ≡ (given count, out')
    → length words ≤ length room → encoded (take count out') room ≡ (given (length words), onto words room)
