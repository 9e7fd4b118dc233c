-- What serves private functions: on which level the words of bytes end, and how a word is read as a whole.
use Rattle.std.specs.Prelude.{ℕ, ◌+◌, ◌*◌, ◌/◌, List, [], ◌∷◌}
use Rattle.std.specs.Int.Bits.{bit_xor}
use Rattle.halfcells.specs.HalfCells.{word_from, end_of}

-- W7: the level on which the words of bytes end, or the level before them where there are none
unfoldable pub level_after : (level : ℕ) (bytes : List ℕ) → ℕ
level_after level [] = level
level_after level (byte ∷ bytes) = level_after (end_of (word_from level byte)) bytes

-- W10, W11: the half cells of a word that differ from the one before them: the word against itself moved on by one half
-- cell, with the level before the word in front
unfoldable pub turns_of : (before word : ℕ) → ℕ
turns_of before word = bit_xor word (word / 2 + before * 32768)
