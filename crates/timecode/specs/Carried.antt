-- What the code's own functions promise one another; no rule speaks of it.
use Rattle.std.specs.Prelude.{ℕ, ◌+◌, ◌*◌, List, [], ◌∷◌, drop, Option, Some, None}
use Rattle.timecode.specs.Words.{places}

-- the number that bits make after a number, each bit the lowest so far
unfoldable pub carried : (before : ℕ) (bits : List ℕ) → ℕ
carried before [] = before
carried before (bit ∷ bits) = carried (2 * before + bit) bits

-- the words from place `from` on
abbrev pub words_from : (bits : List ℕ) (from : ℕ) → List ℕ
words_from bits from = places 0 from (drop from bits)

-- the words from the first on, where one is found
abbrev pub words_by : (bits : List ℕ) (first : Option ℕ) → List ℕ
words_by bits None = []
words_by bits (Some at) = at ∷ words_from bits (at + 80)
