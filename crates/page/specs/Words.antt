-- Rules E: its fixed words, and bits, as bytes.
use Rattle.std.specs.Prelude.{ℕ, List, [], ◌∷◌}
use Rattle.text.specs.Decimal.{digit}

-- E7: a line feed
abbrev pub feed : List ℕ
feed = 10 ∷ []

-- E2: "read event bits" and a line feed
abbrev pub heading_text : List ℕ
heading_text = 114 ∷ 101 ∷ 97 ∷ 100 ∷ 32 ∷ 101 ∷ 118 ∷ 101 ∷ 110 ∷ 116 ∷ 32 ∷ 98 ∷ 105 ∷ 116 ∷ 115 ∷ 10 ∷ []

-- E3: " row "
abbrev pub row_text : List ℕ
row_text = 32 ∷ 114 ∷ 111 ∷ 119 ∷ 32 ∷ []

-- E3: " broken "
abbrev pub broken_text : List ℕ
broken_text = 32 ∷ 98 ∷ 114 ∷ 111 ∷ 107 ∷ 101 ∷ 110 ∷ 32 ∷ []

-- E4: "end "
abbrev pub end_text : List ℕ
end_text = 101 ∷ 110 ∷ 100 ∷ 32 ∷ []

-- E4: " rows "
abbrev pub rows_text : List ℕ
rows_text = 32 ∷ 114 ∷ 111 ∷ 119 ∷ 115 ∷ 32 ∷ []

-- E5: "refused "
abbrev pub refused_text : List ℕ
refused_text = 114 ∷ 101 ∷ 102 ∷ 117 ∷ 115 ∷ 101 ∷ 100 ∷ 32 ∷ []

-- E5: " at "
abbrev pub at_text : List ℕ
at_text = 32 ∷ 97 ∷ 116 ∷ 32 ∷ []

-- E3: bits one after another, a digit each
unfoldable pub bits_text : List ℕ → List ℕ
bits_text [] = []
bits_text (bit ∷ bits) = digit bit ∷ bits_text bits
