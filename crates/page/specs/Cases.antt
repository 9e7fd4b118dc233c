-- Rules E: the example, byte for byte, the same over a crossed pair, and an empty input.
use Rattle.std.specs.Prelude.{ℕ, List, [], ◌∷◌, ◌++◌}
use Rattle.measure.specs.Table.{Case}
use Rattle.page.specs.Lines.{output}

-- "read event bits", "11 row 10", "25 broken 1", "end 26 rows 1", each with a line feed
abbrev example_text : List ℕ
example_text =
    (114 ∷ 101 ∷ 97 ∷ 100 ∷ 32 ∷ 101 ∷ 118 ∷ 101 ∷ 110 ∷ 116 ∷ 32 ∷ 98 ∷ 105 ∷ 116 ∷ 115 ∷ 10 ∷ [])
    ++ (49 ∷ 49 ∷ 32 ∷ 114 ∷ 111 ∷ 119 ∷ 32 ∷ 49 ∷ 48 ∷ 10 ∷ [])
    ++ (50 ∷ 53 ∷ 32 ∷ 98 ∷ 114 ∷ 111 ∷ 107 ∷ 101 ∷ 110 ∷ 32 ∷ 49 ∷ 10 ∷ [])
    ++ (101 ∷ 110 ∷ 100 ∷ 32 ∷ 50 ∷ 54 ∷ 32 ∷ 114 ∷ 111 ∷ 119 ∷ 115 ∷ 32 ∷ 49 ∷ 10 ∷ [])

-- a row 1 0 with its sample at read 11, and a row broken by quiet at read 25 after one bit
abbrev example : Case
example =
    record {
      kind = List ℕ;
      gives = output (0x02 ∷ 0x02 ∷ 0x06 ∷ 0x01 ∷ 0x06 ∷ 0x02 ∷ 0x01 ∷ 0x03 ∷ 0x06 ∷ 0x02 ∷ 0x06 ∷ []);
      printed = example_text;
    }

-- the same with the first level turned over, as a board reads it over a crossed pair: the same lines
abbrev crossed : Case
crossed =
    record {
      kind = List ℕ;
      gives = output (0x02 ∷ 0x02 ∷ 0x06 ∷ 0x00 ∷ 0x06 ∷ 0x02 ∷ 0x01 ∷ 0x03 ∷ 0x06 ∷ 0x02 ∷ 0x06 ∷ []);
      printed = example_text;
    }

-- no byte at all: a capture that ends before its fourth number
abbrev empty : Case
empty = record {
  kind = List ℕ;
  gives = output [];
  printed =
      114 ∷ 101 ∷ 102 ∷ 117 ∷ 115 ∷ 101 ∷ 100 ∷ 32 ∷ 54 ∷ 32 ∷ 97 ∷ 116 ∷ 32 ∷ 48 ∷ 10 ∷ [];
}

-- E8, E9
abbrev pub cases : List Case
cases = example ∷ crossed ∷ empty ∷ []
