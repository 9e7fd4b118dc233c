-- Rules P: P15.
use Rattle.std.specs.Prelude.{ℕ, List, [], ◌∷◌}
use Rattle.measure.specs.Refusals.{Answer, given, refused}
use Rattle.measure.specs.Table.{Case}
use Rattle.halfcells.specs.HalfCells.{high_word}
use Rattle.halfcells.specs.Answers.{encoded, decoded}

-- P15: the words of 00, FF and 80 for a line that enters high
abbrev p15_00 : Case
p15_00 = record { kind = ℕ; gives = high_word 0x00; printed = 0x3333 }

abbrev p15_ff : Case
p15_ff = record { kind = ℕ; gives = high_word 0xff; printed = 0x5555 }

abbrev p15_80 : Case
p15_80 = record { kind = ℕ; gives = high_word 0x80; printed = 0x4ccc }

-- P15: 80 twice: the first word ends low, so the second is the opposite; and back
abbrev p15_twice : Case
p15_twice = record {
  kind = Answer ℕ × List ℕ;
  gives = encoded (0x80 ∷ 0x80 ∷ []) (7 ∷ 8 ∷ 9 ∷ []);
  printed =
      (given 2, 0x4ccc ∷ 0xb333 ∷ 9 ∷ []);
}

abbrev p15_back : Case
p15_back = record {
  kind = Answer ℕ × List ℕ;
  gives = decoded (0x4ccc ∷ 0xb333 ∷ []) (7 ∷ 8 ∷ 9 ∷ []);
  printed =
      (given 2, 0x80 ∷ 0x80 ∷ 9 ∷ []);
}

-- P15: the word of 80 twice: the second word's first cell, cell 8, has no edge at its start
abbrev p15_no_edge : Case
p15_no_edge = record {
  kind = Answer ℕ × List ℕ;
  gives = decoded (0x4ccc ∷ 0x4ccc ∷ []) (7 ∷ 8 ∷ 9 ∷ []);
  printed =
      (refused 11 8, 7 ∷ 8 ∷ 9 ∷ []);
}

-- P15
abbrev pub cases : List Case
cases = p15_00 ∷ p15_ff ∷ p15_80 ∷ p15_twice ∷ p15_back ∷ p15_no_edge ∷ []
