-- Rules P: P7.
use Rattle.std.specs.Prelude.{ℕ, List, [], ◌∷◌}
use Rattle.measure.specs.Refusals.{Answer, given, refused_after}
use Rattle.measure.specs.Table.{Case}
use Rattle.counted.specs.Answers.{counted_bits}

-- the wave that P1 prints, taken as reads
abbrev sent : List ℕ
sent = 1 ∷ 1 ∷ 0 ∷ 0 ∷ 1 ∷ 1 ∷ 1 ∷ 0 ∷ 0 ∷ 0 ∷ 0 ∷ 0 ∷ 1 ∷ []

-- a lent output of three places, whose bytes are no bits
abbrev output : List ℕ
output = 7 ∷ 8 ∷ 9 ∷ []

-- P7: level 1, k 3: two bits, with read 10 the current one; refusal 5 there after two of three; nothing
abbrev p7_2 : Case
p7_2 = record {
  kind = Answer (ℕ × ℕ) × List ℕ;
  gives = counted_bits 3 2 1 sent output;
  printed = (given (2, 10), 1 ∷ 0 ∷ 9 ∷ []);
}

abbrev p7_3 : Case
p7_3 = record {
  kind = Answer (ℕ × ℕ) × List ℕ;
  gives = counted_bits 3 3 1 sent output;
  printed =
      (refused_after 5 10 2, 1 ∷ 0 ∷ 9 ∷ []);
}

abbrev p7_0 : Case
p7_0 = record {
  kind = Answer (ℕ × ℕ) × List ℕ;
  gives = counted_bits 3 0 1 sent output;
  printed = (given (0, 0), 7 ∷ 8 ∷ 9 ∷ []);
}

-- P7
abbrev pub cases : List Case
cases = p7_2 ∷ p7_3 ∷ p7_0 ∷ []
