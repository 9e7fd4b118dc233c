-- Rules P: P1.
use Rattle.std.specs.Prelude.{ℕ, List, [], ◌∷◌}
use Rattle.measure.specs.Table.{Case}
use Rattle.sender.specs.Sending.{wave}

-- P1: a 2, b 3, p1 2, bits 1 0
abbrev P1 : Case
P1 = record {
  kind = List ℕ;
  gives = wave 2 3 2 (1 ∷ 0 ∷ []);
  printed = 1 ∷ 1 ∷ 0 ∷ 0 ∷ 1 ∷ 1 ∷ 1 ∷ 0 ∷ 0 ∷ 0 ∷ 0 ∷ 0 ∷ [];
}

-- P1
abbrev pub cases : List Case
cases = P1 ∷ []
