-- Rules P: P11.
use Rattle.std.specs.Prelude.{ℕ, List, [], ◌∷◌}
use Rattle.measure.specs.Refusals.{Answer, refused}
use Rattle.measure.specs.Table.{Case}
use Rattle.capture.specs.Numbers.{Numeral, number_at, spelled}
use Rattle.capture.specs.Capture.{runs_from}

-- P11: three numbers as they are written; a long form; a run one above the limit
abbrev p11_127 : Case
p11_127 = record { kind = List ℕ; gives = spelled 127; printed = 0x7F ∷ [] }

abbrev p11_128 : Case
p11_128 = record { kind = List ℕ; gives = spelled 128; printed = 0x80 ∷ 0x01 ∷ [] }

abbrev p11_1048576 : Case
p11_1048576 = record { kind = List ℕ; gives = spelled 1048576; printed = 0x80 ∷ 0x80 ∷ 0x40 ∷ [] }

abbrev p11_long : Case
p11_long = record { kind = Answer Numeral; gives = number_at (0x80 ∷ 0x00 ∷ []) 0; printed = refused 7 0 }

abbrev p11_run : Case
p11_run = record { kind = Answer (List ℕ); gives = runs_from 0 (0x81 ∷ 0x80 ∷ 0x40 ∷ []) 0; printed = refused 8 0 }

-- P11
abbrev pub cases : List Case
cases = p11_127 ∷ p11_128 ∷ p11_1048576 ∷ p11_long ∷ p11_run ∷ []
