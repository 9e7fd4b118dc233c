-- Rules P: P1, as a case of reading a stored plan.
use Rattle.std.specs.Prelude.{ℕ, List, [], ◌∷◌, ◌++◌}
use Rattle.measure.specs.Refusals.{Answer, given}
use Rattle.measure.specs.Table.{Case}
use Rattle.sender.specs.Sending.{pad, plan_wave, rows_of}
use Rattle.stored.specs.Stored.{joined, dropped}
use Rattle.stored.specs.Answers.{Told, read_plan}

-- one row, with lead 2 and trail 1
abbrev leads : List ℕ
leads = 2 ∷ []

abbrev trails : List ℕ
trails = 1 ∷ []

-- P1: it is read into lead 2, and 1 cycle is dropped; the output has a place more
abbrev p1_read : Case
p1_read = record {
  kind = Answer Told × List ℕ;
  gives = read_plan leads trails (7 ∷ 8 ∷ []);
  printed =
      (given (record { rows = 1; dropped = 1 }), 2 ∷ 8 ∷ []);
}

-- P1: a 2, b 3, bits 1 0: the plan's wave, followed by the cycles that are dropped
abbrev p1_wave : Case
p1_wave = record {
  kind = List ℕ;
  gives = plan_wave 2 3 (rows_of 2 (joined leads trails) (1 ∷ 0 ∷ [])) ++ pad (dropped trails);
  printed = 1 ∷ 1 ∷ 0 ∷ 0 ∷ 1 ∷ 1 ∷ 1 ∷ 0 ∷ 0 ∷ 0 ∷ 0 ∷ 0 ∷ 1 ∷ [];
}

-- P1
abbrev pub cases : List Case
cases = p1_read ∷ p1_wave ∷ []
