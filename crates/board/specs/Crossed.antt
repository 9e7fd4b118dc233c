-- Rule B29: reads that are all turned over, as by a pair whose wires are swapped, bring the same reports.
use Rattle.std.specs.Prelude.{ℕ, ◌-◌, ◌≤◌, ◌≡◌, List, map}
use Rattle.measure.specs.Levels.{Levels}
use Rattle.board.specs.Rows.{Settings, fresh}
use Rattle.board.specs.Feeding.{reports}

-- B29: a read that is a level, turned over
abbrev pub turned : (read : ℕ) → ℕ
turned read = 1 - read

-- B29: a fresh receiver reports the same of reads that are levels and of the same reads turned over, each at its place
abbrev pub SameCrossed : Type 0
SameCrossed = (g : Settings) (place : ℕ) (reads : List ℕ) → 2 ≤ g.Q → Levels reads
    → reports g fresh place (map turned reads) ≡ reports g fresh place reads
