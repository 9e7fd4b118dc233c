-- Rules G: levels and bits are 0 or 1, and a read that is not known is 2.
use Rattle.std.specs.Prelude.{ℕ, ◌≤◌, List, [], ◌∷◌}

-- no entry is above m
abbrev pub AtMost : ℕ → List ℕ → Type 0
AtMost m [] = Unit {0}
AtMost m (entry ∷ entries) = (entry ≤ m) × AtMost m entries

-- G3: every entry is a level, or a bit
abbrev pub Levels : List ℕ → Type 0
Levels entries = AtMost 1 entries
