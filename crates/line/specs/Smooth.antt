-- Rules L, 1: smooth.
use Rattle.std.specs.Prelude.{ℕ, zero, suc, ◌-◌, Bool, true, false, List, [], ◌∷◌, eqb}

-- L10: how many cycles, this one among them, are unknown: g where the level changes, and otherwise those still left
abbrev pub unknown : (g left : ℕ) (same : Bool) → ℕ
unknown g left true = left
unknown g left false = g

-- L10: a cycle's level, and 2 where it is unknown
abbrev pub seen : (unknown level : ℕ) → ℕ
seen zero level = level
seen (suc n) level = 2

-- L10: each cycle is compared with the one before it, and so many cycles are still unknown from changes before them
unfoldable pub smooth_from : (g left before : ℕ) → List ℕ → List ℕ
smooth_from g left before [] = []
smooth_from g left before (level ∷ levels) =
    seen (unknown g left (eqb before level)) level
    ∷ smooth_from g (unknown g left (eqb before level) - 1) level levels

-- L11: the first cycle is compared with high
abbrev pub smooth : (g : ℕ) → List ℕ → List ℕ
smooth g levels = smooth_from g 0 1 levels
