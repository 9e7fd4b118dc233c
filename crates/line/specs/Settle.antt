-- Rules L, 3: settle.
use Rattle.std.specs.Prelude.{ℕ, List, [], ◌∷◌, drop, eqb}
use Rattle.measure.specs.Choose.{choose}

-- L30, L32: the next choice; where none is left it is low
abbrev pub next_choice : List ℕ → ℕ
next_choice [] = 0
next_choice (choice ∷ choices) = choice

-- L30, L31: An unknown read becomes the next choice, which is then used up. A known read stays and leaves the choices
-- alone.
unfoldable pub settle : List ℕ → List ℕ → List ℕ
settle [] choices = []
settle (read ∷ reads) choices =
    choose (eqb read 2) (next_choice choices ∷ settle reads (drop 1 choices)) (read ∷ settle reads choices)
