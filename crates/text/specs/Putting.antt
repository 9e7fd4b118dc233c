-- What putting a piece of text leaves and gives: the piece stands in the lent output from a place on, and the place
-- after it is given; where it has no room, both are as they were.
use Rattle.std.specs.Prelude.{ℕ, ◌+◌, List, [], ◌∷◌, leb, length, Option, Some, None}
use Rattle.std.proofs.lemmas.List.Edits.{sets}
use Rattle.measure.specs.Choose.{choose}

unfoldable pub put_at : List ℕ → ℕ → List ℕ → ℕ × List ℕ
put_at piece at output =
    choose (leb (at + length piece) (length output)) (at + length piece, sets output at piece) (at, output)

-- pieces that are put one after another, each from the place that the one before it gives
unfoldable pub puts : List (List ℕ) → ℕ → List ℕ → ℕ × List ℕ
puts [] at output = (at, output)
puts (piece ∷ pieces) at output = puts pieces (put_at piece at output).0 (put_at piece at output).1

-- the place after so many bytes that begin at a place of an output with so much room, and nothing where they have none
abbrev pub end_within : (at size room : ℕ) → Option ℕ
end_within at size room = choose (leb (at + size) room) (Some (at + size)) None
