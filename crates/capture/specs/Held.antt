-- Rules F, on reading: the reader is the bytes lent to it and where it has got to.
use Rattle.std.specs.Prelude.{ℕ, ◌≤◌, ◌≡◌, List, length}
use Rattle.std.specs.Borrow.{Bor}
use Rattle.measure.specs.Refusals.{Answer, given, refused, refused_after}
use Rattle.capture.specs.Numbers.{Numeral, number_at}
use Rattle.capture.specs.declared.held.CaptureReader.{CaptureReader}

-- F20: a reader of lent bytes, at their first
abbrev pub begun_reader : Bor (List ℕ) → CaptureReader
begun_reader src = record { src = src; at = 0 }

-- F21: the place after a number that was read, and the place itself where it was refused
abbrev pub place_after : ℕ → Answer Numeral → ℕ
place_after at (given n) = n.after
place_after at (refused number place) = at
place_after at (refused_after number place count) = at

-- F21: the reader past the number at its place
abbrev pub advanced : CaptureReader → CaptureReader
advanced r = record { src = r.src; at = place_after r.at (number_at r.src.now r.at) }

-- F20, F21: the readers of lent bytes that a caller can have, since a reader's fields are its own: a new one, and one
-- that was moved past a number
pub data Reached (src : Bor (List ℕ)) : CaptureReader → Type 0 where
  at_first : Reached src (begun_reader src)
  moved : {r : CaptureReader} → Reached src r → Reached src (advanced r)

-- F20: such a reader keeps the bytes that were lent, and its place is among them or right after the last
pub record Stands (src : Bor (List ℕ)) (r : CaptureReader) : Type 0 where
  pub keeps : r.src ≡ src
  pub among : r.at ≤ length r.src.now
