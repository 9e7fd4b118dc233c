-- What crosses to C of reading a stored plan.
use Rattle.std.specs.Prelude.{ℕ}
use Rattle.measure.specs.Refusals.{Answer, given, refused, refused_after}
use Rattle.stored.specs.Answers.{Told}

-- H12: the refusal's number (0: none), its place, the number of rows and the cycles dropped, both 0 with a refusal
abbrev pub joined_over : Answer Told → ℕ × ℕ × ℕ × ℕ
joined_over (given told) = (0, 0, told.rows, told.dropped)
joined_over (refused number place) = (number, place, 0, 0)
joined_over (refused_after number place count) = (number, place, 0, 0)
