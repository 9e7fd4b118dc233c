-- What the functions of the program promise each other: a turn's line in a lent buffer, and a page of lines. The
-- program's way and what it writes are defined in the crate of its lines.
use Rattle.std.specs.Prelude.{ℕ, ◌≤◌, ◌<◌, ◌≡◌, List, [], ◌++◌, length, take, drop, Option, Some, None}
use Rattle.measure.specs.Choose.{choose}
use Rattle.measure.specs.Ranges.{entries_most}
use Rattle.measure.specs.Lists.{onto}
use Rattle.board.specs.Answers.{listened}
use Rattle.page.specs.Walk.{Walk, after_turn, line_at, goes_on, lines_of}
use Rattle.rows.specs.declared.Walk.{Walk as Stand}

-- no line is longer than this
abbrev pub line_most : ℕ
line_most = 1050

-- where the program stands, as its way is defined
abbrev pub walk_of : Stand → Walk
walk_of w = record { receiver = w.receiver; place = w.place.0; rows = w.rows }

-- where it stands, if more lines follow
abbrev pub next_of : Option Stand → Option Walk
next_of None = None
next_of (Some w) = Some (walk_of w)

-- the program stands somewhere in a stream of so many reads, which is within its limit, and no read brought two rows
pub record Ready (w : Walk) (all : ℕ) : Type 0 where
  pub within : w.place ≤ all
  pub few : all ≤ entries_most
  pub fewer : w.rows ≤ w.place

-- the line of the next turn over the reads that are left
abbrev pub turn_line : Walk → List ℕ → List ℕ
turn_line w left = line_at (after_turn w (listened w.receiver left)) (listened w.receiver left).0.answer

-- a turn: where the program stands after it, if more lines follow, the line's length, and the buffer with the line at
-- its front
unfoldable pub turned : Walk → List ℕ → List ℕ → Option Walk × ℕ × List ℕ
turned w left out = (
  choose (goes_on (listened w.receiver left).0.answer) (Some (after_turn w (listened w.receiver left))) None,
  length (turn_line w left),
  onto (turn_line w left) out,
)

-- the lines from where the program stands, if more follow
abbrev pub lines_on : List ℕ → Option Walk → List ℕ
lines_on reads None = []
lines_on reads (Some w) = lines_of w (drop w.place reads)

-- A page that was filled from a stand on: the lines on it, and then those from the next stand on where more follow, are
-- all the lines; a page after which more follow leaves fewer reads.
pub record Filled (w : Walk) (reads page : List ℕ) (next : Option Walk) (bytes : ℕ) : Type 0 where
  pub lines : lines_of w (drop w.place reads) ≡ take bytes page ++ lines_on reads next
  pub room : bytes ≤ length page
  pub ready : (after : Walk) → next ≡ Some after → Ready after (length reads)
  pub further : (after : Walk) → next ≡ Some after → w.place < after.place
