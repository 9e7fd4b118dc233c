-- Rules E: the program's way through a capture, turn by turn, as its operations answer, and the claim that what it
-- writes on this way is the whole output.
use Rattle.std.specs.Prelude.{ℕ, zero, suc, ◌+◌, ◌-◌, ◌≡◌, Bool, true, false, List, [], ◌++◌, length, take, drop, ltb}
use Rattle.measure.specs.Choose.{choose}
use Rattle.measure.specs.Ranges.{entries_most, input_most}
use Rattle.measure.specs.Refusals.{Answer, given, refused, refused_after}
use Rattle.capture.specs.Answers.{read_back}
use Rattle.capture.specs.declared.Summary.{Summary}
use Rattle.board.specs.Rows.{Event, nothing, row, broken}
use Rattle.board.specs.Answers.{Outcome, begun, listened}
use Rattle.board.specs.declared.Receiver.{Receiver}
use Rattle.page.specs.Lines.{heading_line, event_line, end_line, refused_line, one_more, output}

-- E1: where the program stands: its receiver, the place of the next read, and the rows delivered so far
pub record Walk : Type 0 where
  pub receiver : Receiver
  pub place : ℕ
  pub rows : ℕ

-- E4: a row that was delivered is one more
abbrev pub rows_after : Answer Event → ℕ → ℕ
rows_after (given event) rows = one_more event rows
rows_after (refused number place) rows = rows
rows_after (refused_after number place count) rows = rows

-- where it stands after the reads that the receiver took
abbrev pub after_turn : Walk → Outcome × ℕ → Walk
after_turn w heard =
    record {
      receiver = heard.0.receiver;
      place = w.place + heard.1;
      rows = rows_after heard.0.answer w.rows;
    }

-- E3, E4: the line that it puts there: an event's, with the place of the read just taken, or the last where nothing was
-- reported
abbrev pub line_at : Walk → Answer Event → List ℕ
line_at w (given nothing) = end_line w.place w.rows
line_at w (given (row bits)) = event_line (w.place - 1) (row bits)
line_at w (given (broken found)) = event_line (w.place - 1) (broken found)
line_at w (refused number place) = refused_line number place
line_at w (refused_after number place count) = refused_line number place

-- E4: more lines follow that of an event
abbrev pub goes_on : Answer Event → Bool
goes_on (given nothing) = false
goes_on (given (row bits)) = true
goes_on (given (broken found)) = true
goes_on (refused number place) = false
goes_on (refused_after number place count) = false

-- E1: The lines from there on over the reads that are left, so many turns at most: in a turn the receiver takes the
-- reads up to and with the next that brings an event.
unfoldable pub lines_from : ℕ → Walk → List ℕ → List ℕ
lines_from zero w left = []
lines_from (suc turns) w left =
    line_at (after_turn w (listened w.receiver left)) (listened w.receiver left).0.answer
    ++ choose (goes_on (listened w.receiver left).0.answer)
    (lines_from turns (after_turn w (listened w.receiver left)) (drop (listened w.receiver left).1 left)) []

-- E1: all of them, since a turn for each read that is left is enough
abbrev pub lines_of : Walk → List ℕ → List ℕ
lines_of w left = lines_from (length left + 1) w left

-- E1: the way begins with a fresh receiver before the first read
abbrev pub begin : Summary → Walk
begin s = record { receiver = (begun s.settings.k.0 s.settings.n s.settings.q.0).1; place = 0; rows = 0 }

-- E5: a capture that was read into a lent list gives the heading and its lines, a bad one only its refusal
abbrev pub wrote_by : Answer Summary → List ℕ → List ℕ
wrote_by (given s) reads = heading_line ++ lines_of (begin s) (take s.reads.0 reads)
wrote_by (refused number place) reads = refused_line number place
wrote_by (refused_after number place count) reads = refused_line number place

-- E6: what the program writes for its input, with a lent list for the reads; too long an input is refused before it is
-- looked at
unfoldable pub wrote : List ℕ → List ℕ → List ℕ
wrote input reads =
    choose (ltb input_most (length input)) (refused_line 3 0)
    (wrote_by (read_back input reads).0 (read_back input reads).1)

-- D2: what it writes on this way is the whole output, for every input, where the lent list has room for the longest
-- stream of reads
abbrev pub Whole : Type 0
Whole = (input reads : List ℕ) → length reads ≡ entries_most → wrote input reads ≡ output input
