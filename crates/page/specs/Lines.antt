-- Rules E: its lines, and the whole of what it writes for any input.
use Rattle.std.specs.Prelude.{ℕ, suc, List, [], ◌∷◌, ◌++◌, length, ltb}
use Rattle.measure.specs.Choose.{choose}
use Rattle.measure.specs.Ranges.{input_most}
use Rattle.measure.specs.Refusals.{Answer, given, refused, refused_after}
use Rattle.capture.specs.Capture.{Capture, capture, reads_of_runs}
use Rattle.board.specs.Rows.{Settings, Event, nothing, row, broken, fresh}
use Rattle.board.specs.Feeding.{Report, reports}
use Rattle.page.specs.Words.{feed, heading_text, row_text, broken_text, end_text, rows_text, refused_text, at_text}
use Rattle.text.specs.Decimal.{decimal}
use Rattle.page.specs.Words.{bits_text}

-- E2: the same first line, whatever the capture
abbrev pub heading_line : List ℕ
heading_line = heading_text

-- E3: the line of an event: which read brought it, counted from 0; what it was; and the bits, or how many of them were
-- lost
abbrev pub event_line : ℕ → Event → List ℕ
event_line place nothing = []
event_line place (row bits) = decimal place ++ row_text ++ bits_text bits ++ feed
event_line place (broken found) = decimal place ++ broken_text ++ decimal found ++ feed

-- E4: the line at the end: how many reads there were and how many rows came out of them
abbrev pub end_line : ℕ → ℕ → List ℕ
end_line reads rows = end_text ++ decimal reads ++ rows_text ++ decimal rows ++ feed

-- E5: the only line of a bad capture
abbrev pub refused_line : ℕ → ℕ → List ℕ
refused_line number place = refused_text ++ decimal number ++ at_text ++ decimal place ++ feed

-- E3: a line for each report
unfoldable pub event_lines : List Report → List ℕ
event_lines [] = []
event_lines (report ∷ more) = event_line report.place report.event ++ event_lines more

-- E4: how many rows were delivered, with one event more
abbrev pub one_more : Event → ℕ → ℕ
one_more nothing rows = rows
one_more (row bits) rows = suc rows
one_more (broken found) rows = rows

-- E4: the same of a list of reports
unfoldable pub rows_in : List Report → ℕ
rows_in [] = 0
rows_in (report ∷ more) = one_more report.event (rows_in more)

-- E1: the heading, the reports of the reads from fresh, and the totals
abbrev pub page : List ℕ → List Report → List ℕ
page reads told = heading_line ++ event_lines told ++ end_line (length reads) (rows_in told)

-- a capture's settings
abbrev pub capture_settings : Capture → Settings
capture_settings c = record { k = c.k; n = c.n; Q = c.Q }

-- a capture's reads
abbrev pub capture_reads : Capture → List ℕ
capture_reads c = reads_of_runs c.level c.runs

-- E5: a good capture gives its page, a bad one only its refusal
abbrev pub printed : Answer Capture → List ℕ
printed (given c) = page (capture_reads c) (reports (capture_settings c) fresh 0 (capture_reads c))
printed (refused number place) = refused_line number place
printed (refused_after number place count) = refused_line number place

-- E6: what the program writes for its input; more than 65,536 bytes are refused before anything else
unfoldable pub output : List ℕ → List ℕ
output input = choose (ltb input_most (length input)) (refused_line 3 0) (printed (capture input))
