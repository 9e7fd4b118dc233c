-- Rules B: reads fed one after another, and what is reported, each report with the place of its read.
use Rattle.std.specs.Prelude.{ℕ, suc, ◌+◌, List, [], ◌∷◌}
use Rattle.board.specs.Rows.{Settings, State, Event, nothing, row, broken, Moved, next}

-- B43: a read's place and what it brought
pub record Report : Type 0 where
  pub place : ℕ
  pub event : Event

-- B43: a report before others; a read that brings nothing gives none
abbrev pub noted : (place : ℕ) → Event → List Report → List Report
noted place nothing reports = reports
noted place (row bits) reports = record { place = place; event = row bits } ∷ reports
noted place (broken found) reports = record { place = place; event = broken found } ∷ reports

-- B5: what one read does to a state
abbrev pub Step : Type 0
Step = State → ℕ → Moved

-- B5: the state after a list of reads
unfoldable pub after_by : Step → State → (reads : List ℕ) → State
after_by step s [] = s
after_by step s (read ∷ reads) = after_by step (step s read).state reads

-- B43: the reports of a list of reads, whose first read has this place
unfoldable pub reports_by : Step → State → (place : ℕ) (reads : List ℕ) → List Report
reports_by step s place [] = []
reports_by step s place (read ∷ reads) =
    noted place (step s read).event (reports_by step (step s read).state (suc place) reads)

-- B5: by the rules' rules
abbrev pub after : Settings → State → (reads : List ℕ) → State
after g s reads = after_by (next g) s reads

-- B43: and the reports by those rules
abbrev pub reports : Settings → State → (place : ℕ) (reads : List ℕ) → List Report
reports g s place reads = reports_by (next g) s place reads

-- B40: the first thing reported, if any
abbrev pub first_event : List Report → Event
first_event [] = nothing
first_event (report ∷ more) = report.event

-- B41: how many reads that takes: up to and with the one that brings it, or all where nothing is reported
abbrev pub used_of : List Report → (all : ℕ) → ℕ
used_of [] all = all
used_of (report ∷ more) all = report.place + 1
