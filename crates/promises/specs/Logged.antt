-- Rules K: the log of what a row receiver reports.
use Rattle.std.specs.Prelude.{ℕ, ◌≡◌, true, List, [], map, length}
use Rattle.measure.specs.Ranges.{row_settings_fit, log_records}
use Rattle.board.specs.Rows.{Settings, Event, nothing, row, broken}
use Rattle.board.specs.Packed.{kept}
use Rattle.bay_log.specs.Sequence.{Call, ran, at_first}
use Rattle.bay_log.specs.LastEvents.{Event as Logged, call_of, record_of, NoClearing, logged_from, last_of, ShowsRecords}
use Rattle.promises.specs.Hearing.{Caller, hearing}

-- K21: An event as it is logged, with its read's place for its read number: a row with its bits, and a broken row with
-- how many bits had been found. The event `nothing` is never reported.
abbrev pub log_of : (place : ℕ) → Event → Logged
log_of place nothing = record { number = place; bits = kept []; count = 0; broken = 1 }
log_of place (row bits) = record { number = place; bits = kept bits; count = length bits; broken = 0 }
log_of place (broken found) = record { number = place; bits = kept []; count = found; broken = 1 }

-- K21: all that a caller hears of reads, from a fresh receiver on
abbrev pub logged_of : Caller → Settings → (reads : List ℕ) → List Logged
logged_of caller g reads = map (λ report. log_of report.place report.event) (hearing caller g reads)

-- K21: Logged one after another from an empty log on, none of these events is refused. And after any calls but
-- clearings that log them and no others, with listings and refused calls anywhere in between, the log shows the last 64
-- of them.
pub record ShowsLast (events : List Logged) : Type 0 where
  pub none_cleared : NoClearing (map call_of events)
  pub each_logged : logged_from 0 (map call_of events) ≡ map record_of events
  pub shown : (calls : List Call) → NoClearing calls → logged_from 0 calls ≡ map record_of events
      → ShowsRecords (ran calls at_first).log (last_of log_records (map record_of events))

-- K21: so it is with the events of demand 3, whatever reads come in and however they are heard
abbrev pub LastReports : Type 0
LastReports = (g : Settings) → row_settings_fit g.k g.n g.Q ≡ true → (caller : Caller) (reads : List ℕ)
    → ShowsLast (logged_of caller g reads)
