-- Reports come with rising places, and with no more bits than a row has, so a log takes each.
use Prim.Native.Nat.{ℕ, suc, ◌≤◌}
use mathlib.Core.Path.{subst}
use mathlib.Core.List.{List, [], ◌∷◌, map}
use native.Mathlib.Decide.{dec_le}
use native.Mathlib.Omega.{arith}
use borrow.Author.Tests.{le-leb, lt-leb}
use Rattle.measure.specs.Ranges.{log_records}
use Rattle.board.specs.Rows.{Settings, State, Event, nothing, row, broken, fresh, next}
use Rattle.board.specs.Feeding.{Report, noted, reports_by}
use Rattle.board.proofs.PackedBits.{length_packed}
use Rattle.board.proofs.RowRules.{Ranged, Valid, valid_fresh, valid_next}
use Rattle.board.proofs.CallLaws.{Whole, whole_next}
use Rattle.board.proofs.Standing.{ranged_of}
use Rattle.bay_log.specs.Records.{Record}
use Rattle.bay_log.specs.Sequence.{ran, at_first}
use Rattle.bay_log.specs.LastEvents.{Event as Logged, last_of, ShowsRecords}
use Rattle.bay_log.proofs.KeepsLast.{keeps_last, Rise, rise_logged, none_cleared}
use Rattle.promises.specs.Hearing.{heeding}
use Rattle.promises.specs.Logged.{log_of, logged_of, LastReports}
use Rattle.promises.proofs.HearingFromC.{every_caller}

abbrev told : List Report → List Logged
told reports = map (λ report. log_of report.place report.event) reports

module _ (g : Settings) (range : Ranged g) where
  one_more : (least place : ℕ) (event : Event) (reports : List Report) → least ≤ place → Whole g event
      → ((from : ℕ) → from ≤ suc place → Rise from (told reports)) → Rise least (told (noted place event reports))
  one_more least place nothing reports h whole rest = rest least (omega arith)
  one_more least place (row bits) reports h whole rest =
      (length_packed 8 128 bits, omega (arith, whole.0, range), h, rest (suc place) (omega arith))
  one_more least place (broken found) reports h whole rest =
      (length_packed 8 128 [], omega (arith, range), h, rest (suc place) (omega arith))

  -- an entry that is no level brings nothing and leaves the state
  reports_rise : (reads : List ℕ) (s : State) (least place : ℕ) → Valid g s → least ≤ place
      → Rise least (told (reports_by (heeding g) s place reads))
  unfolding reports_by
  reports_rise [] s least place valid h = tt
  reports_rise (read ∷ reads) s least place valid h =
      go (dec_le read 1) (λ t from v l. reports_rise reads t from (suc place) v l)
    where
      go : Dec (read ≤ 1)
          → ((t : State) (from : ℕ) → Valid g t → from ≤ suc place
          → Rise from (told (reports_by (heeding g) t (suc place) reads)))
          → Rise least (told (reports_by (heeding g) s place (read ∷ reads)))
      go (yes level) more =
          rw (le-leb read 1 level)
          (one_more least place (next g s read).event (reports_by (heeding g) (next g s read).state (suc place) reads)
          h (whole_next g s read valid)
          (λ from l. more (next g s read).state from (valid_next g s read valid level) l))
      go (no other) more = rw (lt-leb read 1 (omega arith)) (more s least valid (omega arith))

pub last_reports : LastReports
last_reports g fits caller reads =
    let range = ranged_of g fits in
    let rise : Rise 0 (logged_of caller g reads) =
    rw (every_caller g fits caller reads) (reports_rise g range reads fresh 0 0 (valid_fresh g range) (omega arith)) in
    record {
      none_cleared = none_cleared (logged_of caller g reads);
      each_logged = rise_logged (logged_of caller g reads) 0 rise;
      shown = λ calls none same.
          subst (λ (l : List Record). ShowsRecords (ran calls at_first).log (last_of log_records l)) same
          (keeps_last calls none);
    }
