-- Rules K: with no clearing, a log shows the last 64 events that were logged.
use Rattle.std.specs.Prelude.{ℕ, suc, ◌-◌, ◌≤◌, ◌≡◌, ◌&&◌, List, [], ◌∷◌, map, leb, length, take, drop}
use Rattle.measure.specs.Choose.{choose}
use Rattle.measure.specs.Ranges.{log_records}
use Rattle.measure.specs.Refusals.{given}
use Rattle.bay_log.specs.Records.{Log, Record, record_at, event_record}
use Rattle.bay_log.specs.Answers.{listed}
use Rattle.bay_log.specs.Sequence.{Call, logs, clears, lists, event_fits, ran, at_first}

-- K21: an event as it is logged
pub record Event : Type 0 where
  pub number : ℕ
  pub bits : List ℕ
  pub count : ℕ
  pub broken : ℕ

-- K21: the call that logs it, and its record
abbrev pub call_of : Event → Call
call_of event = logs event.number event.bits event.count event.broken

-- K4
abbrev pub record_of : Event → Record
record_of event = event_record event.number event.bits event.count event.broken

-- K21: no call of a list clears
abbrev pub NoClearing : List Call → Type 0
NoClearing [] = Unit {0}
NoClearing (logs number bits count broken ∷ calls) = NoClearing calls
NoClearing (clears place ∷ calls) = ⊥
NoClearing (lists output ∷ calls) = NoClearing calls

-- K21: With no clearing, the records of the events that a list of calls logs: those that have their sizes, and whose
-- read number is above that of the event logged before, or is at least a least one.
abbrev pub logged_from : (least : ℕ) → List Call → List Record
logged_from least [] = []
logged_from least (logs number bits count broken ∷ calls) =
    choose (event_fits bits count && leb least number)
    (event_record number bits count broken ∷ logged_from (suc number) calls)
    (logged_from least calls)
logged_from least (clears place ∷ calls) = logged_from least calls
logged_from least (lists output ∷ calls) = logged_from least calls

-- K21: the last so many entries of a list, or all where there are fewer
abbrev pub last_of : {A : Type 0} (most : ℕ) → List A → List A
last_of most entries = drop (length entries - most) entries

-- K21: Listing a log shows these records: it answers how many they are, and they stand at the places that are listed,
-- in this order.
abbrev pub ShowsRecords : Log → List Record → Type 0
ShowsRecords log records = (output : List ℕ) → length records ≤ length output
    → let answer = listed log.numbers log.free output in
    (answer.0 ≡ given (length records)) × (map (record_at log) (take (length records) answer.1) ≡ records)

-- K21: After any calls but clearings from an empty log, refused calls included, the log shows the last 64 events that
-- were logged.
abbrev pub KeepsLast : Type 0
KeepsLast = (calls : List Call) → NoClearing calls
    → ShowsRecords (ran calls at_first).log (last_of log_records (logged_from 0 calls))
