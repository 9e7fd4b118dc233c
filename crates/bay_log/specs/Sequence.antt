-- Rules K: any sequence of calls, and what is kept by then: the events logged, in read order, each with the place
-- where it stands.
use Rattle.std.specs.Prelude.{ℕ, ◌≤◌, ◌<◌, ◌≡◌, Bool, true, ◌&&◌, List, [], ◌∷◌, ◌++◌, map, leb, ltb, eqb, length, drop}
use Rattle.measure.specs.Choose.{choose}
use Rattle.measure.specs.Ranges.{log_records, record_bytes, bits_most}
use Rattle.measure.specs.Lists.{onto}
use Rattle.measure.specs.Refusals.{given, refused}
use Rattle.bay_log.specs.Records.{Log, Record, record_at, is_free, broken_records, event_record, free_record, empty_log}
use Rattle.bay_log.specs.Order.{takes}
use Rattle.bay_log.specs.Answers.{logged, cleared, listed}

-- K20: a call of one of the three operations
pub data Call : Type 0 where
  logs : (number : ℕ) (bits : List ℕ) (count broken : ℕ) → Call
  clears : (place : ℕ) → Call
  lists : (output : List ℕ) → Call

-- K20: the log after a call
abbrev pub after : Call → Log → Log
after (logs number bits count broken) log = (logged number bits count broken log).1
after (clears place) log = (cleared place log).1
after (lists output) log = log

-- K20: an event that is kept: its record, and the place where it stands
pub record Kept : Type 0 where
  pub place : ℕ
  pub event : Record

-- K20: a new event comes last, and drops the first, which is the oldest, where 64 are kept
abbrev pub added : Kept → List Kept → List Kept
added new kept = choose (ltb (length kept) log_records) kept (drop 1 kept) ++ (new ∷ [])

-- K20: all but what stands at a place
abbrev pub without : (place : ℕ) → List Kept → List Kept
without place [] = []
without place (one ∷ kept) = choose (eqb one.place place) (without place kept) (one ∷ without place kept)

-- K20: an event has 128 bytes of bits and a count of at most 1,024
abbrev pub event_fits : (bits : List ℕ) (count : ℕ) → Bool
event_fits bits count = eqb (length bits) record_bytes && leb count bits_most

-- K20: a read number is above those of all that is kept
abbrev pub newer : (number : ℕ) → List Kept → Bool
newer number [] = true
newer number (one ∷ kept) = ltb one.event.number number && newer number kept

-- K20: the record of a new event, at the place that it takes in a log (K10)
abbrev pub placed : Log → Record → Kept
placed log event = record { place = takes log.numbers log.free; event = event }

-- K20: What is kept after a call. An event is logged exactly if it has its sizes and is newer than all that is kept. A
-- clearing is done exactly if its place is one of the 64, and takes away what stands there.
abbrev pub keeps : Call → Log → List Kept → List Kept
keeps (logs number bits count broken) log kept =
    choose (event_fits bits count && newer number kept)
    (added (placed log (event_record number bits count broken)) kept) kept
keeps (clears place) log kept = choose (ltb place log_records) (without place kept) kept
keeps (lists output) log kept = kept

-- K20: a log, and what is kept in it
pub record State : Type 0 where
  pub log : Log
  pub kept : List Kept

-- K20: after all calls of a list, one after another
abbrev pub ran : List Call → State → State
ran [] state = state
ran (call ∷ calls) state =
    ran calls (record { log = after call state.log; kept = keeps call state.log state.kept })

-- K20: an empty log, in which nothing is kept
abbrev pub at_first : State
at_first = record { log = empty_log; kept = [] }

-- K20: The log shows what is kept: listing it gives the places of all that is kept, in order, and the records there are
-- those of the events. In a free record all else is 0. The stored count is that of the broken records. And the next
-- call is answered by what is kept: an event is refused exactly if it is not kept, and a clearing exactly if its place
-- is none of the 64, and neither ever with 13.
pub record Shows (state : State) : Type 0 where
  pub listing : (output : List ℕ) → length state.kept ≤ length output
      → listed state.log.numbers state.log.free output
      ≡ (given (length state.kept), onto (map (λ one. one.place) state.kept) output)
  pub records : map (λ one. record_at state.log one.place) state.kept ≡ map (λ one. one.event) state.kept
  pub free : (place : ℕ) → place < log_records → is_free state.log place ≡ true
      → record_at state.log place ≡ free_record
  pub count : state.log.broken_count ≡ broken_records state.log.broken state.log.free
  pub logging : (number : ℕ) (bits : List ℕ) (count broken : ℕ)
      → (logged number bits count broken state.log).0
      ≡ choose (event_fits bits count)
      (choose (newer number state.kept) (given (takes state.log.numbers state.log.free)) (refused 12 0))
      (refused 1 0)
  pub clearing : (place : ℕ)
      → (cleared place state.log).0 ≡ choose (ltb place log_records) (given tt) (refused 1 0)

-- K20: this holds after any sequence of calls from an empty log
abbrev pub AnySequence : Type 0
AnySequence = (calls : List Call) → Shows (ran calls at_first)
