-- Rules K and R: what each operation answers and leaves in the lent lists, for all input, and what each case of the
-- code says.
use Rattle.std.specs.Prelude.{ℕ, ◌*◌, Bool, ◌&&◌, List, length, leb, ltb, eqb, Result}
use Rattle.measure.specs.Choose.{choose}
use Rattle.measure.specs.Ranges.{log_records, record_bytes, bits_most}
use Rattle.measure.specs.Refusals.{Answer, given, refused, says, ranged, lent}
use Rattle.measure.specs.declared.Refusal.{Refusal}
use Rattle.bay_log.specs.Records.{Log, is_free, broken_records, put, event_record, free_record}
use Rattle.bay_log.specs.Order.{listing, takes, later}

-- K1: a log's lists have 64 entries, and 128 bytes of bits for each
abbrev pub log_fits : Log → Bool
log_fits log =
    eqb (length log.numbers) log_records && eqb (length log.bits) (record_bytes * log_records)
    && eqb (length log.counts) log_records && eqb (length log.broken) log_records
    && eqb (length log.free) log_records

-- R13: the stored count is that of the broken records
abbrev pub count_holds : Log → Bool
count_holds log = eqb log.broken_count (broken_records log.broken log.free)

-- R80: Logging an event: refusal 1 for lists of another length and for a bit count above 1,024; 13 for a stored count
-- that is not that of the broken records; 12 for a read number that is not above all in use. It tells the place taken.
unfoldable pub logged : (number : ℕ) (bits : List ℕ) (count broken : ℕ) → Log → Answer ℕ × Log
logged number bits count broken log =
    ranged (log_fits log && eqb (length bits) record_bytes && leb count bits_most) log
    (choose (count_holds log) (choose (later log.numbers log.free number log_records) (
      given (takes log.numbers log.free),
      put log (takes log.numbers log.free) (event_record number bits count broken),
    )
    (refused 12 0, log))
    (refused 13 0, log))

-- R81: Clearing the record at a place: refusal 1 for lists of another length and for a place above 63; 13 for a stored
-- count that is not that of the broken records, also where the record is free. A free record stays as it is.
unfoldable pub cleared : (place : ℕ) → Log → Answer (Unit {0}) × Log
cleared place log =
    ranged (log_fits log && ltb place log_records) log
    (choose (count_holds log)
    (given tt, choose (is_free log place) log (put log place free_record))
    (refused 13 0, log))

-- R82: Listing: refusal 1 for lists of another length; 4. It answers how many records are in use, and their places
-- stand at the output's front.
unfoldable pub listed : (numbers free output : List ℕ) → Answer ℕ × List ℕ
listed numbers free output =
    ranged (eqb (length numbers) log_records && eqb (length free) log_records) output
    (lent (listing numbers free) output)

-- A8: what each case of the code's answer says
abbrev pub logged_says : Result ℕ Refusal → Answer ℕ
logged_says answer = says (λ place. place) answer

-- A8
abbrev pub cleared_says : Result (Unit {0}) Refusal → Answer (Unit {0})
cleared_says answer = says (λ done. done) answer

-- A8
abbrev pub listed_says : Result ℕ Refusal → Answer ℕ
listed_says answer = says (λ count. count) answer
