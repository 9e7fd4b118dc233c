-- Rules K: a log of 64 records, which the caller lends as five lists and a count; a record of it, how many of them are
-- broken, and a record put into it.
use Rattle.std.specs.Prelude.{ℕ, zero, suc, ◌+◌, ◌*◌, Bool, not, ◌&&◌, List, take, drop, get_or, set, replicate, ltb}
use Rattle.std.proofs.lemmas.List.Edits.{sets}
use Rattle.measure.specs.Choose.{choose}
use Rattle.measure.specs.Ranges.{log_records, record_bytes}

-- K1, K7: a log: the five lists that the caller lends, and beside them how many records are broken
pub record Log : Type 0 where
  pub numbers : List ℕ
  pub bits : List ℕ
  pub counts : List ℕ
  pub broken : List ℕ
  pub free : List ℕ
  pub broken_count : ℕ

-- K1: one record: the read number of a row, its bits in 128 bytes, how many bits it has, and two marks
pub record Record : Type 0 where
  pub number : ℕ
  pub bits : List ℕ
  pub count : ℕ
  pub broken : ℕ
  pub free : ℕ

-- K1: the record at a place: an entry of each list, and the 128 bytes from 128 times the place on
abbrev pub record_at : Log → ℕ → Record
record_at log place = record {
  number = get_or log.numbers place 0;
  bits = take record_bytes (drop (record_bytes * place) log.bits);
  count = get_or log.counts place 0;
  broken = get_or log.broken place 0;
  free = get_or log.free place 0;
}

-- K2: a mark is set if it is not 0
abbrev pub marked : (mark : ℕ) → Bool
marked mark = ltb 0 mark

-- K7: what a record adds to the count of broken records: 1 if its broken mark is set and it is not free
abbrev pub adds : (broken free : ℕ) → ℕ
adds broken free = choose (marked broken && not (marked free)) 1 0

-- K7: how many of the first so many records are broken
unfoldable pub broken_among : (broken free : List ℕ) → ℕ → ℕ
broken_among broken free zero = 0
broken_among broken free (suc place) =
    broken_among broken free place + adds (get_or broken place 0) (get_or free place 0)

-- K7: how many records are broken
abbrev pub broken_records : (broken free : List ℕ) → ℕ
broken_records broken free = broken_among broken free log_records

-- K10, K11: a record put at a place, and no other touched; the count is that of the broken records then
abbrev pub put : Log → ℕ → Record → Log
put log place new = record {
  numbers = set log.numbers place new.number;
  bits = sets log.bits (record_bytes * place) new.bits;
  counts = set log.counts place new.count;
  broken = set log.broken place new.broken;
  free = set log.free place new.free;
  broken_count = broken_records (set log.broken place new.broken) (set log.free place new.free);
}

-- K3: the record at a place is free
abbrev pub is_free : Log → ℕ → Bool
is_free log place = marked (get_or log.free place 0)

-- K4: bits that are all 0
abbrev pub no_bits : List ℕ
no_bits = replicate record_bytes 0

-- K4: the record of an event: a broken row's bits are all 0, and its mark is 1
abbrev pub event_record : (number : ℕ) (bits : List ℕ) (count broken : ℕ) → Record
event_record number bits count broken = record {
  number = number;
  bits = choose (marked broken) no_bits bits;
  count = count;
  broken = choose (marked broken) 1 0;
  free = 0;
}

-- K5: a record that was cleared: its free mark is 1, and all else is 0
abbrev pub free_record : Record
free_record = record { number = 0; bits = no_bits; count = 0; broken = 0; free = 1 }

-- K5: an empty log: 64 such records, none of which is broken
abbrev pub empty_log : Log
empty_log = record {
  numbers = replicate log_records 0;
  bits = replicate (record_bytes * log_records) 0;
  counts = replicate log_records 0;
  broken = replicate log_records 0;
  free = replicate log_records 1;
  broken_count = 0;
}
