-- A log as it is lent, by references, and the record that a call puts there, as rules K speak of them.
use Rattle.std.specs.Prelude.{ℕ, Bool, ◌*◌, ◌≡◌, List, length, Option, None, Some}
use Rattle.std.specs.Borrow.{Bor}
use Rattle.measure.specs.Choose.{choose}
use Rattle.measure.specs.Ranges.{log_records, record_bytes}
use Rattle.bay_log.specs.Records.{Log, Record, no_bits}
use Rattle.bay_log.specs.declared.Log.{Log as Lent}
use Rattle.bay_log.specs.declared.Record.{Record as New}

-- K1: the log that is lent
abbrev pub lent : Lent → Log
lent log = record {
  numbers = log.numbers.now;
  bits = log.bits.now;
  counts = log.counts.now;
  broken = log.broken.now;
  free = log.free.now;
  broken_count = log.broken_count.now;
}

-- K1: a log that is lent, with other lists behind its references
abbrev pub over : Lent → Log → Lent
over log lists = record log {
  numbers = record log.numbers { now = lists.numbers };
  bits = record log.bits { now = lists.bits };
  counts = record log.counts { now = lists.counts };
  broken = record log.broken { now = lists.broken };
  free = record log.free { now = lists.free };
  broken_count = record log.broken_count { now = lists.broken_count };
}

-- K1: a call leaves the references, whatever it writes behind them
abbrev pub SameReferences : (old new : Lent) → Type 0
SameReferences old new = over old (lent new) ≡ new

-- K1: what a call answers, and the log with the lists that it leaves behind the references that were lent
abbrev pub behind : {A : Type 0} → Lent → A × Log → A × Lent
behind log left = (left.0, over log left.1)

-- K4: bits that are given, or all 0
abbrev pub given_bits : Option (Bor (List ℕ)) → List ℕ
given_bits None = no_bits
given_bits (Some bits) = bits.now

-- K1: the byte of a mark: 1 if it is set
abbrev pub byte_of : Bool → ℕ
byte_of mark = choose mark 1 0

-- K1: a record that a call puts into a log
abbrev pub said : New → Record
said new = record {
  number = new.number;
  bits = given_bits new.bits;
  count = new.count;
  broken = byte_of new.broken;
  free = byte_of new.free;
}

-- K1: a list has an entry for each record
abbrev pub PerRecord : List ℕ → Type 0
PerRecord list = length list ≡ log_records

-- K1: a log whose lists have their lengths
pub record Sized (log : Log) : Type 0 where
  pub numbers : PerRecord log.numbers
  pub bits : length log.bits ≡ record_bytes * log_records
  pub counts : PerRecord log.counts
  pub broken : PerRecord log.broken
  pub free : PerRecord log.free
