-- A record that is put at a place stands there, every other record is as it was, and the lists keep their lengths.
use Prim.Native.Nat.{ℕ, zero, suc, ◌+◌, ◌*◌, ◌<◌, ◌≤◌}
use mathlib.Core.Path.{◌≡◌, refl, ap, ◌∙◌}
use mathlib.Core.Logic.{dite}
use mathlib.Core.List.{List, [], ◌∷◌, ◌++◌, append_assoc}
use native.Mathlib.Decide.{dec_le}
use native.Mathlib.Omega.{arith}
use lib.ListN.{length, take, drop, set, length-set}
use lib.Seq.{sets, sets-eq, length-sets, take-set-le, drop-set-lt, take_at, drop_at, length-take-le}
use lib.Seq.{get_or-set_same, get_or-set_other}
use Rattle.measure.specs.Ranges.{log_records, record_bytes}
use Rattle.bay_log.specs.Records.{Log, Record, record_at, put}
use Rattle.bay_log.specs.Lent.{Sized}

-- a part of a list that ends before what is stored, or begins after it
part_before_set : (m a : ℕ) (l : List ℕ) (i v : ℕ) → a + m ≤ i → take m (drop a (set l i v)) ≡ take m (drop a l)
part_before_set m zero l i v h = take-set-le m l i v (omega arith)
part_before_set m (suc a) [] i v h = refl
part_before_set m (suc a) (x ∷ l) zero v h = absurd (omega arith)
part_before_set m (suc a) (x ∷ l) (suc i) v h = part_before_set m a l i v (omega arith)

part_before : (m a : ℕ) (vs l : List ℕ) (i : ℕ) → a + m ≤ i → take m (drop a (sets l i vs)) ≡ take m (drop a l)
part_before m a [] l i h = refl
part_before m a (v ∷ vs) l i h =
    part_before m a vs (set l i v) (suc i) (omega arith) ∙ part_before_set m a l i v h

part_after : (a : ℕ) (vs l : List ℕ) (i : ℕ) → i + length vs ≤ a → drop a (sets l i vs) ≡ drop a l
part_after a [] l i h = refl
part_after a (v ∷ vs) l i h = part_after a vs (set l i v) (suc i) (omega arith) ∙ drop-set-lt a l i v (omega arith)

module _ (log : Log) (q : ℕ) (new : Record) (sized : Sized log) (there : q < log_records)
    (whole : length new.bits ≡ record_bytes) where
  pub put_sized : Sized (put log q new)
  put_sized = record {
    numbers = length-set log.numbers q new.number ∙ sized.numbers;
    bits = length-sets log.bits (record_bytes * q) new.bits ∙ sized.bits;
    counts = length-set log.counts q new.count ∙ sized.counts;
    broken = length-set log.broken q new.broken ∙ sized.broken;
    free = length-set log.free q new.free ∙ sized.free;
  }

  bits_here : take record_bytes (drop (record_bytes * q) (sets log.bits (record_bytes * q) new.bits)) ≡ new.bits
  bits_here =
      let room : record_bytes * q + length new.bits ≤ length log.bits = omega (arith, sized.bits) in
      ap (λ (l : List ℕ). take record_bytes (drop (record_bytes * q) l))
      (sets-eq new.bits log.bits (record_bytes * q) room
      ∙ append_assoc (take (record_bytes * q) log.bits) new.bits
      (drop (record_bytes * q + length new.bits) log.bits))
      ∙ ap (take record_bytes)
      (drop_at (take (record_bytes * q) log.bits)
      (new.bits ++ drop (record_bytes * q + length new.bits) log.bits) (record_bytes * q)
      (length-take-le (record_bytes * q) log.bits (omega arith)))
      ∙ take_at new.bits (drop (record_bytes * q + length new.bits) log.bits) record_bytes whole

  pub put_here : record_at (put log q new) q ≡ new
  put_here =
      rw (
        get_or-set_same log.numbers q new.number 0 (omega (arith, sized.numbers)),
        get_or-set_same log.counts q new.count 0 (omega (arith, sized.counts)),
        get_or-set_same log.broken q new.broken 0 (omega (arith, sized.broken)),
        get_or-set_same log.free q new.free 0 (omega (arith, sized.free)),
        bits_here,
      )

  bits_there : (place : ℕ) → (place ≡ q → ⊥)
      → take record_bytes (drop (record_bytes * place) (sets log.bits (record_bytes * q) new.bits))
      ≡ take record_bytes (drop (record_bytes * place) log.bits)
  bits_there place apart =
      dite (dec_le place q)
      (λ h.
      part_before record_bytes (record_bytes * place) new.bits log.bits (record_bytes * q) (omega (arith, apart)))
      (λ h.
      ap (take record_bytes)
      (part_after (record_bytes * place) new.bits log.bits (record_bytes * q) (omega arith)))

  pub put_there : (place : ℕ) → (place ≡ q → ⊥) → record_at (put log q new) place ≡ record_at log place
  put_there place apart =
      rw (
        get_or-set_other log.numbers q place new.number 0 apart,
        get_or-set_other log.counts q place new.count 0 apart,
        get_or-set_other log.broken q place new.broken 0 apart,
        get_or-set_other log.free q place new.free 0 apart,
        bits_there place apart,
      )
