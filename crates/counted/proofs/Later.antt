-- Reads that come later change nothing of what was found: the marks and samples found stand where they stood.
use mathlib.Core.Path.{◌≡◌, refl, ap, ◌∙◌}
use mathlib.Core.Bool.{Bool, true, false}
use mathlib.Core.List.{List, [], ◌∷◌, ◌++◌}
use Prim.Native.Nat.{ℕ, zero, suc, ◌+◌, ◌≤◌, ◌<◌}
use native.Mathlib.Decide.{dec_le}
use native.Mathlib.Omega.{arith}
use lib.Dec.{eqb}
use lib.ListN.{length, get_or, length-append, get_or-append}
use lib.Seq.{drop-append-le}
use Rattle.measure.specs.Choose.{choose}
use Rattle.measure.specs.Cells.{bit_of}
use Rattle.counted.specs.Counted.{from_mark, counted}
use Rattle.counted.specs.Continued.{Keeps, LaterReadsKeep}
use Rattle.counted.proofs.Continuing.{none_counted, none_current, none_held, nothing_yet}
use Rattle.counted.proofs.Continuing.{ahead, sample, from_sample, bit, next_counted, next_current, next_held}

-- a mark that is there stays the mark
mark_stays : (level : ℕ) (reads later : List ℕ) → 0 < length (from_mark level reads)
    → from_mark level (reads ++ later) ≡ from_mark level reads ++ later
unfolding from_mark
mark_stays level [] later h = absurd (omega (arith, h))
mark_stays level (read ∷ reads) later h = go (eqb read level) h (mark_stays level reads later)
  where
    go : (is : Bool) → 0 < length (choose is (from_mark level reads) (read ∷ reads))
        → (0 < length (from_mark level reads) → from_mark level (reads ++ later) ≡ from_mark level reads ++ later)
        → choose is (from_mark level (reads ++ later)) (read ∷ reads ++ later)
        ≡ choose is (from_mark level reads) (read ∷ reads) ++ later
    go true h rest = rest h
    go false h rest = refl

-- and so does its sample
module _ (k level : ℕ) (reads later : List ℕ) (enough : k < length (from_mark level reads)) where
  stays : from_mark level (reads ++ later) ≡ from_mark level reads ++ later
  stays = mark_stays level reads later (omega arith)

  still : k < length (from_mark level (reads ++ later))
  still = rw (stays, length-append) (omega arith)

  same_sample : sample k level (reads ++ later) still ≡ sample k level reads enough
  unfolding sample
  same_sample = rw stays (get_or-append (from_mark level reads) later 0 k enough)

  same_from : from_sample k level (reads ++ later) still ≡ from_sample k level reads enough ++ later
  unfolding from_sample
  same_from = rw stays (drop-append-le k (from_mark level reads) later (omega arith))

  same_ahead : ahead k level (reads ++ later) still ≡ ahead k level reads enough
  unfolding ahead
  same_ahead = rw (stays, length-append, length-append) (omega arith)

  same_bit : bit k level (reads ++ later) still ≡ bit k level reads enough
  unfolding bit
  same_bit =
      ap (λ (n : ℕ). bit_of n (sample k level (reads ++ later) still)) first
      ∙ ap (λ (n : ℕ). bit_of (get_or (from_mark level reads) 0 0) n) same_sample
    where
      first : get_or (from_mark level (reads ++ later)) 0 0 ≡ get_or (from_mark level reads) 0 0
      first = rw stays (get_or-append (from_mark level reads) later 0 0 (omega arith))

-- C9
pub later_reads_keep : LaterReadsKeep
later_reads_keep k zero level reads later = record {
  bits = rw (nothing_yet k level reads).0 (nothing_yet k level (reads ++ later)).0;
  place = rw ((nothing_yet k level reads).0, (nothing_yet k level reads).1) (nothing_yet k level (reads ++ later)).1;
  held = rw ((nothing_yet k level reads).0, (nothing_yet k level reads).2) (nothing_yet k level (reads ++ later)).2;
}
later_reads_keep k (suc n) level reads later =
    go (dec_le (suc k) (length (from_mark level reads))) (later_reads_keep k n)
  where
    go : Dec (suc k ≤ length (from_mark level reads))
        → ((next : ℕ) (reads later : List ℕ) → Keeps k n next reads later)
        → Keeps k (suc n) level reads later
    go (no few) rest =
        let short : length (from_mark level reads) ≤ k = omega arith in
        record {
          bits = rw (none_counted k level reads short (suc n)) (nothing_yet k level (reads ++ later)).0;
          place = rw (none_counted k level reads short (suc n), none_current k level reads short (suc n))
              (nothing_yet k level (reads ++ later)).1;
          held = rw (none_counted k level reads short (suc n), none_held k level reads short (suc n))
              (nothing_yet k level (reads ++ later)).2;
        }
    go (yes enough) rest =
        let there = still k level reads later enough in
        let next = sample k level reads enough in
        let onward = from_sample k level reads enough in
        let found = length (counted k n next onward) in
        let q = rest next onward later in
        record {
          bits = rw (
            next_counted k level reads enough n,
            next_counted k level (reads ++ later) there found,
            same_bit k level reads later enough,
            same_sample k level reads later enough,
            same_from k level reads later enough,
          )
              (ap (λ (l : List ℕ). bit k level reads enough ∷ l) q.bits);
          place = rw (
            next_counted k level reads enough n,
            next_current k level (reads ++ later) there found,
            next_current k level reads enough n,
            same_ahead k level reads later enough,
            same_sample k level reads later enough,
            same_from k level reads later enough,
          )
              (ap (λ (i : ℕ). ahead k level reads enough + i) q.place);
          held = rw (
            next_counted k level reads enough n,
            next_held k level (reads ++ later) there found,
            next_held k level reads enough n,
            same_sample k level reads later enough,
            same_from k level reads later enough,
          )
              q.held;
        }
