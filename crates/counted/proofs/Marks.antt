-- The mark seen from a place: reads at the level in force are passed one by one, and the first that differs is the
-- mark.
use mathlib.Core.Path.{◌≡◌, refl, ◌∙◌}
use mathlib.Core.Logic.{◌≢◌}
use mathlib.Core.Bool.{Bool, true, false}
use mathlib.Core.List.{List, [], ◌∷◌}
use Prim.Native.Nat.{ℕ, zero, suc, ◌+◌, ◌-◌, ◌<◌, ◌≤◌}
use native.Mathlib.Numerals.{add-one}
use native.Mathlib.Omega.{arith}
use lib.Dec.{eqb}
use lib.ListN.{length, drop, get_or}
use lib.Seq.{drop-cons}
use borrow.Author.Tests.{eq-eqb, ne_eqb}
use Rattle.measure.specs.Choose.{choose}
use Rattle.counted.specs.Counted.{from_mark}

-- a read that differs is the mark
pub mark_here : (level : ℕ) (reads : List ℕ) (i d : ℕ) → i < length reads → get_or reads i d ≢ level
    → from_mark level (drop i reads) ≡ drop i reads
unfolding from_mark
mark_here level reads i d h e = rw (drop-cons reads i d h, ne_eqb (get_or reads i d) level e)

-- a read at the level is passed
pub mark_past : (level : ℕ) (reads : List ℕ) (i d : ℕ) → i < length reads → get_or reads i d ≡ level
    → from_mark level (drop i reads) ≡ from_mark level (drop (i + 1) reads)
unfolding from_mark
mark_past level reads i d h e = rw (drop-cons reads i d h, eq-eqb (get_or reads i d) level e, add-one)

-- reads j up to m, which are at the level, are passed
pub mark_stretch : (level : ℕ) (reads : List ℕ) (j m d : ℕ) → j ≤ m → m ≤ length reads
    → ((i : ℕ) → j ≤ i → i < m → get_or reads i d ≡ level)
    → from_mark level (drop j reads) ≡ from_mark level (drop m reads)
mark_stretch level reads j m d h l same = walk (m - j) j (omega arith) same
  where
    walk : (n j : ℕ) → j + n ≡ m → ((i : ℕ) → j ≤ i → i < m → get_or reads i d ≡ level)
        → from_mark level (drop j reads) ≡ from_mark level (drop m reads)
    walk zero j e same = let here : j ≡ m = omega arith in rw here
    walk (suc n) j e same =
        mark_past level reads j d (omega arith) (same j (omega arith) (omega arith))
        ∙ walk n (j + 1) (omega arith) (λ i p q. same i (omega arith) q)

-- the mark is read m where m is the first, from read j on, that differs from the level
pub mark_at : (level : ℕ) (reads : List ℕ) (j m d : ℕ) → j ≤ m → m < length reads
    → ((i : ℕ) → j ≤ i → i < m → get_or reads i d ≡ level) → get_or reads m d ≢ level
    → from_mark level (drop j reads) ≡ drop m reads
mark_at level reads j m d h l same differs = mark_stretch level reads j m d h (omega arith) same
    ∙ mark_here level reads m d l differs

-- where the first j reads do not differ, the mark is not among them
pub mark_late : (level : ℕ) (reads : List ℕ) (j d : ℕ)
    → ((i : ℕ) → i < j → i < length reads → get_or reads i d ≡ level)
    → length (from_mark level reads) ≤ length reads - j
unfolding from_mark
mark_late level [] j d same = omega arith
mark_late level (read ∷ reads) (suc j) d same =
    rw (eq-eqb read level (same 0 (omega arith) (omega arith)))
    (omega (arith, mark_late level reads j d (λ i p q. same (suc i) (omega arith) (omega arith))))
mark_late level (read ∷ reads) zero d same =
    go (eqb read level) (mark_late level reads zero d (λ i p q. absurd (omega arith)))
  where
    go : (is : Bool) → length (from_mark level reads) ≤ length reads - 0
        → length (choose is (from_mark level reads) (read ∷ reads)) ≤ suc (length reads) - 0
    go true h = omega arith
    go false h = omega arith

-- the reads from the mark on are those after the reads that come before it
pub mark_dropped : (level : ℕ) (reads : List ℕ)
    → from_mark level reads ≡ drop (length reads - length (from_mark level reads)) reads
unfolding from_mark
mark_dropped level [] = refl
mark_dropped level (read ∷ reads) =
    go (eqb read level) (mark_dropped level reads) (mark_late level reads 0 0 (λ i p q. absurd (omega arith)))
  where
    go : (is : Bool) → from_mark level reads ≡ drop (length reads - length (from_mark level reads)) reads
        → length (from_mark level reads) ≤ length reads - 0
        → choose is (from_mark level reads) (read ∷ reads)
        ≡ drop (suc (length reads) - length (choose is (from_mark level reads) (read ∷ reads))) (read ∷ reads)
    go true e few =
        let size = length (from_mark level reads) in
        let more : suc (length reads) - size ≡ suc (length reads - size) = omega arith in
        rw more e
    go false e few =
        let none : suc (length reads) - suc (length reads) ≡ 0 = omega arith in
        rw none

-- the reads from a mark on are some of the reads
pub marked_few : (level : ℕ) (reads : List ℕ) → length (from_mark level reads) ≤ length reads
marked_few level reads = omega (arith, mark_late level reads 0 0 (λ i p q. absurd (omega arith)))
