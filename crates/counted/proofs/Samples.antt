-- The bits found, cell by cell: once the mark's place is known the sample is k places on, and what is found next is
-- found from there.
use mathlib.Core.Path.{◌≡◌, refl, ◌∙◌}
use mathlib.Core.Logic.{◌≢◌}
use mathlib.Core.Bool.{Bool, true, false}
use mathlib.Core.List.{List, [], ◌∷◌}
use Prim.Native.Nat.{ℕ, zero, suc, ◌+◌, ◌<◌, ◌≤◌}
use native.Mathlib.Omega.{arith}
use lib.Dec.{ltb}
use lib.ListN.{length, drop, get_or, length-drop}
use lib.Seq.{drop-drop, get_or-drop}
use borrow.Author.Tests.{lt-ltb, le-ltb}
use Rattle.measure.specs.Choose.{choose}
use Rattle.measure.specs.Cells.{bit_of}
use Rattle.counted.specs.Counted.{from_mark, counted}
use Rattle.counted.proofs.Marks.{mark_at, mark_late}

-- a read that is there, whatever stands for those that are not
there : (reads : List ℕ) (i c d : ℕ) → i < length reads → get_or reads i c ≡ get_or reads i d
there [] i c d h = absurd (omega arith)
there (read ∷ reads) zero c d h = refl
there (read ∷ reads) (suc i) c d h = there reads i c d (omega arith)

-- the read i places after read m
later : (reads : List ℕ) (m i d : ℕ) → m + i < length reads → get_or (drop m reads) i 0 ≡ get_or reads (m + i) d
later reads m i d h = get_or-drop m reads i 0 ∙ there reads (m + i) 0 d h

-- one bit more: the reads from the mark on are those from m on, and the sample is there
pub counted_marked : (k n level : ℕ) (reads : List ℕ) (j m d : ℕ) → from_mark level (drop j reads) ≡ drop m reads
    → m + k < length reads
    → counted k (suc n) level (drop j reads)
    ≡ bit_of (get_or reads m d) (get_or reads (m + k) d) ∷ counted k n (get_or reads (m + k) d) (drop (m + k) reads)
unfolding counted
counted_marked k n level reads j m d e h =
    let here : m + 0 ≡ m = omega arith in
    let mark : get_or (drop m reads) 0 0 ≡ get_or reads m d = rw here at (later reads m 0 d (omega arith)) in
    let enough : k < length (drop m reads) = rw length-drop (omega arith) in
    rw (e, lt-ltb k (length (drop m reads)) enough, mark, later reads m k d h, drop-drop k m reads)

-- no bit more: at most k reads stand from the mark on
unsampled : (k n level : ℕ) (reads : List ℕ) → length (from_mark level reads) ≤ k → counted k n level reads ≡ []
unfolding counted
unsampled k zero level reads h = refl
unsampled k (suc n) level reads h = rw (le-ltb k (length (from_mark level reads)) h)

-- nothing is found where the first j reads do not differ from the level, and at most k come after them
pub counted_late : (k n level : ℕ) (reads : List ℕ) (j d : ℕ)
    → ((i : ℕ) → i < j → i < length reads → get_or reads i d ≡ level) → length reads ≤ j + k
    → counted k n level reads ≡ []
counted_late k n level reads j d same few =
    unsampled k n level reads (omega (arith, mark_late level reads j d same))

-- The step: from read j on, read m is the first that differs from the level, and the sample stands k places after it.
pub counted_step : (k n level : ℕ) (reads : List ℕ) (j m d : ℕ) → j ≤ m → m + k < length reads
    → ((i : ℕ) → j ≤ i → i < m → get_or reads i d ≡ level) → get_or reads m d ≢ level
    → counted k (suc n) level (drop j reads)
    ≡ bit_of (get_or reads m d) (get_or reads (m + k) d) ∷ counted k n (get_or reads (m + k) d) (drop (m + k) reads)
counted_step k n level reads j m d h l same differs =
    counted_marked k n level reads j m d (mark_at level reads j m d h (omega arith) same differs) l

-- never more bits than asked for
pub counted_most : (k n level : ℕ) (reads : List ℕ) → length (counted k n level reads) ≤ n
unfolding counted
counted_most k zero level reads = omega arith
counted_most k (suc n) level reads =
    let marked = from_mark level reads in
    go (ltb k (length marked)) (bit_of (get_or marked 0 0) (get_or marked k 0))
    (counted k n (get_or marked k 0) (drop k marked)) (counted_most k n (get_or marked k 0) (drop k marked))
  where
    go : (is : Bool) (bit : ℕ) (bits : List ℕ) → length bits ≤ n → length (choose is (bit ∷ bits) []) ≤ suc n
    go true bit bits most = omega arith
    go false bit bits most = omega arith
