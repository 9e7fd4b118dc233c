-- Rules C: a mark, its sample, a bit, and on from there.
use Rattle.std.specs.Prelude.{ℕ, zero, suc, ◌+◌, ◌-◌, List, [], ◌∷◌, length, drop, get_or, eqb, ltb}
use Rattle.measure.specs.Choose.{choose}
use Rattle.measure.specs.Cells.{bit_of}

-- C1: the reads from the mark on: from the first that differs from the level in force
unfoldable pub from_mark : (level : ℕ) (reads : List ℕ) → List ℕ
from_mark level [] = []
from_mark level (read ∷ reads) = choose (eqb read level) (from_mark level reads) (read ∷ reads)

-- C3, C4: The bits that are found, n of them or as many as there are. The sample is the read k places after the mark;
-- it is there if more than k reads stand from the mark on. The two give a bit, and the next is found from the sample
-- on, whose level is then in force. Where a mark or its sample is missing nothing more is found.
unfoldable pub counted : (k n level : ℕ) (reads : List ℕ) → List ℕ
counted k zero level reads = []
counted k (suc n) level reads =
    let marked = from_mark level reads in
    let mark = get_or marked 0 0 in
    let sample = get_or marked k 0 in
    choose (ltb k (length marked)) (bit_of mark sample ∷ counted k n sample (drop k marked)) []

-- C4, C7: The place of the current read after n bits, or after as many as there are: the last sample, and the first
-- read where no bit is found. A mark stands as many places on as reads come before it.
unfoldable pub current : (k n level : ℕ) (reads : List ℕ) → ℕ
current k zero level reads = 0
current k (suc n) level reads =
    let marked = from_mark level reads in
    choose (ltb k (length marked))
    (length reads - length marked + k + current k n (get_or marked k 0) (drop k marked)) 0

-- C4: the level in force after n bits, or after as many as there are: the last sample's
unfoldable pub in_force : (k n level : ℕ) (reads : List ℕ) → ℕ
in_force k zero level reads = level
in_force k (suc n) level reads =
    let marked = from_mark level reads in
    choose (ltb k (length marked)) (in_force k n (get_or marked k 0) (drop k marked)) level
