-- Rules L, 2 once more: warp by lengths, where each writer cycle and each read has a length of its own. A read is told
-- by the cycles that share time with it.
use Rattle.std.specs.Prelude.{ℕ, zero, suc, ◌+◌, ◌<◌, ◌≤◌, ◌≡◌, Bool, true, ◌&&◌, List, [], ◌∷◌, length, get_or, take, replicate, eqb, leb, ltb}
use Rattle.measure.specs.Choose.{choose}
use Rattle.line.specs.Warp.{warp}

-- L40: when the cycle at a place starts, of cycles with these lengths: the first starts at `from`, and each other when
-- the one before it is over
unfoldable pub start_of : (from : ℕ) (lengths : List ℕ) (i : ℕ) → ℕ
start_of from lengths zero = from
start_of from lengths (suc i) = start_of from lengths i + get_or lengths i 0

-- L41: cycle i and read j share more than a point of time: each starts before the other is over
abbrev pub share : (starts reads : ℕ → ℕ) (j i : ℕ) → Bool
share starts reads j i = ltb (starts i) (reads (suc j)) && ltb (reads j) (starts (suc i))

-- L41: the levels of those cycles, from cycle i on, that share time with read j
unfoldable pub shared : (starts reads : ℕ → ℕ) (j i : ℕ) (levels : List ℕ) → List ℕ
shared starts reads j i [] = []
shared starts reads j i (level ∷ levels) =
    choose (share starts reads j i) (level ∷ shared starts reads j (suc i) levels)
    (shared starts reads j (suc i) levels)

-- each of some levels is this one
unfoldable pub all_are : (level : ℕ) (levels : List ℕ) → Bool
all_are level [] = true
all_are level (one ∷ levels) = eqb one level && all_are level levels

-- L41: the level that all of some have, and otherwise unknown, 2
abbrev pub common : (levels : List ℕ) → ℕ
common [] = 2
common (level ∷ levels) = choose (all_are level levels) level 2

-- L41, L43: The reads from read j on, so many at most. There is a read only if it ends by `end`, when the wave does.
unfoldable pub share_from : (most : ℕ) (starts reads : ℕ → ℕ) (end j : ℕ) (levels : List ℕ) → List ℕ
share_from zero starts reads end j levels = []
share_from (suc most) starts reads end j levels =
    choose (leb (reads (suc j)) end)
    (common (shared starts reads j 0 levels) ∷ share_from most starts reads end (suc j) levels)
    []

-- L41, L43: so many reads at most, of a wave and of two clocks
abbrev pub share_by : (most : ℕ) (starts reads : ℕ → ℕ) (levels : List ℕ) → List ℕ
share_by most starts reads levels = share_from most starts reads (starts (length levels)) 0 levels

-- L40, L42, L43: The pass. The wave ends with the last cycle that has both a level and a length, and there are no more
-- reads than lengths of reads.
unfoldable pub warp_by_lengths : (p : ℕ) (cycles reads levels : List ℕ) → List ℕ
warp_by_lengths p cycles reads levels =
    share_by (length reads) (start_of 0 cycles) (start_of p reads) (take (length cycles) levels)

-- L44: with one length for all cycles, one for all reads, and as many of each as are needed, the reads are warp's
abbrev pub EqualLengthsWarp : Type 0
EqualLengthsWarp =
    (w r p cycles reads : ℕ) (levels : List ℕ) → 0 < r → p < w → length levels ≤ cycles
    → length (warp w r p levels) ≤ reads
    → warp_by_lengths p (replicate cycles w) (replicate reads r) levels ≡ warp w r p levels
