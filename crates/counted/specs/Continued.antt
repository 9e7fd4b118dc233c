-- Rules C: the counted receiver goes on where it stopped.
use Rattle.std.specs.Prelude.{ℕ, ◌+◌, ◌≤◌, ◌≡◌, List, ◌++◌, length, drop, get_or}
use Rattle.counted.specs.Counted.{counted, current, in_force}

-- C8: To count n bits, and then m from the current read on with the level then in force, is to count n + m: the bits
-- are the same, and so is the place that is reached. The level is the sample's where a bit was found, and otherwise
-- that of the start.
pub record Continues (k n m level : ℕ) (reads : List ℕ) : Type 0 where
  pub bits : counted k (n + m) level reads
      ≡ counted k n level reads ++ counted k m (in_force k n level reads) (drop (current k n level reads) reads)
  pub place : current k (n + m) level reads
      ≡ current k n level reads + current k m (in_force k n level reads) (drop (current k n level reads) reads)
  pub sampled : 1 ≤ length (counted k n level reads) → in_force k n level reads ≡ get_or reads (current k n level reads) 0
  pub unsampled : length (counted k n level reads) ≡ 0 → in_force k n level reads ≡ level

-- C8
abbrev pub CountingContinues : Type 0
CountingContinues = (k n m level : ℕ) (reads : List ℕ) → Continues k n m level reads

-- C9: Reads that come later change nothing of what was found: to count as many bits as were found gives the same bits,
-- the same place and the same level in force.
pub record Keeps (k n level : ℕ) (reads later : List ℕ) : Type 0 where
  pub bits : counted k (length (counted k n level reads)) level (reads ++ later) ≡ counted k n level reads
  pub place : current k (length (counted k n level reads)) level (reads ++ later) ≡ current k n level reads
  pub held : in_force k (length (counted k n level reads)) level (reads ++ later) ≡ in_force k n level reads

-- C9
abbrev pub LaterReadsKeep : Type 0
LaterReadsKeep = (k n level : ℕ) (reads later : List ℕ) → Keeps k n level reads later
