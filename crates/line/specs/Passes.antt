-- Rules L, all three after one another: source 002's whole model of a line between two clocks, and the same between two
-- clocks that wander.
use Rattle.std.specs.Prelude.{ℕ, ◌≤◌, ◌<◌, ◌≡◌, List, length, replicate}
use Rattle.line.specs.Smooth.{smooth}
use Rattle.line.specs.Warp.{warp}
use Rattle.line.specs.Wander.{warp_by_lengths}
use Rattle.line.specs.Settle.{settle}

-- L1: the reads of a wave whose changes take g cycles to settle and whose cycles are w long, by a reader whose reads
-- are r long and start at p, with these choices
unfoldable pub over_the_line : (g w r p : ℕ) (wave choices : List ℕ) → List ℕ
over_the_line g w r p wave choices = settle (warp w r p (smooth g wave)) choices

-- L1, L40: the same where each cycle and each read has a length of its own
unfoldable pub over_the_line_by_lengths : (g p : ℕ) (cycles reads wave choices : List ℕ) → List ℕ
over_the_line_by_lengths g p cycles reads wave choices = settle (warp_by_lengths p cycles reads (smooth g wave)) choices

-- L44: with lengths that are all equal, and as many of each as are needed, it is the first
abbrev pub EqualLengthsLine : Type 0
EqualLengthsLine =
    (g w r p cycles reads : ℕ) (wave choices : List ℕ) → 0 < r → p < w → length wave ≤ cycles
    → length (over_the_line g w r p wave choices) ≤ reads
    → over_the_line_by_lengths g p (replicate cycles w) (replicate reads r) wave choices ≡ over_the_line g w r p wave choices
