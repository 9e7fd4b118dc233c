-- Warp by lengths, read by read. The private functions promise each other what stands here; no public promise cites it.
use Rattle.std.specs.Prelude.{ℕ, zero, suc, ◌+◌, ◌<◌, ◌≤◌, ◌≡◌, List, length, drop, get_or}
use Rattle.measure.specs.Ranges.{entries_most}
use Rattle.line.specs.Warp.{look, dropped}
use Rattle.line.specs.declared.steady.Looking.{Looking}

-- The clock that lengths make, from a first start on. It goes on after the last length with cycles `past` long, which
-- no read looks at, so that it never stands still.
unfoldable pub clock_of : (past from : ℕ) (lengths : List ℕ) (i : ℕ) → ℕ
clock_of past from lengths zero = from
clock_of past from lengths (suc i) = clock_of past from lengths i + get_or lengths i past

-- a list of lengths that has passed the judging
pub record Lengths (lengths : List ℕ) : Type 0 where
  pub few : length lengths ≤ entries_most
  pub least : (i : ℕ) → i < length lengths → 1 ≤ get_or lengths i 0
  pub most : (i : ℕ) → i < length lengths → get_or lengths i 0 ≤ 65535

-- of so many reads at most, n end by a time
pub record EndBy (reads : ℕ → ℕ) (most end n : ℕ) : Type 0 where
  pub within : n ≤ most
  pub ends : (j : ℕ) → j < n → reads (suc j) ≤ end
  pub late : n < most → end < reads (suc n)

-- a read that ends at t is what its look from cycle `first` on says, and the cycle that it leaves starts when it says
abbrev pub Sees : (starts : ℕ → ℕ) (t first : ℕ) → List ℕ → Looking → Type 0
Sees starts t first levels x =
    (look starts t first (drop first levels) ≡ x.level)
    × (first + dropped starts t first (drop first levels) ≡ x.next.0) × (starts x.next.0 ≡ x.start.0)

-- so many reads are there of a wave of so many cycles: of no cycle none
pub record Counts (all p : ℕ) (cycles reads : List ℕ) (n : ℕ) : Type 0 where
  pub none : all ≡ 0 → n ≡ 0
  pub some : 0 < all → EndBy (clock_of 1 p reads) (length reads) (clock_of 1 0 cycles all) n
