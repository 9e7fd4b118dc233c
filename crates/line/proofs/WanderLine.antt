-- The three passes by lengths: within bounds they are the passes by two clocks that keep to them, and with lengths that
-- are all equal they are the rules' own.
use mathlib.Core.Path.{◌≡◌, ap}
use mathlib.Core.Logic.{dite}
use mathlib.Core.Bool.{Bool, true, false}
use mathlib.Core.List.{List, [], ◌∷◌}
use Prim.Native.Nat.{ℕ, zero, suc, ◌*◌, ◌<◌, ◌≤◌}
use native.Mathlib.Nat.{mul-le-mul_left}
use native.Mathlib.Decide.{dec_le}
use native.Mathlib.Omega.{arith}
use lib.Dec.{leb}
use lib.ListN.{length, take, replicate}
use Rattle.measure.specs.Choose.{choose}
use Rattle.measure.specs.Levels.{Levels}
use Rattle.line.specs.Smooth.{smooth}
use Rattle.line.specs.Warp.{cycle_start, read_start, warp_by, warp}
use Rattle.line.specs.Settle.{settle}
use Rattle.line.specs.Wander.{start_of, shared, common, share_from, warp_by_lengths}
use Rattle.line.specs.Passes.{over_the_line, over_the_line_by_lengths, EqualLengthsLine}
use Rattle.line.specs.Running.{clock_of}
use Rattle.line.proofs.SmoothLaws.{length_smooth}
use Rattle.line.proofs.SettleLaws.{length_settle}
use Rattle.line.proofs.Clocks.{even_clocks}
use Rattle.line.proofs.ReadsThere.{read_ends}
use Rattle.line.proofs.WarpLaws.{warp_by_lem}
use Rattle.line.proofs.LineLaws.{line_by, Reads, line_levels, line_reads}
use Rattle.line.proofs.WanderReads.{equal_lengths_warp}
use Rattle.line.proofs.WanderBounds.{Wandering, wandering_clocks, wandering_warp}

-- lengths within bounds: one for each cycle, and reads up to the wave's end
module _ {w1 w2 r1 r2 p : ℕ} {cycles reads : List ℕ} (x : Wandering w1 w2 r1 r2 p cycles reads) (g : ℕ)
    (wave choices : List ℕ) (lasting : length wave ≤ length cycles)
    (reach : start_of 0 cycles (length wave) ≤ start_of p reads (length reads)) where
  abbrev R : List ℕ
  R = over_the_line_by_lengths g p cycles reads wave choices

  abbrev tw : ℕ → ℕ
  tw = clock_of w1 0 cycles

  abbrev tr : ℕ → ℕ
  tr = clock_of r1 p reads

  pub lengths_line : R ≡ line_by tw tr g wave choices
  unfolding over_the_line_by_lengths
  lengths_line =
      let size : length (smooth g wave) ≡ length wave = length_smooth g wave in
      ap (λ (l : List ℕ). settle l choices)
      (wandering_warp x (smooth g wave) (rw size lasting) (rw size reach))

  module _ (sent : Levels wave) (chosen : Levels choices) where
    pub lengths_levels : Levels R
    lengths_levels = rw lengths_line (line_levels (wandering_clocks x) g wave choices sent chosen)

    pub lengths_reads : Reads tw tr (smooth g wave) R
    lengths_reads = rw lengths_line (line_reads (wandering_clocks x) g wave choices sent chosen)

share_few : (most : ℕ) (starts reads : ℕ → ℕ) (end j : ℕ) (levels : List ℕ)
    → length (share_from most starts reads end j levels) ≤ most
unfolding share_from
share_few zero starts reads end j levels = omega arith
share_few (suc most) starts reads end j levels =
    go (leb (reads (suc j)) end) (share_from most starts reads end (suc j) levels)
    (share_few most starts reads end (suc j) levels)
  where
    go : (ends : Bool) (rest : List ℕ) → length rest ≤ most
        → length (choose ends (common (shared starts reads j 0 levels) ∷ rest) []) ≤ suc most
    go true rest few = omega arith
    go false rest few = omega arith

-- no more reads than lengths of reads
pub few_by_lengths : (g p : ℕ) (cycles reads wave choices : List ℕ)
    → length (over_the_line_by_lengths g p cycles reads wave choices) ≤ length reads
unfolding over_the_line_by_lengths warp_by_lengths
few_by_lengths g p cycles reads wave choices =
    omega (
      arith,
      length_settle (warp_by_lengths p cycles reads (smooth g wave)) choices,
      share_few (length reads) (start_of 0 cycles) (start_of p reads)
          (start_of 0 cycles (length (take (length cycles) (smooth g wave)))) 0 (take (length cycles) (smooth g wave)),
    )

pub equal_lengths_line : EqualLengthsLine
unfolding over_the_line over_the_line_by_lengths
equal_lengths_line g w r p cycles reads wave choices some-r phase enough reach =
    ap (λ (l : List ℕ). settle l choices)
    (equal_lengths_warp w r p cycles reads (smooth g wave) some-r phase (rw (length_smooth g wave) enough)
    (omega (arith, length_settle (warp w r p (smooth g wave)) choices)))

-- as many reads as the wave has time units are enough
pub over_few : (g w r p : ℕ) (wave choices : List ℕ) → 0 < r → p < w
    → length (over_the_line g w r p wave choices) ≤ length wave * w
unfolding over_the_line
over_few g w r p wave choices some-r phase =
    dite (dec_le (length (settle (warp w r p (smooth g wave)) choices)) (length wave * w)) (λ h. h)
    (λ h. absurd
    (omega (
      arith,
      mul-le-mul_left (suc (length wave * w)) some-r,
      rw (length_smooth g wave) at
          (read_ends (even_clocks w r p some-r phase) (smooth g wave) (length wave * w) (more h)),
    )))
  where
    more : (length (settle (warp w r p (smooth g wave)) choices) ≤ length wave * w → ⊥)
        → length wave * w < length (warp_by (cycle_start w) (read_start p r) (smooth g wave))
    more h =
        rw (← warp_by_lem w r p (smooth g wave))
        (omega (arith, length_settle (warp w r p (smooth g wave)) choices))

pub equal_line : (g w r p : ℕ) (wave choices : List ℕ) → 0 < r → p < w
    → over_the_line_by_lengths g p (replicate (suc (length wave)) w) (replicate (length wave * w) r) wave choices
    ≡ over_the_line g w r p wave choices
equal_line g w r p wave choices some-r phase =
    equal_lengths_line g w r p (suc (length wave)) (length wave * w) wave choices some-r phase (omega arith)
    (over_few g w r p wave choices some-r phase)
