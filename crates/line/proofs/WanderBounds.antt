-- Lists of lengths that keep to bounds and reach the wave's end: the wave is warped by two clocks that keep to the same
-- bounds, so whatever holds of such clocks holds of warp by lengths.
use mathlib.Core.Path.{◌≡◌, ◌∙◌}
use mathlib.Core.Logic.{dite}
use mathlib.Core.Bool.{true}
use mathlib.Core.List.{List, [], ◌∷◌}
use Prim.Native.Nat.{ℕ, ◌<◌, ◌≤◌}
use native.Mathlib.Decide.{dec_le}
use native.Mathlib.Omega.{arith}
use lib.ListN.{length, take}
use lib.Seq.{take_all}
use borrow.Author.Tests.{ltb-true}
use Rattle.line.specs.Warp.{warp_by}
use Rattle.line.specs.Wander.{start_of, warp_by_lengths}
use Rattle.line.specs.Answers.{all_between, phase_fits}
use Rattle.line.specs.Running.{clock_of}
use Rattle.line.proofs.Clocks.{Clocks}
use Rattle.line.proofs.ClockBounds.{Clock, within_bounds}
use Rattle.line.proofs.ReadsThere.{read_ends}
use Rattle.line.proofs.WanderLaws.{lengths_by}
use Rattle.line.proofs.WanderClocks.{clock_first, clock_next, clock_start, clock_bounds}
use Rattle.line.proofs.LengthsFit.{between_at}

-- lengths from w1 to w2 and from r1 to r2, the phase below the first writer cycle's
pub record Wandering (w1 w2 r1 r2 p : ℕ) (cycles reads : List ℕ) : Type 0 where
  pub written : all_between w1 w2 cycles ≡ true
  pub read : all_between r1 r2 reads ≡ true
  pub w_order : w1 ≤ w2
  pub r_order : r1 ≤ r2
  pub r_some : 0 < r1
  pub some : 0 < length cycles
  pub phase : phase_fits p cycles ≡ true

module _ {w1 w2 r1 r2 p : ℕ} {cycles reads : List ℕ} (x : Wandering w1 w2 r1 r2 p cycles reads) where
  pub writer : Clock (clock_of w1 0 cycles) w1 w2
  writer =
      clock_bounds w1 0 cycles w1 w2 (λ i h. (between_at w1 w2 cycles x.written i h).0)
      (λ i h. (between_at w1 w2 cycles x.written i h).1) (omega arith) x.w_order

  pub reader : Clock (clock_of r1 p reads) r1 r2
  reader =
      clock_bounds r1 p reads r1 r2 (λ i h. (between_at r1 r2 reads x.read i h).0)
      (λ i h. (between_at r1 r2 reads x.read i h).1) (omega arith) x.r_order

  below : (cycles : List ℕ) → 0 < length cycles → phase_fits p cycles ≡ true → p < clock_of w1 0 cycles 1
  below [] some phase = absurd (omega arith)
  below (first ∷ cycles) some phase =
      omega (
        arith,
        ltb-true p first phase,
        clock_first w1 0 (first ∷ cycles),
        clock_next w1 0 (first ∷ cycles) 0 (omega arith),
      )

  pub wandering_clocks : Clocks (clock_of w1 0 cycles) (clock_of r1 p reads)
  wandering_clocks =
      within_bounds writer reader x.r_some (omega (arith, clock_first w1 0 cycles))
      (omega (arith, clock_first r1 p reads, below cycles x.some x.phase))

  -- a length for each cycle, and reads up to the wave's end
  pub wandering_warp : (levels : List ℕ) → length levels ≤ length cycles
      → start_of 0 cycles (length levels) ≤ start_of p reads (length reads)
      → warp_by_lengths p cycles reads levels ≡ warp_by (clock_of w1 0 cycles) (clock_of r1 p reads) levels
  wandering_warp levels lasting reach =
      lengths_by wandering_clocks p cycles reads levels
      (λ i h. clock_start w1 0 cycles i (omega (arith, rw all at h))) (λ j h. clock_start r1 p reads j h)
      ∙ rw all (take_all (length reads) (warp_by (clock_of w1 0 cycles) (clock_of r1 p reads) levels) few)
    where
      all : take (length cycles) levels ≡ levels
      all = take_all (length cycles) levels lasting

      few : length (warp_by (clock_of w1 0 cycles) (clock_of r1 p reads) levels) ≤ length reads
      few =
          dite (dec_le (length (warp_by (clock_of w1 0 cycles) (clock_of r1 p reads) levels)) (length reads)) (λ h. h)
          (λ h. absurd
          (omega (
            arith,
            x.r_some,
            reader.low (length reads),
            read_ends wandering_clocks levels (length reads) (omega arith),
            clock_start w1 0 cycles (length levels) lasting,
            clock_start r1 p reads (length reads) (omega arith),
          )))
