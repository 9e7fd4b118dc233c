-- Lists of lengths that reach a wave's end make clocks that keep to the ends for good, and steady clocks within the
-- ends are given by such lists.
use mathlib.Core.Path.{◌≡◌}
use mathlib.Core.Bool.{true}
use mathlib.Core.List.{List, [], ◌∷◌}
use Prim.Native.Nat.{ℕ, suc, ◌*◌, ◌≤◌, ◌<◌}
use native.Mathlib.Nat.{mul-le-mul_left}
use native.Mathlib.Omega.{arith}
use lib.ListN.{length, get_or, length-replicate}
use borrow.Author.Tests.{lt-ltb}
use Rattle.settings.specs.Margins.{Ends, steady}
use Rattle.line.specs.Wander.{start_of}
use Rattle.line.specs.Answers.{phase_fits}
use Rattle.line.proofs.ClockBounds.{mono}
use Rattle.line.proofs.WanderClocks.{clock_start}
use Rattle.line.proofs.LengthsFit.{between_at, between_equal}
use Rattle.line.proofs.WanderReads.{even_starts}
use Rattle.line.proofs.WanderBounds.{Wandering, writer, reader}
use Rattle.line.proofs.WanderLine.{equal_line}
use Rattle.promises.specs.Reaching.{Reaching, WithinEnds, equal_cycles, equal_reads}
use Rattle.promises.specs.Reaching.{SteadyByLengths}

module _ {e : Ends} {p : ℕ} {cycles reads wave : List ℕ} (x : Reaching e p cycles reads wave) where
  some_cycles : 0 < length cycles
  some_cycles = go cycles x.phase
    where
      go : (cycles : List ℕ) → p < get_or cycles 0 0 → 0 < length cycles
      go [] phase = absurd (omega arith)
      go (first ∷ cycles) phase = omega arith

  -- a cycle takes time
  pub cycle_takes : 0 < e.w2
  cycle_takes = omega (arith, x.phase, between_at e.w1 e.w2 cycles x.written 0 some_cycles)

  fits : phase_fits p cycles ≡ true
  fits = go cycles x.phase
    where
      go : (cycles : List ℕ) → p < get_or cycles 0 0 → phase_fits p cycles ≡ true
      go [] phase = absurd (omega arith)
      go (first ∷ cycles) phase = lt-ltb p first phase

  pub wandering : 0 < e.r1 → Wandering e.w1 e.w2 e.r1 e.r2 p cycles reads
  wandering takes = record {
    written = x.written;
    read = x.read;
    w_order = x.w_order;
    r_order = x.r_order;
    r_some = takes;
    some = some_cycles;
    phase = fits;
  }

  -- times rise as far as there are lengths
  module _ (takes : 0 < e.r1) (i k : ℕ) (order : i ≤ k) where
    pub starts_rise : k ≤ length cycles → start_of 0 cycles i ≤ start_of 0 cycles k
    starts_rise within =
        omega (
          arith,
          clock_start e.w1 0 cycles i (omega arith),
          clock_start e.w1 0 cycles k within,
          mono (writer (wandering takes)) i k order,
        )

    pub begins_rise : k ≤ length reads → start_of p reads i ≤ start_of p reads k
    begins_rise within =
        omega (
          arith,
          clock_start e.r1 p reads i (omega arith),
          clock_start e.r1 p reads k within,
          mono (reader (wandering takes)) i k order,
        )

-- steady clocks within the ends
module _ (e : Ends) (w r p : ℕ) (wave : List ℕ) (w-low : e.w1 ≤ w) (w-high : w ≤ e.w2) (r-low : e.r1 ≤ r)
    (r-high : r ≤ e.r2) (takes : 0 < r) (below : p < w) where
  abbrev cycles : List ℕ
  cycles = equal_cycles w wave

  abbrev reads : List ℕ
  reads = equal_reads w r wave

  equal_reach : Reaching e p cycles reads wave
  equal_reach = record {
    w_order = omega arith;
    r_order = omega arith;
    written = between_equal e.w1 e.w2 w (suc (length wave)) w-low w-high;
    read = between_equal e.r1 e.r2 r (length wave * w) r-low r-high;
    phase = below;
    lasting = rw length-replicate (omega arith);
    reach =
        rw length-replicate
        (omega (
          arith,
          even_starts 0 (suc (length wave)) w (length wave) (omega arith),
          even_starts p (length wave * w) r (length wave * w) (omega arith),
          mul-le-mul_left (length wave * w) takes,
        ));
  }

pub within_steady : (w r : ℕ) → WithinEnds (steady w r) w r
within_steady w r =
    record { w_least = omega arith; w_most = omega arith; r_least = omega arith; r_most = omega arith }

pub steady_by_lengths : SteadyByLengths
steady_by_lengths e w r p wave within takes below = record {
  fits =
      equal_reach e w r p wave within.w_least within.w_most within.r_least within.r_most takes below;
  same_reads = λ g choices. equal_line g w r p wave choices takes below;
}
