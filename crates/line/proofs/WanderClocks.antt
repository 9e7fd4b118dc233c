-- The clocks that lists of lengths make: as far as there are lengths they have the rules' times, and after them they go
-- on.
use Rattle.std.proofs.Common.{sum, ◌≡◌, refl, ⊎_elim, List, ℕ, zero, suc, ◌+◌, ◌<◌, ◌≤◌, zero-add, eq-or-lt_of_le, add-one, arith, length, take, get_or}
use mathlib.Core.Logic.{dite}
use native.Mathlib.Decide.{dec_lt}
use lib.ListN.{get_or-eq_default}
use Rattle.std.proofs.lemmas.List.Sums.{sum_by_more}
use Rattle.measure.proofs.LevelLaws.{get_d_any}
use Rattle.line.specs.Wander.{start_of}
use Rattle.line.specs.Running.{clock_of, Lengths}
use Rattle.line.proofs.Clocks.{Clocks}
use Rattle.line.proofs.ClockBounds.{Clock, within_bounds, span_high, mono}

module _ (past from : ℕ) (lengths : List ℕ) where
  pub clock_first : clock_of past from lengths 0 ≡ from
  unfolding clock_of
  clock_first = refl

  -- a cycle that has a length takes it
  pub clock_next : (i : ℕ) → i < length lengths
      → clock_of past from lengths (suc i) ≡ clock_of past from lengths i + get_or lengths i 0
  unfolding clock_of
  clock_next i here = rw (get_d_any lengths i past 0 here)

  -- as far as there are lengths the times are the rules'
  pub clock_start : (i : ℕ) → i ≤ length lengths → start_of from lengths i ≡ clock_of past from lengths i
  unfolding start_of clock_of
  clock_start zero within = refl
  clock_start (suc i) within = rw (clock_start i (omega arith), get_d_any lengths i past 0 within)

  -- where all lengths keep to bounds, and those that follow too, so does the clock
  pub clock_bounds : (lo hi : ℕ) → ((i : ℕ) → i < length lengths → lo ≤ get_or lengths i 0)
      → ((i : ℕ) → i < length lengths → get_or lengths i 0 ≤ hi) → lo ≤ past → past ≤ hi
      → Clock (clock_of past from lengths) lo hi
  unfolding clock_of
  clock_bounds lo hi least most low high = record {
    low = λ i. dite (dec_lt i (length lengths)) (λ h. omega (arith, get_d_any lengths i past 0 h, least i h))
        (λ h. omega (arith, over i (omega arith)));
    high = λ i. dite (dec_lt i (length lengths)) (λ h. omega (arith, get_d_any lengths i past 0 h, most i h))
        (λ h. omega (arith, over i (omega arith)));
  }
    where
      over : (i : ℕ) → length lengths ≤ i → get_or lengths i past ≡ past
      over i h = get_or-eq_default lengths past h

-- when so many cycles are over, they have taken the sum of their lengths
pub clock_sum : (from : ℕ) (lengths : List ℕ) (n : ℕ) → n ≤ length lengths
    → clock_of 1 from lengths n ≡ from + sum (take n lengths)
clock_sum from lengths zero within = omega (arith, clock_first 1 from lengths)
clock_sum from lengths (suc n) within =
    let more = rw (add-one n) at (sum_by_more (λ (x : ℕ). x) lengths n 0 within) in
    omega (arith, clock_next 1 from lengths n within, clock_sum from lengths n (omega arith), more)

-- the clock of a judged list: no time of it is more than the code's numbers hold
module _ {lengths : List ℕ} (judged : Lengths lengths) (from : ℕ) where
  pub ticks : Clock (clock_of 1 from lengths) 1 65535
  ticks = clock_bounds 1 from lengths 1 65535 judged.least judged.most (omega arith) (omega arith)

  pub time_most : (i : ℕ) → i ≤ length lengths → clock_of 1 from lengths i ≤ from + 68718428160
  time_most i within =
      omega (
        arith,
        judged.few,
        clock_first 1 from lengths,
        rw zero-add at (span_high ticks 0 i),
      )

  -- a cycle that has a length is over that much later, and that fits
  module _ (i t : ℕ) (here : i < length lengths) (at : clock_of 1 from lengths i ≡ t) where
    pub next_end : clock_of 1 from lengths (suc i) ≡ t + get_or lengths i 0
    next_end = rw (clock_next 1 from lengths i here, at)

    pub next_time : clock_of 1 from lengths (i + 1) ≡ t + get_or lengths i 0
    next_time = rw (add-one i) next_end

    pub next_most : t + get_or lengths i 0 ≤ from + 68718428160
    next_most = omega (arith, next_time, time_most (i + 1) (omega arith))

  -- a cycle that starts before a time by which the first n are over is one of them
  pub among : (n k t : ℕ) → clock_of 1 from lengths k < t → t ≤ clock_of 1 from lengths n → k < n
  among n k t begun ends =
      dite (dec_lt k n) (λ h. h) (λ h. absurd (omega (arith, mono ticks n k (omega arith))))

-- one read more ends by a time
pub end_one : (reads : ℕ → ℕ) (end j t : ℕ) → ((k : ℕ) → k < j → reads (suc k) ≤ end) → reads (j + 1) ≡ t → t ≤ end
    → (k : ℕ) → k < j + 1 → reads (suc k) ≤ end
end_one reads end j t ends at by k before =
    ⊎_elim (λ (same : k ≡ j). rw (same, ← add-one j) (omega arith)) (λ less. ends k less)
    (eq-or-lt_of_le (le_of_before before))
  where
    le_of_before : k < j + 1 → k ≤ j
    le_of_before h = omega arith

-- two judged lists make clocks that keep every law of the line
pub clocks_of : {cycles reads : List ℕ} → Lengths cycles → Lengths reads → (p : ℕ) → p < clock_of 1 0 cycles 1
    → Clocks (clock_of 1 0 cycles) (clock_of 1 p reads)
clocks_of {cycles} {reads} written read p below =
    within_bounds (ticks written 0) (ticks read p) (omega arith)
    (omega (arith, clock_first 1 0 cycles)) (omega (arith, clock_first 1 p reads))
