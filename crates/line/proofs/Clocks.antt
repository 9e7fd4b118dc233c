-- Two clocks that a wave is warped by: what their starts must satisfy for every law of the line, and that the rules'
-- clocks do.
use Prim.Native.Nat.{ℕ, zero, suc, ◌+◌, ◌-◌, ◌<◌, ◌≤◌}
use native.Mathlib.Nat.{add-zero, add-suc, add-sub_of_le}
use native.Mathlib.Omega.{arith}
use Rattle.line.specs.Warp.{cycle_start, read_start}

-- Cycles start in order, each read takes time, and the first read starts within the first cycle.
pub record Clocks (starts reads : ℕ → ℕ) : Type 0 where
  pub cycles_on : (i : ℕ) → starts i ≤ starts (suc i)
  pub reads_on : (j : ℕ) → reads j < reads (suc j)
  pub begun : starts 0 ≤ reads 0
  pub unended : reads 0 < starts 1

-- what never falls from one to the next never falls
pub in_order : {t : ℕ → ℕ} → ((i : ℕ) → t i ≤ t (suc i)) → (i k : ℕ) → i ≤ k → t i ≤ t k
in_order {t} on i k h = rw (add-sub_of_le h) at (after (k - i))
  where
    after : (n : ℕ) → t i ≤ t (i + n)
    after zero = rw add-zero (omega arith)
    after (suc n) = rw add-suc (omega (arith, after n, on (i + n)))

-- n reads take n units of time at least
pub reads_take : {reads : ℕ → ℕ} → ((j : ℕ) → reads j < reads (suc j)) → (j n : ℕ) → reads j + n ≤ reads (j + n)
reads_take on j zero = simp add-zero (omega arith)
reads_take on j (suc n) = rw (add-suc j n) (omega (arith, reads_take on j n, on (j + n)))

module _ {starts reads : ℕ → ℕ} (clocks : Clocks starts reads) where
  pub cycles_in_order : (i k : ℕ) → i ≤ k → starts i ≤ starts k
  cycles_in_order = in_order clocks.cycles_on

  pub reads_in_order : (j k : ℕ) → j ≤ k → reads j ≤ reads k
  reads_in_order = in_order (λ j. omega (arith, clocks.reads_on j))

-- cycles of w units and reads of r from p on are such clocks
pub even_clocks : (w r p : ℕ) → 0 < r → p < w → Clocks (cycle_start w) (read_start p r)
even_clocks w r p some-r phase = record {
  cycles_on = λ i. omega arith;
  reads_on = λ j. omega arith;
  begun = omega arith;
  unended = omega arith;
}
