-- A clock whose cycles are each from lo to hi long: n cycles take from n times lo to n times hi, so order and distance
-- of times follow from order and distance of cycles.
use mathlib.Core.Path.{◌≡◌, subst, sym, ap, ◌∙◌}
use Prim.Native.Nat.{ℕ, zero, suc, ◌+◌, ◌*◌, ◌-◌, ◌≤◌, ◌<◌}
use native.Mathlib.Nat.{add-zero, add-suc, add-mul, sub-add_cancel}
use native.Mathlib.Decide.{dec_le}
use native.Mathlib.Omega.{arith}
use Rattle.line.specs.Warp.{cycle_start, read_start}
use Rattle.line.proofs.Clocks.{Clocks, in_order}

pub record Clock (t : ℕ → ℕ) (lo hi : ℕ) : Type 0 where
  pub low : (i : ℕ) → t i + lo ≤ t (suc i)
  pub high : (i : ℕ) → t (suc i) ≤ t i + hi

module _ {t : ℕ → ℕ} {lo hi : ℕ} (clk : Clock t lo hi) where
  -- n cycles take from n * lo to n * hi
  pub span_low : (i n : ℕ) → t i + n * lo ≤ t (i + n)
  span_low i zero = rw add-zero (omega arith)
  span_low i (suc n) = rw add-suc (omega (arith, span_low i n, clk.low (i + n)))

  pub span_high : (i n : ℕ) → t (i + n) ≤ t i + n * hi
  span_high i zero = rw add-zero (omega arith)
  span_high i (suc n) = rw add-suc (omega (arith, span_high i n, clk.high (i + n)))

  -- the same between two cycles of a stretch, with no difference written
  pub reach_low : (i m n : ℕ) → m ≤ n → t (i + m) + n * lo ≤ t (i + n) + m * lo
  reach_low i m n h = omega (arith, far, mul)
    where
      far : t (i + m) + (n - m) * lo ≤ t (i + n)
      far = subst (λ (x : ℕ). t (i + m) + (n - m) * lo ≤ t x) (eq i m n h) (span_low (i + m) (n - m))
        where
          eq : (i m n : ℕ) → m ≤ n → i + m + (n - m) ≡ i + n
          eq i m n h = omega arith

      mul : (n - m) * lo + m * lo ≡ n * lo
      mul = sym (add-mul (n - m) m lo) ∙ ap (λ (x : ℕ). x * lo) (sub-add_cancel h)

  pub mono : (i j : ℕ) → i ≤ j → t i ≤ t j
  mono = in_order (λ i. omega (arith, clk.low i))

-- the cycle in which a time lies, among d cycles from lo on
pub cycle_of : (t : ℕ → ℕ) (x d lo : ℕ) → t lo ≤ x → x < t (lo + d)
    → (c : ℕ) × (lo ≤ c) × (c < lo + d) × (t c ≤ x) × (x < t (suc c))
cycle_of t x zero lo p q = absurd (omega (arith, rw add-zero at q))
cycle_of t x (suc d) lo p q = go (dec_le (t (lo + d)) x) (cycle_of t x d lo p)
  where
    go : Dec (t (lo + d) ≤ x) → (x < t (lo + d) → (c : ℕ) × (lo ≤ c) × (c < lo + d) × (t c ≤ x) × (x < t (suc c)))
        → (c : ℕ) × (lo ≤ c) × (c < lo + suc d) × (t c ≤ x) × (x < t (suc c))
    go (yes y) more = (lo + d, omega arith, omega arith, y, rw add-suc at q)
    go (no y) more = let (c, a, b, e, f) = more (omega arith) in (c, a, omega arith, e, f)

-- two clocks within bounds, the phase below the first writer cycle, keep every law of the line
pub within_bounds : {tw tr : ℕ → ℕ} {w1 w2 r1 r2 : ℕ} → Clock tw w1 w2 → Clock tr r1 r2 → 0 < r1 → tw 0 ≤ tr 0
    → tr 0 < tw 1 → Clocks tw tr
within_bounds wclk rclk pos phase below = record {
  cycles_on = λ i. omega (arith, wclk.low i);
  reads_on = λ j. omega (arith, rclk.low j);
  begun = phase;
  unended = below;
}

-- the rules' two clocks
pub cycle_clock : (w : ℕ) → Clock (cycle_start w) w w
cycle_clock w = record { low = λ i. omega arith; high = λ i. omega arith }

pub read_clock : (p r : ℕ) → Clock (read_start p r) r r
read_clock p r = record { low = λ i. omega arith; high = λ i. omega arith }

-- a clock of constant length within the bounds
pub wider : {t : ℕ → ℕ} (lo hi x : ℕ) → lo ≤ x → x ≤ hi → Clock t x x → Clock t lo hi
wider lo hi x p q c = record { low = λ i. omega (arith, c.low i); high = λ i. omega (arith, c.high i) }
