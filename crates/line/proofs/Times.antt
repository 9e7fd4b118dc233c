-- Times that pass the test of their ranges are in them: each part of a conjunction that holds does.
use mathlib.Core.Path.{◌≡◌}
use mathlib.Core.Bool.{true}
use Prim.Native.Nat.{ℕ, ◌*◌, ◌<◌, ◌≤◌}
use native.Mathlib.Nat.{mul-le-mul, lt_of_mul-lt-mul_right}
use native.Mathlib.Omega.{arith}
use borrow.Author.Tests.{ltb-true, leb-true}
use lib.Dec.{leb, ltb}
use Rattle.measure.specs.Ranges.{cycle_length, entries_most}
use Rattle.measure.proofs.Both.{both, both_3}
use Rattle.line.specs.Answers.{timed}

module _ (x : ℕ) (fits : cycle_length x ≡ true) where
  pub cycle_least : 1 ≤ x
  cycle_least = leb-true 1 x (both (leb 1 x) (leb x 65535) fits).0

  pub cycle_most : x ≤ 65535
  cycle_most = leb-true x 65535 (both (leb 1 x) (leb x 65535) fits).1

module _ (w r p : ℕ) (fits : timed w r p ≡ true) where
  parts : (cycle_length w ≡ true) × (cycle_length r ≡ true) × (ltb p w ≡ true)
  parts = both_3 (cycle_length w) (cycle_length r) (ltb p w) fits

  pub timed_w : cycle_length w ≡ true
  timed_w = parts.0

  pub timed_r : cycle_length r ≡ true
  timed_r = parts.1

  pub timed_p : p < w
  timed_p = ltb-true p w parts.2

-- so many cycles of a length in range take a time that fits a number of the code
pub product_most : (n w : ℕ) → n ≤ 2 * entries_most → cycle_length w ≡ true → n * w ≤ 137436856320
product_most n w few fits = mul-le-mul few (cycle_most w fits)

-- a cycle that starts before a time by which the wave ends is one of the wave's
pub in_wave : (w n k t : ℕ) → k * w < t → t ≤ n * w → k < n
in_wave w n k t begun ends = lt_of_mul-lt-mul_right w (omega arith)
