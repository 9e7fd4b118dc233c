-- One cycle of a read's look and of what it drops: the test on the cycle's end picks the case of the definition.
use mathlib.Core.Path.{◌≡◌}
use mathlib.Core.List.{List}
use Prim.Native.Nat.{ℕ, suc, ◌<◌, ◌≤◌}
use lib.ListN.{length, drop, get_or, drop_of_length-le}
use lib.Seq.{drop-cons}
use borrow.Author.Tests.{lt-ltb, le-ltb, le-leb, lt-leb}
use Rattle.line.specs.Warp.{reconcile, look, dropped}

-- a read that ends at t, the cycles, and a place among them
module _ (starts : ℕ → ℕ) (t : ℕ) (levels : List ℕ) (i : ℕ) where
  -- a cycle that ends before the read does is reconciled with the rest
  pub look_more : (d : ℕ) → i < length levels → starts (suc i) < t
      → look starts t i (drop i levels) ≡ reconcile (get_or levels i d) (look starts t (suc i) (drop (suc i) levels))
  unfolding look
  look_more d here ends = rw (drop-cons levels i d here, lt-ltb (starts (suc i)) t ends)

  -- another is the last one looked at
  pub look_last : (d : ℕ) → i < length levels → t ≤ starts (suc i) → look starts t i (drop i levels) ≡ get_or levels i d
  unfolding look
  look_last d here ends = rw (drop-cons levels i d here, le-ltb (starts (suc i)) t ends)

  -- a cycle that ends at or before the read's end is dropped
  pub dropped_more : i < length levels → starts (suc i) ≤ t
      → dropped starts t i (drop i levels) ≡ suc (dropped starts t (suc i) (drop (suc i) levels))
  unfolding dropped
  dropped_more here ends = rw (drop-cons levels i 2 here, le-leb (starts (suc i)) t ends)

  -- another is the first one left
  pub dropped_none : i < length levels → t < starts (suc i) → dropped starts t i (drop i levels) ≡ 0
  unfolding dropped
  dropped_none here ends = rw (drop-cons levels i 2 here, lt-leb (starts (suc i)) t ends)

  pub dropped_end : length levels ≤ i → dropped starts t i (drop i levels) ≡ 0
  unfolding dropped
  dropped_end end = rw (drop_of_length-le levels end)
