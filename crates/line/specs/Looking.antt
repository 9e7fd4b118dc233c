-- A read of warp, cycle by cycle. The private functions promise each other what stands here; no public promise cites
-- it.
use Rattle.std.specs.Prelude.{ℕ, suc, ◌+◌, ◌*◌, ◌<◌, ◌≤◌, ◌≡◌, List, length, drop, ltb}
use Rattle.measure.specs.Choose.{choose}
use Rattle.line.specs.Warp.{cycle_start, reconcile, look, dropped}
use Rattle.line.specs.declared.steady.Looking.{Looking}
use Rattle.line.specs.declared.steady.Looked.{Looked}

-- A read that ends at t is to be `read` and to leave cycle `left`. It has found `level` in the cycles before `next`.
pub record UnderWay (starts : ℕ → ℕ) (t : ℕ) (levels : List ℕ) (read left level next : ℕ) : Type 0 where
  -- as long as the next cycle starts before the read's end, it is to be reconciled with what is found
  pub more : starts next < t → read ≡ reconcile level (look starts t next (drop next levels))
  pub done : t ≤ starts next → read ≡ level
  -- the cycles looked at are dropped, but for a last one that ends after the read
  pub gone : starts next ≤ t → left ≡ next + dropped starts t next (drop next levels)
  pub kept : t < starts next → suc left ≡ next

-- the read itself, where it has found `level` in the cycles before cycle i and goes on with that one
abbrev pub read_from : (w t : ℕ) → List ℕ → (level i : ℕ) → ℕ
read_from w t levels level i = reconcile level (look (cycle_start w) t i (drop i levels))

-- the first cycle that it leaves
abbrev pub left_from : (w t : ℕ) → List ℕ → (i : ℕ) → ℕ
left_from w t levels i = i + dropped (cycle_start w) t i (drop i levels)

-- the code's BLOCK: so many cycles are looked at for each call
abbrev pub block_most : ℕ
block_most = 64

-- the start that is carried along is that of the next cycle
abbrev pub CarriesStart : (w : ℕ) → Looking → Type 0
CarriesStart w looking = looking.next.0 * w ≡ looking.start.0

-- the end that is carried on is that of the cycle left
abbrev pub CarriesEnd : (w : ℕ) → Looked → Type 0
CarriesEnd w x = (x.left.0 + 1) * w ≡ x.end.0

-- the read goes on with the next cycle, and it ends by the wave's end
abbrev pub GoesOn : (w t : ℕ) → List ℕ → Looking → Type 0
GoesOn w t levels looking = CarriesStart w looking × (looking.start.0 < t) × (t ≤ length levels * w)

-- it is the same read after some cycles more
abbrev pub Onward : (w t : ℕ) → List ℕ → Looking → Looking → Type 0
Onward w t levels before after =
    UnderWay (cycle_start w) t levels (read_from w t levels before.level before.next.0)
    (left_from w t levels before.next.0) after.level after.next.0
    × (before.next.0 < after.next.0) × (after.next.0 ≤ length levels) × CarriesStart w after

-- a read that ends by the end of the last cycle looked at, and the cycle that it leaves: that one, if it ends later
abbrev pub Ends : (w t : ℕ) → Looking → Looked → Type 0
Ends w t looking x =
    (t ≤ looking.start.0) × (looking.level ≡ x.level)
    × (choose (ltb t looking.start.0) (x.left.0 + 1) x.left.0 ≡ looking.next.0) × CarriesEnd w x

-- what is found is the read and the cycle that it leaves
abbrev pub Finds : (w read left : ℕ) → Looked → Type 0
Finds w read left x = (read ≡ x.level) × (left ≡ x.left.0) × CarriesEnd w x
