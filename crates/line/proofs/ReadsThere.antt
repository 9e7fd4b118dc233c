-- Which reads there are, and what each one is: the list of reads goes on just as long as the next one ends by the end
-- of the last cycle.
use mathlib.Core.Path.{◌≡◌, refl}
use mathlib.Core.Logic.{dite}
use mathlib.Core.List.{List, [], ◌∷◌}
use Prim.Native.Nat.{ℕ, zero, suc, ◌+◌, ◌<◌, ◌≤◌, suc-le-suc}
use native.Mathlib.Nat.{add-zero, zero-add, add-suc, suc-add}
use native.Mathlib.Decide.{dec_le}
use native.Mathlib.Omega.{arith}
use lib.ListN.{length, drop, get_or}
use lib.Seq.{drop-drop}
use borrow.Author.Tests.{le-leb, lt-leb}
use Rattle.measure.specs.Levels.{AtMost}
use Rattle.measure.proofs.LevelLaws.{get_d_any, most_by_places, most_drop}
use Rattle.line.specs.Warp.{look, dropped, warp_from, warp_by}
use Rattle.line.specs.Sharing.{first_left}
use Rattle.line.proofs.Clocks.{Clocks, reads_in_order, reads_take}
use Rattle.line.proofs.LookLaws.{look_most}

-- the reads from read j on, at most so many, where the last cycle ends at `end`
abbrev pub reads_from : (starts reads : ℕ → ℕ) (levels : List ℕ) (end most j : ℕ) → List ℕ
reads_from starts reads levels end most j =
    warp_from most starts reads end j (first_left starts reads levels j) (drop (first_left starts reads levels j) levels)

-- what read j is, by the definition
abbrev pub read_at : (starts reads : ℕ → ℕ) (levels : List ℕ) (j : ℕ) → ℕ
read_at starts reads levels j =
    look starts (reads (suc j)) (first_left starts reads levels j) (drop (first_left starts reads levels j) levels)

module _ (starts reads : ℕ → ℕ) (levels : List ℕ) (end : ℕ) where
  -- a read that ends in time is there, and the others follow it
  pub reads_more : (most j : ℕ) → reads (suc j) ≤ end
      → reads_from starts reads levels end (suc most) j
      ≡ read_at starts reads levels j ∷ reads_from starts reads levels end most (suc j)
  unfolding warp_from first_left
  reads_more most j ends =
      rw (
        le-leb (reads (suc j)) end ends,
        drop-drop
            (dropped starts (reads (suc j)) (first_left starts reads levels j)
            (drop (first_left starts reads levels j) levels))
            (first_left starts reads levels j) levels,
      )

  -- with the first that does not, there are no more
  pub reads_over : (most j : ℕ) → end < reads (suc j) → reads_from starts reads levels end most j ≡ []
  unfolding warp_from
  reads_over zero j late = refl
  reads_over (suc most) j late = rw (lt-leb (reads (suc j)) end late)

  none : (j q : ℕ) → q < length (reads_from starts reads levels end zero j) → ⊥
  unfolding warp_from
  none j q h = omega arith

  -- where there is any read, the first of them ends in time
  first_ends : (most j q : ℕ) → q < length (reads_from starts reads levels end most j) → reads (suc j) ≤ end
  first_ends most j q h =
      dite (dec_le (reads (suc j)) end) (λ ends. ends)
      (λ late. absurd (omega (arith, rw (reads_over most j (omega arith)) at h)))

  -- each read that is there ends in time
  pub from_ends : (most j q : ℕ) → q < length (reads_from starts reads levels end most j) → reads (suc (j + q)) ≤ end
  from_ends zero j q h = absurd (none j q h)
  from_ends (suc most) j zero h = rw add-zero (first_ends (suc most) j zero h)
  from_ends (suc most) j (suc q) h =
      rw (add-suc, ← suc-add)
      (from_ends most (suc j) q (omega (arith, rw (reads_more most j (first_ends (suc most) j (suc q) h)) at h)))

  -- and is what its look says
  pub from_is : (most j q : ℕ) → q < length (reads_from starts reads levels end most j)
      → get_or (reads_from starts reads levels end most j) q 2 ≡ read_at starts reads levels (j + q)
  from_is zero j q h = absurd (none j q h)
  from_is (suc most) j zero h = rw (reads_more most j (first_ends (suc most) j zero h), add-zero)
  from_is (suc most) j (suc q) h =
      let ends = first_ends (suc most) j (suc q) h in
      rw (reads_more most j ends, add-suc, ← suc-add)
      (from_is most (suc j) q (omega (arith, rw (reads_more most j ends) at h)))

  -- each read that ends in time is there, unless there may be no more
  pub from_there : ((j k : ℕ) → j ≤ k → reads j ≤ reads k) → (most j q : ℕ) → q < most → reads (suc (j + q)) ≤ end
      → q < length (reads_from starts reads levels end most j)
  from_there order zero j q few ends = absurd (omega arith)
  from_there order (suc most) j zero few ends = rw (reads_more most j (rw add-zero at ends)) (omega arith)
  from_there order (suc most) j (suc q) few ends =
      rw (reads_more most j (omega (arith, order (suc j) (suc (j + suc q)) (omega arith))))
      (suc-le-suc (from_there order most (suc j) q (omega arith) (rw (add-suc, ← suc-add) at ends)))

module _ {starts reads : ℕ → ℕ} (clocks : Clocks starts reads) (levels : List ℕ) where
  -- a read that ends by the end of the last cycle is there
  pub read_there : (j : ℕ) → reads (suc j) ≤ starts (length levels) → j < length (warp_by starts reads levels)
  unfolding first_left
  read_there j ends =
      from_there starts reads levels (starts (length levels)) (reads_in_order clocks) (starts (length levels)) 0 j
      (omega (arith, rw zero-add at (reads_take clocks.reads_on 0 (suc j)))) (rw zero-add ends)

  -- every read that is there ends by it
  pub read_ends : (j : ℕ) → j < length (warp_by starts reads levels) → reads (suc j) ≤ starts (length levels)
  unfolding first_left
  read_ends j h = rw zero-add at (from_ends starts reads levels (starts (length levels)) (starts (length levels)) 0 j h)

  -- a read that is there is what its look says
  pub read_looks : (j : ℕ) → j < length (warp_by starts reads levels)
      → get_or (warp_by starts reads levels) j 2 ≡ read_at starts reads levels j
  unfolding first_left
  read_looks j h = rw zero-add at (from_is starts reads levels (starts (length levels)) (starts (length levels)) 0 j h)

  -- no read is more than unknown
  pub reads_most : AtMost 2 levels → AtMost 2 (warp_by starts reads levels)
  reads_most all =
      most_by_places 2 (warp_by starts reads levels) λ j h. rw
      (get_d_any (warp_by starts reads levels) j 0 2 h, read_looks j h)
      (look_most starts (reads (suc j)) (first_left starts reads levels j)
      (drop (first_left starts reads levels j) levels)
      (most_drop 2 (first_left starts reads levels j) levels all))
