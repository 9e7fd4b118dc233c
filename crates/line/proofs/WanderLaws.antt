-- Warp told by the cycles that share time with a read is warp told cycle after cycle: what all shared cycles have,
-- else unknown, is what the read looks at, and both end with the wave. So the laws of any two clocks hold of warp by
-- lengths.
use mathlib.Core.Path.{◌≡◌, refl, sym, subst, ◌∙◌}
use mathlib.Core.Logic.{dite}
use mathlib.Core.Bool.{Bool, true, false}
use mathlib.Core.List.{List, [], ◌∷◌}
use Prim.Native.Nat.{ℕ, zero, suc, ◌+◌, ◌-◌, ◌<◌, ◌≤◌}
use native.Mathlib.Nat.{zero-add, add-zero, add-suc, suc-add, sub-zero}
use native.Mathlib.Decide.{ℕ_discrete, dec_le}
use native.Mathlib.Omega.{arith}
use lib.Dec.{T, eqb, ltb}
use lib.ListN.{length, get_or, take}
use borrow.Author.Tests.{lt-ltb, le-leb, lt-leb, ltb-true, eq-eqb, eqb-true}
use Rattle.measure.proofs.Both.{both}
use Rattle.line.specs.Warp.{warp_by}
use Rattle.line.specs.Sharing.{Shares, ReadIs, first_left}
use Rattle.line.specs.Wander.{start_of, share, shared, all_are, common, share_from, share_by, warp_by_lengths}
use Rattle.line.proofs.Clocks.{Clocks, reads_take}
use Rattle.line.proofs.ReadsThere.{reads_from, read_at, reads_more, reads_over}
use Rattle.line.proofs.SharedCycles.{look_is}

either : {P : Type 0} (test : Bool) → (test ≡ true → P) → (test ≡ false → P) → P
either true holds fails = holds refl
either false holds fails = fails refl

module _ (starts reads : ℕ → ℕ) (j : ℕ) where
  -- the test says that time is shared
  test_shares : (i : ℕ) → share starts reads j i ≡ true → Shares starts reads j i
  test_shares i e =
      let (before, after) = both (ltb (starts i) (reads (suc j))) (ltb (reads j) (starts (suc i))) e in
      record { before_the_end = ltb-true _ _ before; after_the_start = ltb-true _ _ after }

  shares_test : (i : ℕ) → Shares starts reads j i → share starts reads j i ≡ true
  shares_test i shares =
      simp (
        lt-ltb (starts i) (reads (suc j)) shares.before_the_end,
        lt-ltb (reads j) (starts (suc i)) shares.after_the_start,
      )

  -- each cycle from cycle i on that shares time with the read has level v
  abbrev All : (i v : ℕ) → List ℕ → Type 0
  All i v levels = (k : ℕ) → k < length levels → Shares starts reads j (i + k) → get_or levels k 2 ≡ v

  later : (i v level : ℕ) (levels : List ℕ) → All i v (level ∷ levels) → All (suc i) v levels
  later i v level levels all k within shares = all (suc k) (omega arith) (rw (add-suc, ← suc-add) shares)

  -- where they have, all those in the list of the shared ones are v
  all_are_lem : (levels : List ℕ) (i v : ℕ) → All i v levels → all_are v (shared starts reads j i levels) ≡ true
  unfolding shared all_are
  all_are_lem [] i v all = refl
  all_are_lem (level ∷ levels) i v all =
      let rest = all_are_lem levels (suc i) v (later i v level levels all) in
      either (share starts reads j i)
      (λ e.
      let here : level ≡ v = all 0 (omega arith) (rw add-zero (test_shares i e)) in
      rw (e, eq-eqb level v here) rest)
      (λ e. rw e rest)

  are_all : (levels : List ℕ) (i v : ℕ) → all_are v (shared starts reads j i levels) ≡ true → All i v levels
  unfolding shared all_are
  are_all [] i v are k within shares = absurd (omega arith)
  are_all (level ∷ levels) i v are zero within shares =
      let parts =
      both (eqb level v) (all_are v (shared starts reads j (suc i) levels))
      (rw (shares_test i (rw add-zero at shares)) at are) in
      eqb-true level v parts.0
  are_all (level ∷ levels) i v are (suc k) within shares =
      either (share starts reads j i)
      (λ e.
      are_all levels (suc i) v
      (both (eqb level v) (all_are v (shared starts reads j (suc i) levels)) (rw e at are)).1 k (omega arith)
      (rw (add-suc, ← suc-add) at shares))
      (λ e. are_all levels (suc i) v (rw e at are) k (omega arith) (rw (add-suc, ← suc-add) at shares))

  -- what is read j by its looks is what the shared cycles have in common
  common_is : (levels : List ℕ) (v : ℕ) → ReadIs starts reads levels j v → common (shared starts reads j 0 levels) ≡ v
  unfolding all_are
  common_is levels v is = go (shared starts reads j 0 levels) (all_are_lem levels 0) (are_all levels 0)
    where
      at : (x : ℕ) → All 0 x levels → v ≡ x
      at x all = is.same x (λ i within shares. all i within (rw zero-add shares))

      go : (l : List ℕ) → ((x : ℕ) → All 0 x levels → all_are x l ≡ true)
          → ((x : ℕ) → all_are x l ≡ true → All 0 x levels) → common l ≡ v
      go [] there back = absurd (omega (arith, at 0 (back 0 refl), at 1 (back 1 refl)))
      go (x ∷ xs) there back =
          either (all_are x xs)
          (λ e. rw e (sym (at x (back x (rw (eq-eqb x x refl) e)))))
          (λ e. rw e
          (dite (ℕ_discrete v 2) (λ unknown. sym unknown)
          (λ known.
          let parts =
          both (eqb x v) (all_are v xs)
          (there v (λ i within shares. is.known known i within (rw zero-add at shares))) in
          let same : x ≡ v = eqb-true x v parts.0 in
          absurd (subst T (sym (rw (← same) at parts.1) ∙ e) tt))))

-- by two clocks the reads told by sharing are those of warp, so many at most
module _ {starts reads : ℕ → ℕ} (clocks : Clocks starts reads) (levels : List ℕ) where
  abbrev end : ℕ
  end = starts (length levels)

  from_by : (n j : ℕ)
      → share_from n starts reads end j levels ≡ take n (reads_from starts reads levels end (end - j) j)
  unfolding share_from
  from_by zero j = refl
  from_by (suc n) j =
      dite (dec_le (reads (suc j)) end)
      (λ ends.
      let more : end - j ≡ suc (end - suc j) =
      omega (arith, rw zero-add at (reads_take clocks.reads_on 0 (suc j))) in
      rw (
        le-leb (reads (suc j)) end ends,
        more,
        reads_more starts reads levels end (end - suc j) j ends,
        common_is starts reads j levels (read_at starts reads levels j) (look_is clocks levels j ends),
        from_by n (suc j),
      ))
      (λ late.
      rw (
        lt-leb (reads (suc j)) end (omega arith),
        reads_over starts reads levels end (end - j) j (omega arith),
      ))

  pub share_by_lem : (n : ℕ) → share_by n starts reads levels ≡ take n (warp_by starts reads levels)
  unfolding first_left
  share_by_lem n = rw sub-zero at (from_by n 0)

-- two pairs of clocks that agree as far as they are asked give the same reads
module _ (starts starts' reads reads' : ℕ → ℕ) where
  shared_same : (levels : List ℕ) (i j : ℕ) → ((k : ℕ) → k ≤ i + length levels → starts k ≡ starts' k)
      → reads j ≡ reads' j → reads (suc j) ≡ reads' (suc j)
      → shared starts reads j i levels ≡ shared starts' reads' j i levels
  unfolding shared
  shared_same [] i j same begun ended = refl
  shared_same (level ∷ levels) i j same begun ended =
      rw (
        same i (omega arith),
        same (suc i) (omega arith),
        begun,
        ended,
        shared_same levels (suc i) j (λ k h. same k (omega arith)) begun ended,
      )

  from_same : (n end j : ℕ) (levels : List ℕ) → ((k : ℕ) → k ≤ length levels → starts k ≡ starts' k)
      → ((k : ℕ) → k ≤ j + n → reads k ≡ reads' k)
      → share_from n starts reads end j levels ≡ share_from n starts' reads' end j levels
  unfolding share_from
  from_same zero end j levels cycles on = refl
  from_same (suc n) end j levels cycles on =
      rw (
        on (suc j) (omega arith),
        shared_same levels 0 j (λ k h. cycles k (omega arith)) (on j (omega arith)) (on (suc j) (omega arith)),
        from_same n end (suc j) levels cycles (λ k h. on k (omega arith)),
      )

  share_same : (n : ℕ) (levels : List ℕ) → ((k : ℕ) → k ≤ length levels → starts k ≡ starts' k)
      → ((k : ℕ) → k ≤ n → reads k ≡ reads' k) → share_by n starts reads levels ≡ share_by n starts' reads' levels
  share_same n levels cycles on =
      rw (cycles (length levels) (omega arith))
      (from_same n (starts' (length levels)) 0 levels cycles (λ k h. on k (omega arith)))

-- Warp by lengths is warp by any two clocks whose times are those that the lengths make, as far as there are lengths.
pub lengths_by : {starts ends : ℕ → ℕ} → Clocks starts ends → (p : ℕ) (cycles reads levels : List ℕ)
    → ((i : ℕ) → i ≤ length (take (length cycles) levels) → start_of 0 cycles i ≡ starts i)
    → ((j : ℕ) → j ≤ length reads → start_of p reads j ≡ ends j)
    → warp_by_lengths p cycles reads levels ≡ take (length reads) (warp_by starts ends (take (length cycles) levels))
unfolding warp_by_lengths
lengths_by clocks p cycles reads levels same on =
    share_same (start_of 0 cycles) _ (start_of p reads) _ (length reads) (take (length cycles) levels) same on
    ∙ share_by_lem clocks (take (length cycles) levels) (length reads)
