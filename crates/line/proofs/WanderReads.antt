-- The reads of warp by lengths: how many there are, that they are the first so many of warp by the clocks that the
-- lengths make, and that lengths that are all equal make warp.
use mathlib.Core.Path.{◌≡◌, refl, sym, ap, ◌∙◌}
use mathlib.Core.Logic.{⊎_elim, dite}
use mathlib.Core.Bool.{true}
use mathlib.Core.List.{List, [], ◌∷◌}
use Prim.Native.Nat.{ℕ, zero, suc, ◌+◌, ◌*◌, ◌<◌, ◌≤◌}
use native.Mathlib.Nat.{zero-add, eq-or-lt_of_le}
use native.Mathlib.Decide.{dec_le}
use native.Mathlib.Omega.{arith}
use lib.ListN.{length, take, replicate, length-take, length-replicate, get_or-replicate}
use lib.Seq.{take_all, length-take-le}
use borrow.Author.Tests.{le-ltb, lt-leb}
use Rattle.measure.specs.Lists.{onto}
use Rattle.measure.specs.Refusals.{given, lent}
use Rattle.line.specs.Warp.{warp_by, warp}
use Rattle.line.specs.Wander.{start_of, share_from, warp_by_lengths, EqualLengthsWarp}
use Rattle.line.specs.Answers.{phase_fits}
use Rattle.line.specs.Running.{clock_of, Lengths, EndBy, Counts}
use Rattle.line.proofs.Clocks.{Clocks, even_clocks}
use Rattle.line.proofs.ReadsThere.{read_there, read_ends}
use Rattle.line.proofs.WarpLaws.{warp_by_lem}
use Rattle.line.proofs.WanderLaws.{lengths_by}
use Rattle.line.proofs.WanderClocks.{clock_start, clocks_of}
use Rattle.line.proofs.LengthsFit.{phase_below}

-- the front of a list, taken by its own length
pub front_length : (n m : ℕ) (l : List ℕ) → length (take n l) ≡ m → take m l ≡ take n l
front_length n m l e = rw (← e) (same n l)
  where
    same : (n : ℕ) (l : List ℕ) → take (length (take n l)) l ≡ take n l
    same zero l = refl
    same (suc n) [] = refl
    same (suc n) (x ∷ l) = ap (λ (rest : List ℕ). x ∷ rest) (same n l)

-- no result leaves the output as it was
pub onto_none : (result output : List ℕ) → length result ≡ 0 → onto result output ≡ output
onto_none [] output e = refl
onto_none (x ∷ result) output e = absurd (omega arith)

-- a result for which there is room is given, and laid on the output
pub lent_given : (result output : List ℕ) (n : ℕ) → length result ≡ n → n ≤ length output
    → lent result output ≡ (given n, onto result output)
lent_given result output n size room =
    rw (le-ltb (length output) (length result) (omega arith)) (ap (λ (x : ℕ). (given x, onto result output)) size)

-- with the first read that ends late there are no more
share_over : (most : ℕ) (starts reads : ℕ → ℕ) (end j : ℕ) (levels : List ℕ) → (0 < most → end < reads (suc j))
    → share_from most starts reads end j levels ≡ []
unfolding share_from
share_over zero starts reads end j levels late = refl
share_over (suc most) starts reads end j levels late = rw (lt-leb (reads (suc j)) end (late (omega arith)))

-- no cycle has no read
pub no_cycle : (p : ℕ) (cycles reads levels : List ℕ) → Lengths reads → length (take (length cycles) levels) ≡ 0
    → warp_by_lengths p cycles reads levels ≡ []
unfolding warp_by_lengths start_of
no_cycle p cycles reads levels read none =
    rw none
    (share_over (length reads) (start_of 0 cycles) (start_of p reads) 0 0 (take (length cycles) levels)
    (λ some. omega (arith, read.least 0 some)))

-- of reads by two clocks, those that end by the wave's end are the first so many
module _ {starts reads : ℕ → ℕ} (clocks : Clocks starts reads) (levels : List ℕ) (most n : ℕ)
    (by : EndBy reads most (starts (length levels)) n) where
  abbrev all : List ℕ
  all = warp_by starts reads levels

  few : n < most → length all ≤ n
  few less =
      dite (dec_le (length all) n) (λ h. h)
      (λ h. absurd (omega (arith, by.late less, read_ends clocks levels n (omega arith))))

  pub first_some : take most all ≡ take n all
  first_some =
      ⊎_elim (λ (same : n ≡ most). rw same)
      (λ less. take_all most all (omega (arith, few less)) ∙ sym (take_all n all (few less)))
      (eq-or-lt_of_le by.within)

  pub some_length : length (take n all) ≡ n
  some_length =
      length-take-le n all
      (dite (dec_le n (length all)) (λ h. h)
      (λ h. absurd (omega (arith, read_there clocks levels (length all) (by.ends (length all) (omega arith))))))

-- judged lengths, and so many reads counted of them
module _ (p : ℕ) (cycles reads levels : List ℕ) (written : Lengths cycles) (read : Lengths reads)
    (phase : phase_fits p cycles ≡ true) (n : ℕ)
    (counts : Counts (length (take (length cycles) levels)) p cycles reads n) where
  abbrev wave : List ℕ
  wave = take (length cycles) levels

  some_cycles : 0 < length wave → 0 < length cycles
  some_cycles some = go cycles some
    where
      go : (l : List ℕ) → 0 < length (take (length l) levels) → 0 < length l
      go [] h = absurd (omega arith)
      go (x ∷ l) h = omega arith

  within : length wave ≤ length cycles
  within = omega (arith, length-take (length cycles) levels)

  clocks : 0 < length wave → Clocks (clock_of 1 0 cycles) (clock_of 1 p reads)
  clocks some = clocks_of written read p (phase_below p cycles phase (some_cycles some))

  pub counted_reads : 0 < length wave
      → warp_by_lengths p cycles reads levels ≡ take n (warp_by (clock_of 1 0 cycles) (clock_of 1 p reads) wave)
  counted_reads some =
      lengths_by (clocks some) p cycles reads levels
      (λ i h. clock_start 1 0 cycles i (omega (arith, within))) (λ j h. clock_start 1 p reads j h)
      ∙ first_some (clocks some) wave (length reads) n (counts.some some)

  pub counted_some : 0 < n → 0 < length wave
  counted_some some =
      dite (dec_le 1 (length wave)) (λ h. h) (λ h. absurd (omega (arith, counts.none (omega arith))))

  pub counted_length : length (warp_by_lengths p cycles reads levels) ≡ n
  counted_length =
      dite (dec_le 1 (length wave))
      (λ some. rw (counted_reads some) (some_length (clocks some) wave (length reads) n (counts.some some)))
      (λ none.
      rw (no_cycle p cycles reads levels read (omega arith)) (sym (counts.none (omega arith))))

-- the times of lengths that are all equal
pub even_starts : (from n x i : ℕ) → i ≤ n → start_of from (replicate n x) i ≡ from + i * x
unfolding start_of
even_starts from n x zero within = omega arith
even_starts from n x (suc i) within =
    omega (arith, even_starts from n x i (omega arith), get_or-replicate n i x 0 within)

pub equal_lengths_warp : EqualLengthsWarp
equal_lengths_warp w r p cycles reads levels some-r phase enough reach =
    let all : take (length (replicate cycles w)) levels ≡ levels =
    take_all (length (replicate cycles w)) levels (rw (length-replicate cycles w) enough) in
    lengths_by (even_clocks w r p some-r phase) p (replicate cycles w) (replicate reads r) levels
    (λ i h. even_starts 0 cycles w i (omega (arith, rw all at h)) ∙ zero-add _)
    (λ j h. even_starts p reads r j (rw (length-replicate reads r) at h))
    ∙ rw (all, length-replicate reads r, ← warp_by_lem w r p levels) (take_all reads (warp w r p levels) reach)
