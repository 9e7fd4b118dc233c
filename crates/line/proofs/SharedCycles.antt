-- What a read looks at are the cycles that overlap it in time, these and no others, and so it is the level that they
-- all have: the first one left is the first that ends after the read's start, and the look goes on just as long as
-- cycles start before its end.
use mathlib.Core.Path.{◌≡◌, refl, sym}
use mathlib.Core.Logic.{⊎_elim, dite}
use mathlib.Core.List.{List}
use Prim.Native.Nat.{ℕ, zero, suc, ◌-◌, ◌<◌, ◌≤◌}
use native.Mathlib.Nat.{eq-or-lt_of_le}
use native.Mathlib.Decide.{ℕ_discrete, dec_le}
use native.Mathlib.Omega.{arith}
use lib.ListN.{length, get_or}
use Rattle.line.specs.Warp.{warp_by}
use Rattle.line.specs.Sharing.{Shares, first_left, LooksAt, ReadIs}
use Rattle.line.proofs.Clocks.{Clocks, cycles_in_order}
use Rattle.line.proofs.LookLaws.{look_same, look_known}
use Rattle.line.proofs.FirstLeft.{FirstAt, first_left_lem}
use Rattle.line.proofs.ReadsThere.{read_at, read_there, read_ends, read_looks}

module _ {starts reads : ℕ → ℕ} (clocks : Clocks starts reads) (levels : List ℕ) (j : ℕ) where
  first : FirstAt starts levels (reads j) (first_left starts reads levels j)
  first = first_left_lem clocks levels j

  -- a cycle that ends after the read's start is left
  still_left : (i : ℕ) → reads j < starts (suc i) → first_left starts reads levels j ≤ i
  still_left i late =
      dite (dec_le (first_left starts reads levels j) i) (λ h. h)
      (λ h. absurd
      (omega (arith, first.begun, cycles_in_order clocks (suc i) (first_left starts reads levels j) (omega arith))))

  -- a cycle that is left ends after the read's start
  left_late : (i : ℕ) → i < length levels → first_left starts reads levels j ≤ i → reads j < starts (suc i)
  left_late i within left =
      omega (
        arith,
        first.unended (omega arith),
        cycles_in_order clocks (suc (first_left starts reads levels j)) (suc i) (omega arith),
      )

  pub shared_looked_at : (i : ℕ) → Shares starts reads j i → LooksAt starts reads levels j i
  shared_looked_at i shares = record {
    left = still_left i (omega (arith, shares.after_the_start));
    over = λ m left before. omega (arith, shares.before_the_end, cycles_in_order clocks (suc m) i before);
  }

  pub looks_at_shared : (i : ℕ) → i < length levels → LooksAt starts reads levels j i → Shares starts reads j i
  looks_at_shared i within looks = record {
    before_the_end = ⊎_elim at_first later (eq-or-lt_of_le looks.left);
    after_the_start = left_late i within looks.left;
  }
    where
      at_first : first_left starts reads levels j ≡ i → starts i < reads (suc j)
      at_first e = rw (← e) (omega (arith, first.begun, clocks.reads_on j))

      later : first_left starts reads levels j < i → starts i < reads (suc j)
      later after = before_this i after looks.over
        where
          before_this : (i : ℕ) → first_left starts reads levels j < i
              → ((m : ℕ) → first_left starts reads levels j ≤ m → m < i → starts (suc m) < reads (suc j))
              → starts i < reads (suc j)
          before_this zero after over = absurd (omega arith)
          before_this (suc m) after over = over m (omega arith) (omega arith)

  -- what the read looks at makes it what it should be
  pub look_is : reads (suc j) ≤ starts (length levels) → ReadIs starts reads levels j (read_at starts reads levels j)
  look_is ends = record {
    same = λ x all.
        look_same starts (reads (suc j)) levels (length levels - first_left starts reads levels j)
        (first_left starts reads levels j)
        (omega (arith, first.within)) (omega (arith, first.begun, clocks.reads_on j)) ends x
        (λ i left within begun. all i within
        (record { before_the_end = begun; after_the_start = left_late i within left }));
    known = λ known i within shares.
        look_known starts (reads (suc j)) levels clocks.cycles_on (length levels - first_left starts reads levels j)
        (first_left starts reads levels j) (omega (arith, first.within)) (read_at starts reads levels j) refl known i
        (still_left i shares.after_the_start) within shares.before_the_end;
  }

  -- a read that is there is the level that the cycles sharing time with it all have, else unknown
  pub read_is : j < length (warp_by starts reads levels)
      → ReadIs starts reads levels j (get_or (warp_by starts reads levels) j 2)
  read_is h = rw (read_looks clocks levels j h) (look_is (read_ends clocks levels j h))

  -- a read that ends by the end of the last cycle, and all of whose cycles have level v, is v
  pub read_same : (v : ℕ) → reads (suc j) ≤ starts (length levels)
      → ((i : ℕ) → i < length levels → Shares starts reads j i → get_or levels i 2 ≡ v)
      → get_or (warp_by starts reads levels) j 2 ≡ v
  read_same v ends all = (read_is (read_there clocks levels j ends)).same v all

-- only one level is read j
pub read_is_one : (starts reads : ℕ → ℕ) (levels : List ℕ) (j v u : ℕ) → ReadIs starts reads levels j v
    → ReadIs starts reads levels j u
    → v ≡ u
read_is_one starts reads levels j v u one other =
    dite (ℕ_discrete v 2)
    (λ e. dite (ℕ_discrete u 2) (λ f. omega arith) (λ known. one.same u (other.known known)))
    (λ known. sym (other.same v (one.known known)))
