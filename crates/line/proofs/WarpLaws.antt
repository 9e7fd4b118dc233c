-- The laws of warp that the rules ask for: those of any two clocks, at cycles of w units and reads of r units from p
-- on. The number of reads is the quotient, since read j is there exactly if its end, p + (j + 1)·r, is at most L·w.
use mathlib.Core.Path.{◌≡◌, refl}
use mathlib.Core.Logic.{dite}
use mathlib.Core.List.{List}
use Prim.Native.Nat.{ℕ, zero, suc, ◌*◌, ◌-◌, ◌/◌, ◌<◌, ◌≤◌}
use native.Mathlib.Nat.{le-div_iff_mul-le}
use native.Mathlib.Decide.{dec_lt}
use native.Mathlib.Omega.{arith}
use lib.ListN.{length}
use Rattle.line.specs.Warp.{cycle_start, read_start, warp_by, warp}
use Rattle.line.specs.Sharing.{read_count, WarpLaws, WarpLawsHold}
use Rattle.line.proofs.Clocks.{even_clocks}
use Rattle.line.proofs.ReadsThere.{read_there, read_ends, read_looks}
use Rattle.line.proofs.SharedCycles.{shared_looked_at, looks_at_shared, read_is}

-- the pass is the warp by the rules' two clocks
pub warp_by_lem : (w r p : ℕ) (levels : List ℕ) → warp w r p levels ≡ warp_by (cycle_start w) (read_start p r) levels
unfolding warp
warp_by_lem w r p levels = refl

-- one read more fits into the cycles exactly if it ends by the last one's end
pub counted_ends : (w r p cycles j : ℕ) → 0 < r → j < read_count w r p cycles
    → read_start p r (suc j) ≤ cycle_start w cycles
counted_ends w r p zero j some-r h = absurd (omega arith)
counted_ends w r p (suc cycles) j some-r h = omega (arith, (le-div_iff_mul-le some-r).0 h)

pub ends_counted : (w r p cycles j : ℕ) → 0 < r → read_start p r (suc j) ≤ cycle_start w cycles
    → j < read_count w r p cycles
ends_counted w r p zero j some-r h = absurd (omega arith)
ends_counted w r p (suc cycles) j some-r h = (le-div_iff_mul-le some-r).1 (omega arith)

pub uncounted_late : (w r p cycles j : ℕ) → 0 < r → read_count w r p cycles ≤ j
    → cycle_start w cycles < read_start p r (suc j)
uncounted_late w r p cycles j some-r h =
    dite (dec_lt (cycle_start w cycles) (read_start p r (suc j))) (λ late. late)
    (λ ends. absurd (omega (arith, ends_counted w r p cycles j some-r (omega arith))))

pub count_some : (w r p cycles : ℕ) → (cycles ≡ 0 → ⊥) → read_count w r p cycles ≡ (cycles * w - p) / r
count_some w r p zero some = absurd (some refl)
count_some w r p (suc cycles) some = refl

-- two numbers that the same ones are below
same_below : (m n : ℕ) → ((j : ℕ) → j < m → j < n) → ((j : ℕ) → j < n → j < m) → m ≡ n
same_below zero zero there back = refl
same_below zero (suc n) there back = absurd (omega (arith, back n (omega arith)))
same_below (suc m) zero there back = absurd (omega (arith, there m (omega arith)))
same_below (suc m) (suc n) there back = omega (arith, there m (omega arith), back n (omega arith))

module _ (w r p : ℕ) (levels : List ℕ) (some-r : 0 < r) (phase : p < w) where
  pub read_count_lem : length (warp w r p levels) ≡ read_count w r p (length levels)
  unfolding warp
  read_count_lem =
      same_below (length (warp w r p levels)) (read_count w r p (length levels))
      (λ j h. ends_counted w r p (length levels) j some-r (read_ends (even_clocks w r p some-r phase) levels j h))
      (λ j h. read_there (even_clocks w r p some-r phase) levels j (counted_ends w r p (length levels) j some-r h))

  pub warp_laws : WarpLaws w r p levels
  unfolding warp
  warp_laws = record {
    count = read_count_lem;
    looks = read_looks (even_clocks w r p some-r phase) levels;
    looks_at_shared = λ j i h. looks_at_shared (even_clocks w r p some-r phase) levels j i;
    shared_looked_at = λ j i h within. shared_looked_at (even_clocks w r p some-r phase) levels j i;
    is = λ j. read_is (even_clocks w r p some-r phase) levels j;
  }

pub warp_laws_hold : WarpLawsHold
warp_laws_hold w r p levels = warp_laws w r p levels
