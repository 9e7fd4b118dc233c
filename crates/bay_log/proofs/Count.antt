-- The count of broken records: where one record changes, what the old one added goes and what the new one adds comes;
-- and it is never above the records.
use Prim.Native.Nat.{ℕ, zero, suc, ◌+◌, ◌-◌, ◌<◌, ◌≤◌}
use mathlib.Core.Path.{◌≡◌, refl}
use mathlib.Core.Bool.{Bool, true, false, not, ◌&&◌, and-false}
use mathlib.Core.Logic.{dite}
use mathlib.Core.List.{List}
use native.Mathlib.Decide.{ℕ_discrete}
use native.Mathlib.Numerals.{add-one}
use native.Mathlib.Omega.{arith}
use lib.ListN.{length, get_or, set}
use lib.Seq.{get_or-set_same, get_or-set_other}
use borrow.Author.Tests.{lt-ltb}
use Rattle.measure.specs.Choose.{choose}
use Rattle.measure.specs.Ranges.{log_records}
use Rattle.bay_log.specs.Records.{marked, adds, broken_among, broken_records}

pub adds_most : (broken free : ℕ) → adds broken free ≤ 1
adds_most broken free = go (marked broken && not (marked free))
  where
    go : (b : Bool) → choose b 1 0 ≤ 1
    go true = omega arith
    go false = omega arith

module _ (broken free : List ℕ) where
  pub among_next : (n : ℕ)
      → broken_among broken free (suc n) ≡ broken_among broken free n + adds (get_or broken n 0) (get_or free n 0)
  unfolding broken_among
  among_next n = refl

  -- the same by the record that stands there
  pub among_more : (n mark unused : ℕ) → get_or broken n 0 ≡ mark → get_or free n 0 ≡ unused
      → broken_among broken free (n + 1) ≡ broken_among broken free n + adds mark unused
  among_more n mark unused e f = rw (add-one, among_next n, e, f)

  pub among_most : (n : ℕ) → broken_among broken free n ≤ n
  unfolding broken_among
  among_most zero = omega arith
  among_most (suc n) = omega (arith, among_most n, adds_most (get_or broken n 0) (get_or free n 0))

  -- a record among the first so many is counted
  pub among_counts : (q n : ℕ) → q < n → adds (get_or broken q 0) (get_or free q 0) ≤ broken_among broken free n
  unfolding broken_among
  among_counts q zero h = absurd (omega arith)
  among_counts q (suc n) h =
      dite (ℕ_discrete q n)
      (λ e. rw e (omega arith))
      (λ apart. omega (arith, among_counts q n (omega (arith, apart))))

  module _ (q mark unused : ℕ) (marks : q < length broken) (frees : q < length free) where
    -- before the place nothing changes
    among_before : (n : ℕ) → n ≤ q
        → broken_among (set broken q mark) (set free q unused) n ≡ broken_among broken free n
    unfolding broken_among
    among_before zero h = refl
    among_before (suc n) h =
        rw (
          get_or-set_other broken q n mark 0 (λ e. omega arith),
          get_or-set_other free q n unused 0 (λ e. omega arith),
          among_before n (omega arith),
        )

    pub among_set : (n : ℕ) → q < n
        → broken_among (set broken q mark) (set free q unused) n + adds (get_or broken q 0) (get_or free q 0)
        ≡ broken_among broken free n + adds mark unused
    unfolding broken_among
    among_set zero h = absurd (omega arith)
    among_set (suc n) h =
        dite (ℕ_discrete n q)
        (λ e.
        rw (
          e,
          get_or-set_same broken q mark 0 marks,
          get_or-set_same free q unused 0 frees,
          among_before q (omega arith),
        )
        (omega arith))
        (λ apart.
        rw (get_or-set_other broken q n mark 0 apart, get_or-set_other free q n unused 0 apart)
        (omega (arith, among_set n (omega (arith, apart)))))

-- where every record is free none is broken
pub among_none : (broken free : List ℕ) (n : ℕ) → ((place : ℕ) → place < n → 0 < get_or free place 0)
    → broken_among broken free n ≡ 0
unfolding broken_among
among_none broken free zero all = refl
among_none broken free (suc n) all =
    rw (
      lt-ltb 0 (get_or free n 0) (all n (omega arith)),
      and-false (marked (get_or broken n 0)),
      among_none broken free n (λ place h. all place (omega arith)),
    )

-- a record that is put at a place: of the count what the one before added goes, and what the new one adds comes
pub count_put : (broken free : List ℕ) (q mark unused : ℕ) → q < log_records → length broken ≡ log_records
    → length free ≡ log_records
    → broken_records (set broken q mark) (set free q unused)
    ≡ broken_records broken free - adds (get_or broken q 0) (get_or free q 0) + adds mark unused
count_put broken free q mark unused there marks frees =
    omega (
      arith,
      among_counts broken free q log_records there,
      among_set broken free q mark unused (omega (arith, marks)) (omega (arith, frees)) log_records there,
    )
