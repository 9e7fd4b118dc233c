-- Feeding a list in two parts: a report depends on earlier reads only, so the first part's reports stand below the seam
-- and the second's do not depend on it.
use mathlib.Core.Path.{◌≡◌, refl, ap, ◌∙◌}
use mathlib.Core.Bool.{Bool, true, false}
use mathlib.Core.List.{List, [], ◌∷◌, ◌++◌, map, append-nil}
use Prim.Native.Nat.{ℕ, suc, ◌+◌, ◌-◌, ◌≤◌, ◌<◌}
use native.Mathlib.Omega.{arith}
use lib.Dec.{ltb}
use lib.ListN.{length}
use borrow.Author.Tests.{lt-ltb, le-ltb}
use Rattle.board.specs.Rows.{State}
use Rattle.board.specs.Feeding.{Report, Step, after_by, reports_by}
use Rattle.board.proofs.FeedingLaws.{reports_append}
use Rattle.board.proofs.ReportPlaces.{Within, move_to, reports_within, reports_moved}
use Rattle.promises.specs.Places.{keep}
use Rattle.promises.specs.Replaced.{reports_at, below, above, moved}

-- where a stretch moves a read
abbrev pub moved_to : (i j : ℕ) (junk : List ℕ) (place : ℕ) → ℕ
moved_to i j junk place = i + length junk + (place - j)

pub reports_at_append : (test : ℕ → Bool) (one other : List Report)
    → reports_at test (one ++ other) ≡ reports_at test one ++ reports_at test other
unfolding reports_at
reports_at_append test [] other = refl
reports_at_append test (x ∷ one) other = go (test x.place) (reports_at_append test one other)
  where
    go : (b : Bool) → reports_at test (one ++ other) ≡ reports_at test one ++ reports_at test other
        → keep b x (reports_at test (one ++ other)) ≡ keep b x (reports_at test one) ++ reports_at test other
    go true e = ap (λ (l : List Report). x ∷ l) e
    go false e = e

-- all reports pass a test, or none does, where all the places between their bounds do or none does
module _ (test : ℕ → Bool) (from to : ℕ) where
  all_pass : (reports : List Report) → Within from to reports
      → ((at : ℕ) → from ≤ at → at < to → test at ≡ true) → reports_at test reports ≡ reports
  unfolding reports_at
  all_pass [] within f = refl
  all_pass (x ∷ reports) within f =
      rw (f x.place within.0 within.1)
      (ap (λ (l : List Report). x ∷ l) (all_pass reports within.2 f))

  none_passes : (reports : List Report) → Within from to reports
      → ((at : ℕ) → from ≤ at → at < to → test at ≡ false) → reports_at test reports ≡ []
  unfolding reports_at
  none_passes [] within f = refl
  none_passes (x ∷ reports) within f =
      rw (f x.place within.0 within.1) (none_passes reports within.2 f)

-- reports that are moved each to its own place
moved_each : (i j : ℕ) (junk : List ℕ) (reports : List Report)
    → moved i j junk reports ≡ map (move_to (moved_to i j junk)) reports
unfolding moved
moved_each i j junk [] = refl
moved_each i j junk (x ∷ reports) =
    ap (λ (l : List Report). move_to (moved_to i j junk) x ∷ l) (moved_each i j junk reports)

module _ (step : Step) where
  -- the reports of reads that are fed pass a test that holds at each of their places
  pub all_fed : (test : ℕ → Bool) (xs : List ℕ) (place : ℕ) (s : State)
      → ((at : ℕ) → place ≤ at → at < place + length xs → test at ≡ true)
      → reports_at test (reports_by step s place xs) ≡ reports_by step s place xs
  all_fed test xs place s f =
      all_pass test place (place + length xs) (reports_by step s place xs)
      (reports_within step place (place + length xs) xs place s (omega arith) (omega arith)) f

  none_fed : (test : ℕ → Bool) (xs : List ℕ) (place : ℕ) (s : State)
      → ((at : ℕ) → place ≤ at → at < place + length xs → test at ≡ false)
      → reports_at test (reports_by step s place xs) ≡ []
  none_fed test xs place s f =
      none_passes test place (place + length xs) (reports_by step s place xs)
      (reports_within step place (place + length xs) xs place s (omega arith) (omega arith)) f

  -- below the seam: the reports of the first part
  pub first_part : (xs ys : List ℕ) (s : State) (i : ℕ) → length xs ≡ i
      → below i (reports_by step s 0 (xs ++ ys)) ≡ reports_by step s 0 xs
  first_part xs ys s i e =
      ap (λ (l : List Report). below i l) (reports_append step s 0 xs ys)
      ∙ reports_at_append (λ at. ltb at i) (reports_by step s 0 xs) rest
      ∙ rw (
        none_fed (λ at. ltb at i) ys (0 + length xs) (after_by step s xs) (λ at p q. le-ltb at i (omega arith)),
        append-nil,
      )
      (all_fed (λ at. ltb at i) xs 0 s (λ at p q. lt-ltb at i (omega arith)))
    where
      rest : List Report
      rest = reports_by step (after_by step s xs) (0 + length xs) ys

  -- from the seam on: those of the second part, from the state that the first part leads to
  pub last_part : (xs ys : List ℕ) (s : State) (i : ℕ) → length xs ≡ suc i
      → above i (reports_by step s 0 (xs ++ ys)) ≡ reports_by step (after_by step s xs) (suc i) ys
  last_part xs ys s i e =
      ap (λ (l : List Report). above i l) (reports_append step s 0 xs ys)
      ∙ reports_at_append (λ at. ltb i at) (reports_by step s 0 xs)
      (reports_by step (after_by step s xs) (0 + length xs) ys)
      ∙ rw (none_fed (λ at. ltb i at) xs 0 s (λ at p q. le-ltb i at (omega arith)), at_seam)
      (all_fed (λ at. ltb i at) ys (suc i) (after_by step s xs) (λ at p q. lt-ltb i at p))
    where
      at_seam : 0 + length xs ≡ suc i
      at_seam = omega arith

  -- reports move with their reads
  pub moves : (i j : ℕ) (junk : List ℕ) (xs : List ℕ) (place : ℕ) (s : State) → j ≤ place
      → moved i j junk (reports_by step s place xs) ≡ reports_by step s (moved_to i j junk place) xs
  moves i j junk xs place s h =
      moved_each i j junk (reports_by step s place xs)
      ∙ reports_moved step (moved_to i j junk) xs place s (λ at q. omega arith)
