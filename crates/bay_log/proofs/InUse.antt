-- A read number is later exactly if it is above that of every record in use; and how many records are in use.
use Prim.Native.Nat.{ℕ, zero, suc, ◌<◌, ◌≤◌}
use mathlib.Core.Path.{◌≡◌, refl, ap}
use mathlib.Core.Bool.{true, ◌||◌}
use mathlib.Core.Logic.{dite}
use mathlib.Core.List.{List, [], ◌∷◌}
use native.Mathlib.Decide.{dec_le, ℕ_discrete}
use native.Mathlib.Omega.{arith}
use lib.Dec.{ltb}
use lib.ListN.{length, get_or}
use borrow.Author.Tests.{lt-ltb, le-ltb, ltb-true, le-leb, lt-leb}
use Rattle.measure.specs.Lists.{first_above}
use Rattle.measure.proofs.Both.{both}
use Rattle.bay_log.specs.Records.{marked}
use Rattle.bay_log.specs.Order.{in_order, later}
use Rattle.bay_log.proofs.InOrder.{length_inserted, in_order_free, in_order_used}

module _ (numbers free : List ℕ) (number : ℕ) where
  pub later_all : (n : ℕ) → later numbers free number n ≡ true
      → (place : ℕ) → place < n → get_or free place 0 ≤ 0 → get_or numbers place 0 < number
  unfolding later
  later_all zero e place h used = absurd (omega arith)
  later_all (suc n) e place h used =
      let q =
      both (marked (get_or free n 0) || ltb (get_or numbers n 0) number) (later numbers free number n) e in
      dite (ℕ_discrete place n)
      (λ same.
      rw same
      (ltb-true (get_or numbers n 0) number
      (rw (le-ltb 0 (get_or free n 0) (rw same at used)) at q.0)))
      (λ apart. later_all n q.1 place (omega (arith, apart)) used)

  pub all_later : (n : ℕ) → ((place : ℕ) → place < n → get_or free place 0 ≤ 0 → get_or numbers place 0 < number)
      → later numbers free number n ≡ true
  unfolding later
  all_later zero all = refl
  all_later (suc n) all =
      let rest = all_later n (λ place h used. all place (omega arith) used) in
      dite (dec_le (get_or free n 0) 0)
      (λ used. rw (le-ltb 0 (get_or free n 0) used, lt-ltb (get_or numbers n 0) number (all n (omega arith) used), rest))
      (λ unused. rw (lt-ltb 0 (get_or free n 0) (omega arith), rest))

-- the first entry above a bound is above it
pub above_found : (m : ℕ) (s : List ℕ) → first_above m s < length s → m < get_or s (first_above m s) 0
unfolding first_above
above_found m [] h = absurd (omega arith)
above_found m (x ∷ s) h =
    dite (dec_le x m)
    (λ l. rw (le-leb x m l) (above_found m s (omega (arith, rw (le-leb x m l) at h))))
    (λ l. rw (lt-leb x m (omega arith)) (omega arith))

module _ (numbers free : List ℕ) where
  -- where all records are in use, all are listed
  pub listed_full : (n : ℕ) → ((place : ℕ) → place < n → get_or free place 0 ≤ 0) → length (in_order numbers free n) ≡ n
  unfolding in_order
  listed_full zero all = refl
  listed_full (suc n) all =
      rw (in_order_used numbers free n (all n (omega arith)), length_inserted numbers n (in_order numbers free n))
      (ap suc (listed_full n (λ place h. all place (omega arith))))

  pub listed_most : (n : ℕ) → length (in_order numbers free n) ≤ n
  unfolding in_order
  listed_most zero = omega arith
  listed_most (suc n) =
      let rest = listed_most n in
      dite (dec_le (get_or free n 0) 0)
      (λ used. rw (in_order_used numbers free n used, length_inserted numbers n (in_order numbers free n)) (omega arith))
      (λ unused. rw (in_order_free numbers free n (omega arith)) (omega arith))

  -- and where one is free, fewer are
  pub listed_fewer : (n place : ℕ) → place < n → 0 < get_or free place 0 → length (in_order numbers free n) < n
  listed_fewer zero place h unused = absurd (omega arith)
  listed_fewer (suc n) place h unused =
      dite (dec_le (get_or free n 0) 0)
      (λ used.
      let apart : place ≡ n → ⊥ = λ e. let used-too : get_or free place 0 ≤ 0 = rw e used in omega arith in
      rw (in_order_used numbers free n used, length_inserted numbers n (in_order numbers free n))
      (omega (arith, listed_fewer n place (omega (arith, apart)) unused)))
      (λ free-too. rw (in_order_free numbers free n (omega arith)) (omega (arith, listed_most n)))
