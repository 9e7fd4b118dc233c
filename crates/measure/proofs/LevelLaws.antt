-- No entry of a list is above a bound: the same by places, by the place of the first that is, and part by part, since
-- each entry of a part is an entry of the whole.
use mathlib.Core.Path.{◌≡◌, refl, ap}
use mathlib.Core.Bool.{false}
use mathlib.Core.List.{List, [], ◌∷◌, ◌++◌}
use Prim.Native.Nat.{ℕ, zero, suc, ◌<◌, ◌≤◌}
use native.Mathlib.Omega.{arith}
use lib.ListN.{length, get_or, replicate, take, drop}
use borrow.Author.Tests.{le-leb, le-ltb, ltb-false}
use Rattle.measure.specs.Lists.{first_above, some_above}
use Rattle.measure.specs.Levels.{AtMost}
use Rattle.measure.proofs.Above.{above_none}

-- what stands past the end matters to no entry
pub get_d_any : (entries : List ℕ) (i d e : ℕ) → i < length entries → get_or entries i d ≡ get_or entries i e
get_d_any [] i d e h = absurd (omega arith)
get_d_any (x ∷ entries) zero d e h = refl
get_d_any (x ∷ entries) (suc i) d e h = get_d_any entries i d e (omega arith)

module _ (m : ℕ) where
  -- by places, those past the end with them
  pub most_at : (entries : List ℕ) → AtMost m entries → (i : ℕ) → get_or entries i 0 ≤ m
  most_at [] all i = omega arith
  most_at (x ∷ entries) all zero = all.0
  most_at (x ∷ entries) all (suc i) = most_at entries all.1 i

  pub most_by_places : (entries : List ℕ) → ((i : ℕ) → i < length entries → get_or entries i 0 ≤ m) → AtMost m entries
  most_by_places [] each = tt
  most_by_places (x ∷ entries) each =
      (each 0 (omega arith), most_by_places entries (λ i h. each (suc i) (omega arith)))

  -- by the place of the first entry above the bound, which is then past the end
  pub none_above : (entries : List ℕ) → AtMost m entries → first_above m entries ≡ length entries
  unfolding first_above
  none_above [] all = refl
  none_above (x ∷ entries) all = rw (le-leb x m all.0) (ap suc (none_above entries all.1))

  pub none_some : (entries : List ℕ) → AtMost m entries → some_above m entries ≡ false
  none_some entries all = rw (none_above entries all) (le-ltb (length entries) (length entries) (omega arith))

  pub most_none_some : (entries : List ℕ) → some_above m entries ≡ false → AtMost m entries
  most_none_some entries none =
      most_by_places entries (above_none m entries (ltb-false (first_above m entries) (length entries) none))

  -- part by part
  pub most_append : (one other : List ℕ) → AtMost m one → AtMost m other → AtMost m (one ++ other)
  most_append [] other this that = that
  most_append (x ∷ one) other this that = (this.0, most_append one other this.1 that)

  pub most_take : (n : ℕ) (entries : List ℕ) → AtMost m entries → AtMost m (take n entries)
  most_take zero entries all = tt
  most_take (suc n) [] all = tt
  most_take (suc n) (x ∷ entries) all = (all.0, most_take n entries all.1)

  pub most_drop : (n : ℕ) (entries : List ℕ) → AtMost m entries → AtMost m (drop n entries)
  most_drop zero entries all = all
  most_drop (suc n) [] all = tt
  most_drop (suc n) (x ∷ entries) all = most_drop n entries all.1

  pub most_replicate : (n x : ℕ) → x ≤ m → AtMost m (replicate n x)
  most_replicate zero x h = tt
  most_replicate (suc n) x h = (h, most_replicate n x h)
