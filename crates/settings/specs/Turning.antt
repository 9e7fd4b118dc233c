-- What picking is promised by the function that finds where the least margin turns. No contract of a public operation
-- speaks of this.
use Rattle.std.specs.Prelude.{ℕ, ◌+◌, ◌≤◌, ◌≡◌, true, false}
use Rattle.std.specs.Int.Signed.{lt_z}
use Rattle.settings.specs.Margins.{Ends, m2}
use Rattle.settings.specs.Pick.{least, Best}

-- M30: M2 is the least margin of k, and the best is k or the next, whichever has the greater least margin, of equals k
pub record Turning (a b g k : ℕ) (e : Ends) : Type 0 where
  pub first : 1 ≤ k
  pub within : k ≤ 510
  pub least_here : least a b g k e ≡ m2 a g k e
  pub here : lt_z (least a b g k e) (least a b g (k + 1) e) ≡ false → Best a b g k e
  pub next : lt_z (least a b g k e) (least a b g (k + 1) e) ≡ true → Best a b g (k + 1) e
