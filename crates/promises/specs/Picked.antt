-- What a picked sampling count is good for: it is the best, and with it no message is lost.
use Rattle.std.specs.Prelude.{ℕ}
use Rattle.measure.specs.Refusals.{given}
use Rattle.settings.specs.Margins.{Ends}
use Rattle.settings.specs.Pick.{Picks}
use Rattle.settings.specs.PickShown.{PickShown}
use Rattle.promises.specs.CountedReturns.{EveryMessageReturned}

-- M32, M20
pub record PickedCounts : Type 0 where
  pub shown : PickShown
  -- the counted receiver returns every message with the k that is given
  pub returns : (a b g k : ℕ) (e : Ends) → Picks a b g e (given k) → EveryMessageReturned a b g k e
