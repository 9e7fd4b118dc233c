-- A picked sampling count is accepted, and accepted settings return every message.
use Rattle.settings.proofs.PickHolds.{picked_settles, pick_shown}
use Rattle.promises.specs.Picked.{PickedCounts}
use Rattle.promises.proofs.CountedReturns.{accepted_return}

pub picked_counts : PickedCounts
picked_counts = record {
  shown = pick_shown;
  returns = λ a b g k e p. accepted_return a b g k e (picked_settles a b g k e p) (pick_shown.accepts a b g k e p);
}
