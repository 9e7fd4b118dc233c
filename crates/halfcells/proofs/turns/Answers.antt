-- `turns` meets its contract: a shift down by one place is a division by two.
use mathlib.Core.Path.{refl}
use Rattle.halfcells.specs.Turns.{turns_of}
use Rattle.halfcells.proofs.turns.Goals as goal

pub returns : goal.returns
unfolding turns_of
returns c = refl
