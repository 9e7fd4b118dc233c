-- `none` meets its contract: with no bits every byte is 0, which computes.
use mathlib.Core.Path.{refl}
use Rattle.board.specs.Packed.{packed, number}
use Rattle.board.proofs.state.none.Goals as goal

pub returns : goal.returns
unfolding packed number
returns c = refl
