-- `lay` meets its contract: the parts of the second piece are put where those of the first end.
use Rattle.text.proofs.PutLaws.{puts_both}
use Rattle.text.proofs.line.ThenPiece.lay.Goals as goal

pub returns : goal.returns
returns g c = puts_both _ _ _ _ _ _ _ _ c.lay-middle.ensures c.lay.ensures
