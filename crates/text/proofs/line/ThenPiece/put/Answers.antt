-- `put` meets its contract: both pieces have room, and so their parts are put as one.
use Rattle.std.proofs.Common.{sym}
use Rattle.text.proofs.PutLaws.{joined_both, part_short, puts_whole}
use Rattle.text.proofs.line.ThenPiece.put.Goals as goal

pub returns-in-None : goal.returns-in-None
returns-in-None g c = part_short _ _ _ (sym c.in-None.ensures)

pub returns-in-Some : goal.returns-in-Some
returns-in-Some g c =
    puts_whole _ _ _ _ _ _ _
    (joined_both (g.A.Piece.parts c.args.self.first) (g.B.Piece.parts c.args.self.next) _ _
    (g.met.A.Piece.whole c.args.self.first) (g.met.B.Piece.whole c.args.self.next))
    (sym c.in-Some.ensures) c.lay.ensures
