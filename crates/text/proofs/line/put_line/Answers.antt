-- `put_line` meets its contract: a line that has room is put whole.
use Rattle.std.proofs.Common.{sym}
use Rattle.text.proofs.PutLaws.{line_put, line_short_of, puts_whole}
use Rattle.text.proofs.line.put_line.Goals as goal

pub returns-in-None : goal.returns-in-None
returns-in-None g c = line_short_of _ _ (sym c.in-None.ensures)

pub returns-in-Some : goal.returns-in-Some
returns-in-Some g c =
    line_put _ _ _ _ _ (sym c.in-Some.ensures)
    (puts_whole _ _ _ _ _ _ _ (g.met.P.Piece.whole c.args.line) (sym c.in-Some.ensures) c.lay.ensures)
