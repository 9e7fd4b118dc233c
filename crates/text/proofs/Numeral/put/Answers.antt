-- `put` meets its contract: a number that has room fills its part of the output.
use Rattle.std.proofs.Common.{sym}
use Rattle.text.proofs.PutLaws.{part_put, part_size, part_short}
use Rattle.text.proofs.Numeral.put.Goals as goal

pub fill-requires : goal.fill-requires
fill-requires c = part_size _ _ _ _ (sym (rw c.size.ensures at c.in-Some.ensures))

pub returns-in-None : goal.returns-in-None
returns-in-None c = part_short _ _ _ (sym (rw c.size.ensures at c.in-None.ensures))

pub returns-in-Some : goal.returns-in-Some
returns-in-Some c = rw c.fill.ensures (part_put _ _ _ _ (sym (rw c.size.ensures at c.in-Some.ensures)))
