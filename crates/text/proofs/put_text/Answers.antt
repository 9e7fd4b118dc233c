-- `put_text` meets its contract: a text that has room is copied to its part of the output.
use Rattle.std.proofs.Common.{sym}
use Rattle.text.proofs.PutLaws.{part_put, part_short}
use Rattle.text.proofs.put_text.Goals as goal

pub returns-in-None : goal.returns-in-None
returns-in-None c = part_short _ _ _ (sym c.in-None.ensures)

pub returns-in-Some : goal.returns-in-Some
returns-in-Some c = rw c.copy_from_slice.ensures.after (part_put _ _ _ _ (sym c.in-Some.ensures))
