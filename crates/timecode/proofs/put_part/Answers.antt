-- `put_part` meets its contract: units and tens are its two halves.
use Rattle.timecode.proofs.NumberBits.{part_put}
use Rattle.timecode.proofs.put_part.Goals as goal

pub returns : goal.returns
returns c = part_put _ _ _ _ c.requires.1 c.requires.0 c.put_eight.ensures c.put_eight-2.ensures
