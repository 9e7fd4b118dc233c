-- `put_eight` meets its contract: the bits stored and those still to come are the bits of the number.
use Rattle.std.proofs.Common.{arith}
use Rattle.timecode.proofs.NumberBits.{eight_more, eight_all}
use Rattle.timecode.proofs.put_eight.Goals as goal

pub loop-bit-preserved : goal.loop-bit-preserved
loop-bit-preserved c = eight_more _ _ _ _ _ c.loop-bit.invariant (omega arith) c.requires

pub returns : goal.returns
returns c = eight_all _ _ _ _ _ c.loop-bit.invariant (omega arith) (omega arith) c.requires
