-- `put_eight` meets its contract: the bits stored and those still to come are the bits of the number.
use Rattle.std.proofs.Common.{◌-◌}
use Rattle.measure.proofs.Wrote.{Wrote}
use Rattle.timecode.specs.Times.{bits_of}
use Rattle.timecode.proofs.put_eight.Given as goal

abbrev pub invariant-loop-bit : goal.invariant-loop-bit
invariant-loop-bit l = Wrote (bits_of 8 l.n) l.initial.out l.out (bits_of (8 - l.bit-index) l.left) l.bit-index
