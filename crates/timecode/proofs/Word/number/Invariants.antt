-- `number` meets its contract: the bits from a place on make the number so far, and the next weighs twice the last.
use Rattle.std.proofs.Common.{◌≡◌, ◌^◌}
use Rattle.timecode.specs.Times.{number}
use Rattle.timecode.proofs.Word.number.Given as goal

abbrev pub invariant-loop-i : goal.invariant-loop-i
invariant-loop-i g l = (l.n ≡ number l.i l.at l.self.bits.now) × (l.weight ≡ 2 ^ l.i)
