-- `walk_to_word` meets its contract: at each bit the number of the last 16 tells whether a mark ends there.
use Rattle.std.proofs.Common.{◌+◌}
use Rattle.timecode.proofs.Search.{Searching}
use Rattle.timecode.proofs.Bits.walk_to_word.Given as goal

abbrev pub invariant-loop-i : goal.invariant-loop-i
invariant-loop-i l = Searching l.self.list.now l.from l.last (l.from + 64 + l.i)
