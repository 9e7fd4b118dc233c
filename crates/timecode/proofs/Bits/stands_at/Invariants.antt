-- `stands_at` meets its contract: it is known how many of the bits compared so far are the mark's, and the rest is
-- still to be compared.
use Prim.Native.Nat.{◌+◌}
use lib.ListN.{take, drop}
use Rattle.timecode.proofs.Search.{Comparing}
use Rattle.timecode.proofs.Bits.stands_at.Given as goal

abbrev pub invariant-loop-i : goal.invariant-loop-i
invariant-loop-i l = Comparing (take 16 (drop (l.at + 64) l.self.list.now)) l.n l.i
