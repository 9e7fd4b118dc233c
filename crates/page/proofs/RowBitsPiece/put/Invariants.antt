-- `put` meets its contract: each bit before this one stands in its place, as a byte.
use Rattle.std.proofs.Common.{◌≡◌, ℕ, ◌<◌, get_or}
use Rattle.board.specs.Packed.{unpacked}
use Rattle.text.specs.Decimal.{digit}
use Rattle.page.proofs.RowBitsPiece.put.Given as goal

abbrev pub invariant-loop-i : goal.invariant-loop-i
invariant-loop-i l = (k : ℕ) → k < l.i → get_or l.part k 0 ≡ digit (get_or (unpacked 8 l.self.packed.now) k 0)
