-- `end` meets its contract: each bit is one byte of text.
use Rattle.std.proofs.Common.{take}
use Rattle.board.specs.Packed.{unpacked}
use Rattle.page.proofs.Bits.{text_length}
use Rattle.page.proofs.RowBitsPiece.end.Goals as goal

pub returns : goal.returns
returns c =
    rw (text_length (take c.args.self.count (unpacked 8 c.args.self.packed.now)), ← c.held.ensures) c.end_within.ensures
