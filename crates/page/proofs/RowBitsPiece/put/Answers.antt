-- `put` meets its contract: each bit before this one stands in its place, as a byte.
use Rattle.std.proofs.Common.{sym, arith}
use Rattle.board.proofs.PackedBits.{unpacked_binary}
use Rattle.text.proofs.PutLaws.{part_short}
use Rattle.page.proofs.Bits.{part_bit, bits_put}
use Rattle.page.proofs.RowBitsPiece.put.Goals as goal

pub bit_at-requires : goal.bit_at-requires
bit_at-requires c =
    omega (
      arith,
      part_bit c.args.self.count c.args.self.packed.now c.args.out.now c.args.at c.in-Some.end (sym c.in-Some.ensures)
          c.loop-i.i c.loop-i-test.true,
    )

pub overflow_add-byte : goal.overflow_add-byte
overflow_add-byte c = omega (arith, unpacked_binary 8 c.args.self.packed.now, c.bit_at.ensures)

pub returns-in-None : goal.returns-in-None
returns-in-None c = part_short _ _ _ (sym c.in-None.ensures)

pub returns-after-loop-i : goal.returns-after-loop-i
returns-after-loop-i c =
    bits_put c.args.self.count c.args.self.packed.now c.args.out.now c.args.at c.in-Some.end (sym c.in-Some.ensures)
    c.loop-i.part c.loop-i.auto.part (λ k h. c.loop-i.invariant k (omega arith))
