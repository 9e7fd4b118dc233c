-- `Cell::write` meets its contract: the cells of the bits left are still to be stored.
use Rattle.std.proofs.Common.{sym, ◌++◌, ◌+◌, arith, get_or, replicate}
use Rattle.measure.proofs.Stores.{stored_part, stored_all}
use Rattle.sender.specs.Sending.{opposite, code_level}
use Rattle.sender.proofs.Cells.{cells_step, cells_end, length_cell, length_cells, code_level_most}
use Rattle.sender.proofs.Cell.write.Goals as goal

pub loop-bit-preserved : goal.loop-bit-preserved
loop-bit-preserved c =
    let written = c.write_one-before in
    let loop = c.loop-bit in
    let a = c.args.self.a.0 in
    let b = c.args.self.b.0 in
    let bits = c.args.bits.now in
    let i = loop.bit-index in
    let level = code_level loop.before (get_or bits i 0) in
    let cell = replicate a (opposite loop.before) ++ replicate b level in
    let size = length_cell a b (opposite loop.before) level in
    let most = code_level_most loop.before (get_or bits i 0) loop.invariant.0 in (
      rw written.ensures.0 most,
      omega arith,
      rw written.ensures.0
          (stored_part cell written.new.out (loop.place + a + b)
          (rw (cells_step a b loop.before bits i c.loop-bit-test.true) at loop.invariant.2)
          (sym written.ensures.1) (omega (arith, size))),
    )

pub returns : goal.returns
returns c =
    let loop = c.loop-bit in
    let a = c.args.self.a.0 in
    let b = c.args.self.b.0 in
    let none = cells_end a b loop.before c.args.bits.now loop.bit-index c.loop-bit-test.false in
    let done = rw none at loop.invariant.2 in
    (omega (arith, done.reach, length_cells a b 1 c.args.bits.now), sym (stored_all done))
