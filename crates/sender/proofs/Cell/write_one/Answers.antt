-- `Cell::write_one` meets its contract: the mark is laid down, and the code level after it.
use Rattle.std.proofs.Common.{◌∙◌, ◌+◌, ◌-◌, sym, arith, replicate}
use Rattle.std.proofs.lemmas.List.{length-replicate}
use lib.Seq.{length-sets}
use Rattle.sender.specs.Sending.{opposite, code_level}
use Rattle.sender.proofs.Placed.{placed_next, filled}
use Rattle.sender.proofs.Cell.write_one.Goals as goal

pub returns : goal.returns
returns c =
    let args = c.args in
    let a = args.self.a.0 in
    let b = args.self.b.0 in
    let level = c.code_level-level.result in
    let mark =
    filled args.out.now args.at (args.at + a - args.at) a (opposite args.before) (omega arith) (omega arith)
    c.fill.ensures in
    let code =
    filled _ (args.at + a) (args.at + a + b - (args.at + a)) b level (omega arith) (rw (mark, length-sets) (omega arith))
    c.fill-2.ensures in (
      c.code_level-level.ensures,
      placed_next args.out.now _ args.at (args.at + a) (replicate a (opposite args.before))
          (replicate b (code_level args.before args.bit))
          (sym mark) (rw length-replicate)
          ∙ rw (← c.code_level-level.ensures) (sym code),
    )
