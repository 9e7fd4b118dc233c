-- `Cell::write_wave` meets its contract: the lead pad is laid down, and the cells after it.
use Rattle.std.proofs.Common.{◌∙◌, ◌+◌, ◌-◌, sym, arith}
use Rattle.std.proofs.lemmas.List.{length-replicate}
use Rattle.sender.specs.Sending.{cells, pad, wave}
use Rattle.sender.proofs.Placed.{placed_next, filled}
use Rattle.sender.proofs.Cell.write_wave.Goals as goal

pub returns : goal.returns
unfolding wave
returns c =
    let args = c.args in
    let lead =
    filled args.out.now args.at (args.at + args.lead - args.at) args.lead 1 (omega arith) (omega arith)
    c.fill.ensures in (
      c.write.ensures.0,
      placed_next args.out.now _ args.at (args.at + args.lead) (pad args.lead)
          (cells args.self.a.0 args.self.b.0 1 args.bits.now)
          (sym lead) (rw length-replicate)
          ∙ c.write.ensures.1,
    )
