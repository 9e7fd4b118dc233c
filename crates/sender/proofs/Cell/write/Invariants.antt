-- `Cell::write` meets its contract: the cells of the bits left are still to be stored.
use Rattle.std.proofs.Common.{◌≡◌, ◌+◌, ◌*◌, ◌≤◌, drop}
use Rattle.measure.proofs.Stores.{Stored}
use Rattle.sender.specs.Sending.{cells}
use Rattle.sender.proofs.Cell.write.Given as goal

abbrev pub invariant-loop-bit : goal.invariant-loop-bit
invariant-loop-bit l =
    let a = l.self.a.0 in
    let b = l.self.b.0 in
    (l.before ≤ 1) × (l.place ≡ l.at + l.bit-index * (a + b))
    × Stored l.initial.out l.at (cells a b 1 l.bits) l.out l.place (cells a b l.before (drop l.bit-index l.bits))
