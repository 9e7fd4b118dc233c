-- `Plan::write` meets its contract: the waves of the rows left are still to be stored.
use Rattle.std.proofs.Common.{◌≡◌, ◌*◌, length}
use Rattle.std.specs.Iterator.Adapters.{zip_first, zip_second}
use Rattle.std.specs.Slice.Iter.{iter_rest, chunks_exact_rest, chunks_exact_size}
use Rattle.measure.proofs.Stores.{Stored}
use Rattle.sender.specs.Sending.{plan_wave, rows_of}
use Rattle.sender.proofs.Plan.write.Given as goal

abbrev pub invariant-loop-lead : goal.invariant-loop-lead
invariant-loop-lead l =
    let a = l.self.cell.a.0 in
    let b = l.self.cell.b.0 in
    let leads = iter_rest (zip_first l.lead-iterator) in
    let bits = chunks_exact_rest (zip_second l.lead-iterator) in
    (chunks_exact_size (zip_second l.lead-iterator) ≡ l.self.n)
    × (length bits ≡ length leads * l.self.n)
    × Stored l.initial.out 0 (plan_wave a b (rows_of l.self.n l.self.leads.now l.self.bits.now)) l.out l.at (plan_wave a b (rows_of l.self.n leads bits))
