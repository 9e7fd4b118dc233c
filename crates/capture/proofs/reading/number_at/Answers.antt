-- `number_at` meets its contract: what stands at the front of the bytes from the place on says the number or the
-- refusal.
use Rattle.std.proofs.Common.{sym, ap, ◌∙◌, arith}
use Rattle.measure.specs.Refusals.{denied}
use Rattle.capture.specs.Numbers.{placed, number_at}
use Rattle.capture.proofs.Fronts.{placed_fault}
use Rattle.capture.proofs.Places.{front_small}
use Rattle.capture.proofs.reading.number_at.Goals as goal

pub overflow_add-result : goal.overflow_add-result
overflow_add-result c =
    let f = front_small c.args.bytes.now c.args.at (λ i. omega (arith, c.type_inv.bytes i)) c.in-Ok.ensures in
    omega arith

pub returns-in-Ok : goal.returns-in-Ok
unfolding number_at
returns-in-Ok c = ap (placed c.args.at) c.in-Ok.ensures

pub returns-in-Err : goal.returns-in-Err
unfolding number_at
returns-in-Err c =
    ap (placed c.args.at) c.in-Err.ensures ∙ placed_fault c.args.at _ ∙ ap denied (sym c.at.ensures)
