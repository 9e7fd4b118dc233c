-- `Plan::write` meets its contract: the waves of the rows left are still to be stored.
use Rattle.std.proofs.Common.{◌≡◌, sym, ◌∙◌, arith, length, inl, inr}
use Rattle.std.proofs.lemmas.List.{take_all}
use Rattle.std.specs.Iterator.Adapters.{zip_first, zip_second}
use Rattle.std.specs.Slice.Iter.{iter_rest, chunks_exact_rest}
use Rattle.measure.proofs.Stores.{stored_none, stored_part, stored_all, stored_next}
use Rattle.sender.specs.Sending.{wave}
use Rattle.sender.proofs.Cells.{length_wave}
use Rattle.sender.proofs.Plans.{plan_next, bits_next, plan_end, leads_end}
use Rattle.sender.proofs.Ranged.{plan_bounded}
use Rattle.sender.proofs.Plan.write.Goals as goal

pub loop-lead-init : goal.loop-lead-init
loop-lead-init c =
    let plan = c.args.self in
    let ok = plan_bounded plan.cell.a.0 plan.cell.b.0 plan.n plan.leads.now plan.bits.now plan.in_range in
    let leads : iter_rest (zip_first c.into_iter-lead-iterator.result) ≡ plan.leads.now = cc in
    let bits : chunks_exact_rest (zip_second c.into_iter-lead-iterator.result) ≡ plan.bits.now = cc in
    (cc, rw (leads, bits) ok.bits_fit, rw (leads, bits) (stored_none _ _ _))

-- `take_all` lets the row be got in another way, so that the fault plan_first_row_again breaks the loop alone
pub write_wave-at-requires : goal.write_wave-at-requires
write_wave-at-requires c =
    let turn = c.in-Some.ensures.steps in
    let loop = c.loop-lead in
    let a = c.args.self.cell.a.0 in
    let b = c.args.self.cell.b.0 in
    let lead = c.in-Some.lead.now in
    let row = c.in-Some.row.now in
    let next =
    plan_next a b c.args.self.n lead row _ _ _ _ turn.0 turn.1.1.0 (turn.1.1.1 ∙ loop.invariant.0) loop.invariant.2 in
    let room = stored_next (wave a b lead row) _ next (omega arith) in
    grind (arith, length_wave a b lead row, room, take_all)

pub loop-lead-preserved : goal.loop-lead-preserved
loop-lead-preserved c =
    let turn = c.in-Some.ensures.steps in
    let loop = c.loop-lead in
    let written = c.write_wave-at in
    let a = c.args.self.cell.a.0 in
    let b = c.args.self.cell.b.0 in
    let lead = c.in-Some.lead.now in
    let row = c.in-Some.row.now in
    let long = turn.1.1.1 ∙ loop.invariant.0 in
    let next = plan_next a b c.args.self.n lead row _ _ _ _ turn.0 turn.1.1.0 long loop.invariant.2 in (
      turn.1.0 ∙ loop.invariant.0,
      bits_next c.args.self.n lead row _ _ _ _ turn.0 turn.1.1.0 long loop.invariant.1,
      stored_part (wave a b lead row) written.new.out written.result next (grind (arith, written.ensures.1, take_all))
          (grind (arith, length_wave a b lead row, take_all)),
    )

pub returns : goal.returns
returns c =
    let loop = c.loop-lead in
    let leads = iter_rest (zip_first loop.lead-iterator) in
    let bits = chunks_exact_rest (zip_second loop.lead-iterator) in
    let none : length leads ≡ 0 =
    elim c.in-None.ensures.steps [
      | inl p ↦ p.1.0
      | inr p ↦ leads_end c.args.self.n leads bits loop.invariant.1 (omega (arith, p.1.1.0, loop.invariant.0))
    ] in
    sym (stored_all (rw (plan_end c.args.self.cell.a.0 c.args.self.cell.b.0 c.args.self.n leads bits none) at loop.invariant.2))
