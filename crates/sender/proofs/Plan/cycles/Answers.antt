-- `Plan::cycles` meets its contract: each turn adds a row's cycles, and no sum passes 1,024 rows of the longest.
use Rattle.std.proofs.Common.{◌≡◌, arith, length}
use Rattle.sender.proofs.Plans.{total_end, length_plan}
use Rattle.sender.proofs.Ranged.{pads_most, plan_bounded}
use Rattle.sender.proofs.Plan.cycles.Goals as goal

pub cycles-cycles-requires : goal.cycles-cycles-requires
cycles-cycles-requires c =
    let plan = c.args.self in
    let ok = plan_bounded plan.cell.a.0 plan.cell.b.0 plan.n plan.leads.now plan.bits.now plan.in_range in
    (ok.a_most, ok.b_most, pads_most plan.leads.now ok.leads_padded c.loop-lead.lead-index (omega arith), ok.n_most)

pub returns : goal.returns
returns c =
    let plan = c.args.self in
    let ok = plan_bounded plan.cell.a.0 plan.cell.b.0 plan.n plan.leads.now plan.bits.now plan.in_range in
    let leads = plan.leads.now in
    let all : c.loop-lead.lead-index ≡ length leads = omega arith in
    let sum = rw all at c.loop-lead.invariant.1 in
    omega (
      arith,
      length_plan plan.cell.a.0 plan.cell.b.0 plan.n leads plan.bits.now ok.bits_fit,
      total_end leads (length leads) (omega arith),
    )
