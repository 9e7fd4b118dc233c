-- `send_plan` meets its contract: the tests that led to a return pick the definition's case.
use Rattle.std.proofs.Common.{◌≡◌, ◌∙◌, sym, true, List, ℕ, ◌≤◌, arith, length, lt-ltb, le-ltb}
use Rattle.measure.specs.Refusals.{entered, lent}
use Rattle.measure.specs.Ranges.{rows_most, entries_most}
use Rattle.measure.proofs.Checked.{good_entries, bad_entries}
use Rattle.sender.specs.Sending.{plan_wave, rows_of}
use Rattle.sender.specs.Answers.{plan_in_range, sent_plan}
use Rattle.sender.proofs.Placed.{lent_placed, lent_short}
use Rattle.sender.proofs.send_plan.Goals as goal

-- past the tests of the settings, the rows and the cycles, the answer is that of the entries and the lent output
judged : (a b n : ℕ) (leads bits out : List ℕ) (cycles : ℕ) → plan_in_range a b n leads bits ≡ true
    → length leads ≤ rows_most → length (plan_wave a b (rows_of n leads bits)) ≡ cycles → cycles ≤ entries_most
    → sent_plan a b n leads bits out ≡ entered 1 bits out (lent (plan_wave a b (rows_of n leads bits)) out)
unfolding sent_plan
judged a b n leads bits out cycles accepts few is most =
    rw (
      accepts,
      le-ltb rows_most (length leads) few,
      le-ltb entries_most (length (plan_wave a b (rows_of n leads bits))) (omega (arith, is)),
    )

pub returns-then-not-plan_in_range : goal.returns-then-not-plan_in_range
unfolding sent_plan
returns-then-not-plan_in_range c = simp (sym c.plan_in_range.ensures ∙ c.if-not-plan_in_range.true)

pub returns-then-leads-gt-ROWS_MOST : goal.returns-then-leads-gt-ROWS_MOST
unfolding sent_plan
returns-then-leads-gt-ROWS_MOST c =
    simp (
      sym c.plan_in_range.ensures ∙ c.if-not-plan_in_range.false,
      lt-ltb _ _ c.if-leads-gt-ROWS_MOST.true,
    )

pub returns-then-total-gt-ENTRIES_MOST : goal.returns-then-total-gt-ENTRIES_MOST
unfolding sent_plan
returns-then-total-gt-ENTRIES_MOST c =
    let accepts = sym c.plan_in_range.ensures ∙ c.if-not-plan_in_range.false in
    let plan = plan_wave c.args.cell.a.0 c.args.cell.b.0 (rows_of c.args.n c.args.leads.now c.args.bits.now) in
    simp (
      accepts,
      le-ltb _ _ c.if-leads-gt-ROWS_MOST.false,
      lt-ltb entries_most (length plan) (omega (arith, c.cycles-total.ensures)),
    )

pub returns-in_err-check_bits : goal.returns-in_err-check_bits
returns-in_err-check_bits c =
    let accepts = sym c.plan_in_range.ensures ∙ c.if-not-plan_in_range.false in
    judged _ _ _ _ _ _ _ accepts c.if-leads-gt-ROWS_MOST.false c.cycles-total.ensures c.if-total-gt-ENTRIES_MOST.false
    ∙ bad_entries _ _ _ _ c.from_residual.result _ _ c.in_err-check_bits.ensures c.from_residual.ensures.1

pub returns-then-out-total : goal.returns-then-out-total
returns-then-out-total c =
    let accepts = sym c.plan_in_range.ensures ∙ c.if-not-plan_in_range.false in
    judged _ _ _ _ _ _ _ accepts c.if-leads-gt-ROWS_MOST.false c.cycles-total.ensures c.if-total-gt-ENTRIES_MOST.false
    ∙ rw (good_entries _ _ _ c.in_ok-check_bits.ensures) (lent_short _ _ _ c.cycles-total.ensures c.if-out-total.true)

pub returns : goal.returns
returns c =
    let accepts = sym c.plan_in_range.ensures ∙ c.if-not-plan_in_range.false in
    judged _ _ _ _ _ _ _ accepts c.if-leads-gt-ROWS_MOST.false c.cycles-total.ensures c.if-total-gt-ENTRIES_MOST.false
    ∙ rw (good_entries _ _ _ c.in_ok-check_bits.ensures)
    (lent_placed _ _ _ _ c.cycles-total.ensures c.if-out-total.false c.write.ensures)
