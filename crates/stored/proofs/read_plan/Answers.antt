-- `read_plan` meets its contract: the tests that led to a return pick the definition's case.
use Rattle.std.proofs.Common.{◌≡◌, sym, ◌∙◌, true, List, ℕ, ltb, arith, length, lt-ltb, le-ltb}
use Rattle.measure.specs.Choose.{choose}
use Rattle.measure.specs.Lists.{first_above, onto}
use Rattle.measure.specs.Ranges.{pad_most, rows_most}
use Rattle.measure.specs.Refusals.{given, refused, limited}
use Rattle.stored.specs.Stored.{joined, dropped}
use Rattle.stored.specs.Answers.{stored_in_range, read_plan}
use Rattle.stored.proofs.Joins.{length_joined}
use Rattle.stored.proofs.Over.{all_bounded}
use Rattle.stored.proofs.read_plan.Goals as goal

rows : (leads trails : List ℕ) → stored_in_range leads trails ≡ true → length (joined leads trails) ≡ length leads
rows leads trails accepts = length_joined 0 leads trails (all_bounded leads trails accepts).same

-- past the tests of the pads, the answer is that of the number of rows and of the lent output
judged : (leads trails out : List ℕ) → stored_in_range leads trails ≡ true
    → length leads ≡ first_above pad_most (joined leads trails)
    → read_plan leads trails out
    ≡ limited rows_most (length leads) out
    (choose (ltb (length out) (length leads)) (refused 4 0, out)
    (given (record { rows = length leads; dropped = dropped trails }), onto (joined leads trails) out))
unfolding read_plan
judged leads trails out accepts none =
    rw (accepts, rows leads trails accepts, ← none, le-ltb (length leads) (length leads) (omega arith))

pub returns-then-not-in_range : goal.returns-then-not-in_range
unfolding read_plan
returns-then-not-in_range c = simp (sym c.in_range.ensures ∙ c.if-not-in_range.true)

pub returns-in-Some : goal.returns-in-Some
unfolding read_plan
returns-in-Some c =
    let accepts = sym c.in_range.ensures ∙ c.if-not-in_range.false in
    simp (
      accepts,
      rows c.args.leads.now c.args.trails.now accepts,
      ← c.in-Some.ensures.1,
      lt-ltb c.in-Some.row (length c.args.leads.now) c.in-Some.ensures.0,
    )

pub returns-then-leads-gt-ROWS_MOST : goal.returns-then-leads-gt-ROWS_MOST
returns-then-leads-gt-ROWS_MOST c =
    let accepts = sym c.in_range.ensures ∙ c.if-not-in_range.false in
    judged _ _ _ accepts c.in_default.ensures ∙ rw (lt-ltb _ _ c.if-leads-gt-ROWS_MOST.true)

pub returns-then-out-leads : goal.returns-then-out-leads
returns-then-out-leads c =
    let accepts = sym c.in_range.ensures ∙ c.if-not-in_range.false in
    judged _ _ _ accepts c.in_default.ensures
    ∙ rw (le-ltb _ _ c.if-leads-gt-ROWS_MOST.false, lt-ltb _ _ c.if-out-leads.true)

pub returns : goal.returns
returns c =
    let accepts = sym c.in_range.ensures ∙ c.if-not-in_range.false in
    let written = c.join_into-left in
    judged _ _ _ accepts c.in_default.ensures
    ∙ rw (le-ltb _ _ c.if-leads-gt-ROWS_MOST.false, le-ltb _ _ c.if-out-leads.false, written.ensures.0, written.ensures.1)
