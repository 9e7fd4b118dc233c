-- `check` meets its contract: no header, or a header whose runs are walked.
use Rattle.std.proofs.Common.{sym, ap, ◌∙◌}
use Rattle.measure.proofs.Checked.{handed_on}
use Rattle.capture.specs.Answers.{checked, summed_up}
use Rattle.capture.proofs.Captures.{capture_refused, capture_found}
use Rattle.capture.proofs.reading.check.Goals as goal

pub returns-in_err-head : goal.returns-in_err-head
unfolding checked
returns-in_err-head c =
    ap summed_up (capture_refused c.args.bytes.now _ _ c.in_err-head.ensures)
    ∙ sym (handed_on _ _ _ c.from_residual.ensures.1)

pub returns : goal.returns
unfolding checked
returns c = ap summed_up (capture_found c.args.bytes.now _ c.in_ok-head.ensures) ∙ c.check_runs.ensures
