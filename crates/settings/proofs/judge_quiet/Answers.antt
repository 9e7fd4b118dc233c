-- `judge_quiet` meets its contract, as `judge` does.
use Rattle.std.proofs.Common.{sym}
use Rattle.settings.specs.Answers.{quiet_judgement, quiet_judged_as}
use Rattle.settings.proofs.InRange.{turned_away}
use Rattle.settings.proofs.Judging.{quiet_judged}
use Rattle.settings.proofs.judge_quiet.Goals as goal

pub returns-in_err-settings : goal.returns-in_err-settings
unfolding quiet_judgement
returns-in_err-settings c =
    let out =
    turned_away quiet_judged_as _ _ c.from_residual.result c.in_err-settings.was c.checked.ensures.err c.from_residual.ensures.1 in
    rw out.0 (sym out.1)

pub returns : goal.returns
returns c =
    let s = c.in_ok-settings.settings in
    let is = c.in_ok-settings.ensures.ok in
    rw (← is.0, ← is.1, ← is.2, ← is.3, ← is.4)
    (quiet_judged _ _ _ _ _ _ _ s.in_range c.margins-margins.ensures c.accepted.ensures c.on.ensures)
