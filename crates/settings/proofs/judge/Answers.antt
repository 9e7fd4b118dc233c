-- `judge` meets its contract: out of range it refuses, and otherwise the margins and their signs are the definition's.
use Rattle.std.proofs.Common.{arith}
use Rattle.settings.specs.Answers.{judgement}
use Rattle.settings.proofs.Judging.{judged}
use Rattle.settings.proofs.judge.Goals as goal

pub returns-in_default : goal.returns-in_default
unfolding judgement
returns-in_default c = grind (arith, c.in_default.ensures.err.1)

pub returns : goal.returns
returns c =
    let s = c.in-Ok.settings in
    let is = c.in-Ok.ensures.ok in
    rw (← is.0, ← is.1, ← is.2)
    (judged _ _ _ _ _ s.in_range c.margins-margins.ensures c.accepted.ensures c.on.ensures)
