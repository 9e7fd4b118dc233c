-- `number` meets its contract: each sign goes on with the number or ends it.
use Rattle.std.proofs.Common.{sym, ◌∙◌}
use Rattle.cases.proofs.Signs.{number_goes_on, number_ends, number_none}
use Rattle.cases.proofs.reading.number.Goals as goal

pub loop-sign-preserved : goal.loop-sign-preserved
loop-sign-preserved c =
    let on = number_goes_on _ _ _ _ c.in-Some.ensures.cases.0 c.in-Some-longer.more (sym c.in-Some-longer.ensures) in
    (sym on.0 ∙ c.loop-sign.invariant.0, sym on.1 ∙ c.loop-sign.invariant.1)

pub returns-in-None-clause-value : goal.returns-in-None-clause-value
returns-in-None-clause-value c =
    let ends = number_ends _ _ _ _ c.in-Some.ensures.cases.0 (sym c.in-None.ensures) in
    sym ends.0 ∙ c.loop-sign.invariant.0

pub returns-in-None-clause-rest : goal.returns-in-None-clause-rest
returns-in-None-clause-rest c =
    let ends = number_ends _ _ _ _ c.in-Some.ensures.cases.0 (sym c.in-None.ensures) in
    rw ends.1 at c.loop-sign.invariant.1

pub returns-clause-value : goal.returns-clause-value
returns-clause-value c = sym (number_none _ _ c.in_default.ensures.cases).0 ∙ c.loop-sign.invariant.0
