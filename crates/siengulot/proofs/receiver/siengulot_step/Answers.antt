-- `siengulot_step` meets its contract: numbers that make no receiver are refused, and otherwise what the operation
-- brings is handed over.
use Rattle.siengulot.proofs.Brought.{step_refused, step_brought}
use Rattle.siengulot.proofs.receiver.siengulot_step.Goals as goal

pub returns-in_default : goal.returns-in_default
returns-in_default c = step_refused _ c.in_default.ensures _ c.no_receiver.ensures

pub returns : goal.returns
returns c =
    let made = c.in-Some.ensures in
    step_brought _ c.in-Some.bare c.step-told.result made.0 made.1 c.hand_over.ensures _ c.step-told.ensures
