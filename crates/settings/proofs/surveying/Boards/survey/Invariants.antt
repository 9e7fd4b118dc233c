-- `survey` meets its contract: what is known of the boards so far goes on to the next, and after the last it is what is
-- told of the region.
use Rattle.settings.proofs.Going.{Going}
use Rattle.settings.proofs.surveying.Boards.survey.Given as goal

abbrev pub invariant-loop-i : goal.invariant-loop-i
invariant-loop-i l = Going l.self l.figures l.i
