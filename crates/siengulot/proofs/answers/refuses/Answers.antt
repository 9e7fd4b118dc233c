-- `refuses` meets its contract: number and place are those of the refusal.
use Rattle.siengulot.proofs.answers.refuses.Goals as goal

pub returns : goal.returns
returns c = rw (c.number.ensures, c.place.ensures)
