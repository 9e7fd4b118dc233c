-- `first_above` meets its contract: where the greatest entry keeps to the bound none passes it, and otherwise the
-- search finds it.
use mathlib.Core.Path.{sym}
use Rattle.measure.proofs.first_above.Goals as goal

pub returns-then-greatest-most : goal.returns-then-greatest-most
returns-then-greatest-most c = sym (c.greatest.ensures _ c.if-greatest-most.true)
