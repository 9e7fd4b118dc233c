-- `siengulot_counted` meets its contract: a level that is no byte is refused before the operation is asked, as it would
-- refuse it.
use Rattle.std.proofs.Common.{arith}
use Rattle.siengulot.specs.Crossing.{crossed_bits}
use Rattle.siengulot.proofs.Across.{across}
use Rattle.siengulot.proofs.Levels.{no_level}
use Rattle.siengulot.proofs.link.siengulot_counted.Goals as goal

pub returns-in_default : goal.returns-in_default
returns-in_default c = let h = c.in_default.ensures in across crossed_bits (no_level _ _ _ _ _ (omega (arith, h))) c.refuses.ensures
