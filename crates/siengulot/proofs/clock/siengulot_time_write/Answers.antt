-- `siengulot_time_write` meets its contract: numbers that are no bytes are refused before the operation is asked, as it
-- would refuse them.
use Rattle.timecode.proofs.TimeLaws.{unfit_refused}
use Rattle.siengulot.specs.Crossing.{crossed}
use Rattle.siengulot.proofs.Across.{across}
use Rattle.siengulot.proofs.clock.siengulot_time_write.Goals as goal

pub returns-in_default : goal.returns-in_default
returns-in_default c = across crossed (unfit_refused _ _ _ _ _ c.in_default.ensures) c.refuses.ensures
