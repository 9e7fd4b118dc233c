-- `siengulot_time_read` meets its contract: the operation's answer crosses.
use Rattle.siengulot.specs.Crossing.{crossed}
use Rattle.siengulot.proofs.Across.{across}
use Rattle.siengulot.proofs.clock.siengulot_time_read.Goals as goal

pub returns : goal.returns
returns c = across crossed c.read_times-answer.ensures c.of_times.ensures
