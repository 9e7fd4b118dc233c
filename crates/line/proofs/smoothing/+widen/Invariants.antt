-- The measure of `widen` is what is missing to g.
use Rattle.std.proofs.Common.{◌-◌}
use Rattle.line.proofs.smoothing.+widen.Given as goal

abbrev pub decreases-widen : goal.decreases-widen
decreases-widen l = l.g - l.reach
