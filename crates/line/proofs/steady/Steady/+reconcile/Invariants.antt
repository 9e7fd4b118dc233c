-- The measure of `reconcile` is the number of cycles left.
use Rattle.std.proofs.Common.{◌-◌, length}
use Rattle.line.proofs.steady.Steady.+reconcile.Given as goal

abbrev pub decreases-reconcile : goal.decreases-reconcile
decreases-reconcile l = length l.self.now.wave.now - l.looking.next.0
