-- `smooth_into` meets its contract: each block writes the part of the smoothed wave that comes next.
use mathlib.Core.Path.{◌≡◌}
use Prim.Native.Nat.{◌-◌}
use lib.ListN.{length}
use Rattle.line.proofs.Blocks.{Further}
use Rattle.line.proofs.smoothing.smooth_into.Given as goal

abbrev pub invariant-loop-done : goal.invariant-loop-done
invariant-loop-done l =
    (length l.held ≡ 1088) × (length l.spare ≡ 1088) × Further l.g l.wave l.initial.out l.first l.out l.done

abbrev pub decreases-loop-done : goal.decreases-loop-done
decreases-loop-done l = length l.wave - l.done
