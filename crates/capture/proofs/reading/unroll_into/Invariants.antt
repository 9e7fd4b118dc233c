-- `unroll_into` meets its contract: each turn stores one run, and the runs still to come are known to be good.
use Rattle.std.proofs.Common.{◌-◌, length}
use Rattle.capture.proofs.Unrolling.{Unrolled}
use Rattle.capture.proofs.reading.unroll_into.Given as goal

abbrev pub invariant-loop-at : goal.invariant-loop-at
invariant-loop-at l =
    Unrolled l.bytes l.from l.level l.initial.out l.out l.at l.done l.current

abbrev pub decreases-loop-at : goal.decreases-loop-at
decreases-loop-at l = length l.bytes - l.at
