-- `fill` meets its contract: the cycles before the place reached have the level.
use Rattle.std.proofs.Common.{◌≡◌, ◌++◌, replicate, drop}
use Rattle.sender.proofs.fill.Given as goal

abbrev pub invariant-loop-cycle : goal.invariant-loop-cycle
invariant-loop-cycle l =
    l.cycle-items ≡ replicate l.cycle-index l.level ++ drop l.cycle-index l.fn.part
