-- `by_lists` is safe and ends: each turn uses a read, and no more than are left.
use Rattle.std.proofs.Common.{length, ◌-◌, ◌≤◌}
use Rattle.board_cases.proofs.hearing.by_lists.Given as goal

abbrev pub invariant-loop-at : goal.invariant-loop-at
invariant-loop-at g l = l.at ≤ length l.reads

abbrev pub decreases-loop-at : goal.decreases-loop-at
decreases-loop-at g l = length l.reads - l.at
