-- `times` is safe: no more entries are found than are passed.
use Rattle.std.proofs.Common.{◌≤◌}
use Rattle.cases.proofs.show.times.Given as goal

abbrev pub invariant-loop-other : goal.invariant-loop-other
invariant-loop-other l = l.found ≤ l.other-index
