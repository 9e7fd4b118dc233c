-- `fill` meets its contract: the entries before the place reached are the level.
use Rattle.std.proofs.Common.{◌≡◌, ◌++◌, replicate, drop}
use Rattle.capture.proofs.reading.fill.Given as goal

abbrev pub invariant-loop-entry : goal.invariant-loop-entry
invariant-loop-entry l =
    l.entry-items ≡ replicate l.entry-index l.level ++ drop l.entry-index l.fn.entries
