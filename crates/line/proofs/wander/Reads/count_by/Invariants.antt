-- `count_by` meets its contract: each turn adds a read's length, and the first read that ends too late is found, or
-- there is none.
use Rattle.std.proofs.Common.{◌≡◌, ℕ, suc, ◌<◌, ◌≤◌}
use Rattle.line.specs.Running.{clock_of}
use Rattle.line.proofs.wander.Reads.count_by.Given as goal

abbrev pub invariant-loop-j : goal.invariant-loop-j
invariant-loop-j l =
    (clock_of 1 l.fn.self.p.0 l.fn.self.lengths.now l.j ≡ l.t)
    × ((k : ℕ) → k < l.j → clock_of 1 l.fn.self.p.0 l.fn.self.lengths.now (suc k) ≤ l.fn.end.0)
