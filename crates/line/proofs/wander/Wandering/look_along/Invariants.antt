-- `look_along` meets its contract: a read under way stays the same read with each cycle looked at, and it ends with the
-- first that does not end before it.
use Rattle.std.proofs.Common.{◌≡◌, ℕ, ◌+◌, ◌-◌, ◌<◌, ◌≤◌, length, drop}
use Rattle.line.specs.Warp.{look, dropped}
use Rattle.line.specs.Looking.{UnderWay}
use Rattle.line.specs.Running.{clock_of}
use Rattle.line.proofs.wander.Wandering.look_along.Given as goal

abbrev pub invariant-loop-over : goal.invariant-loop-over
invariant-loop-over l =
    (clock_of 1 0 l.fn.self.cycles.now l.next ≡ l.over)
    × ((k : ℕ) → k + 1 ≡ l.next → clock_of 1 0 l.fn.self.cycles.now k ≡ l.begun) × (0 < l.next)
    × (l.next ≤ length l.fn.self.wave.now)
    × UnderWay (clock_of 1 0 l.fn.self.cycles.now) l.until l.fn.self.wave.now
    (look (clock_of 1 0 l.fn.self.cycles.now) l.until l.i (drop l.i l.fn.self.wave.now))
    (l.i + dropped (clock_of 1 0 l.fn.self.cycles.now) l.until l.i (drop l.i l.fn.self.wave.now)) l.level l.next

abbrev pub decreases-loop-over : goal.decreases-loop-over
decreases-loop-over l = length l.fn.self.wave.now - l.next
