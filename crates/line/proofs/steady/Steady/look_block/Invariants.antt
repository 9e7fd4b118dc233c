-- `look_block` meets its contract: a read under way stays the same read with each cycle of the block.
use Rattle.std.proofs.Common.{◌≡◌, ◌*◌, ◌-◌, ◌≤◌, length}
use Rattle.line.specs.Warp.{cycle_start}
use Rattle.line.specs.Looking.{UnderWay, read_from, left_from}
use Rattle.line.proofs.steady.Steady.look_block.Given as goal

abbrev pub invariant-loop-at : goal.invariant-loop-at
invariant-loop-at l =
    (l.at.next.0 * l.fn.self.w.0 ≡ l.at.start.0) × (l.at.next.0 ≤ length l.fn.self.wave.now)
    × UnderWay (cycle_start l.fn.self.w.0) l.fn.t.0 l.fn.self.wave.now
    (read_from l.fn.self.w.0 l.fn.t.0 l.fn.self.wave.now l.initial.at.level l.initial.at.next.0)
    (left_from l.fn.self.w.0 l.fn.t.0 l.fn.self.wave.now l.initial.at.next.0) l.at.level l.at.next.0

abbrev pub decreases-loop-at : goal.decreases-loop-at
decreases-loop-at l = l.stop - l.at.start.0
