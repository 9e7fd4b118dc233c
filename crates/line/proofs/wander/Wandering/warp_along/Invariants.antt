-- `warp_along` meets its contract: what is written, followed by the reads to come, is the warp of the wave by the two
-- clocks that the lengths make.
use Rattle.std.proofs.Common.{◌≡◌}
use Rattle.line.specs.Running.{clock_of}
use Rattle.line.proofs.WarpRun.{Run}
use Rattle.line.proofs.wander.Wandering.warp_along.Given as goal

abbrev pub invariant-loop-j : goal.invariant-loop-j
invariant-loop-j l =
    Run (clock_of 1 0 l.self.cycles.now) (clock_of 1 l.fn.reads.p.0 l.fn.reads.lengths.now) l.self.wave.now
    l.initial.out l.out l.first.0 l.j
    × (clock_of 1 l.fn.reads.p.0 l.fn.reads.lengths.now l.j ≡ l.t)
    × (clock_of 1 0 l.self.cycles.now l.first.0 ≡ l.start.0)
