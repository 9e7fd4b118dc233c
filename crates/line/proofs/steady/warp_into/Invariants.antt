-- `warp_into` meets its contract: what is written, followed by the reads to come, is the warp of the wave.
use Rattle.std.proofs.Common.{◌≡◌, ◌*◌, ◌+◌}
use Rattle.line.specs.Warp.{cycle_start, read_start}
use Rattle.line.proofs.WarpRun.{Run}
use Rattle.line.proofs.steady.warp_into.Given as goal

abbrev pub invariant-loop-slot : goal.invariant-loop-slot
invariant-loop-slot l =
    Run (cycle_start l.timing.w.0) (read_start l.timing.p.0 l.timing.r.0) l.wave l.initial.slot-items l.slot-items
    l.first.0 l.slot-index
    × (read_start l.timing.p.0 l.timing.r.0 l.slot-index ≡ l.t) × ((l.first.0 + 1) * l.timing.w.0 ≡ l.end.0)
