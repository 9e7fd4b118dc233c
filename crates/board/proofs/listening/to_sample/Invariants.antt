-- `to_sample` meets its contract: it is a search, in which each read before the sample leaves one fewer.
use Rattle.std.proofs.Common.{◌-◌, ◌≤◌, length}
use Rattle.board.specs.Rows.{run_of, counting}
use Rattle.board.specs.Packed.{rules_of}
use Rattle.board.proofs.SearchLaws.{Searched}
use Rattle.board.proofs.listening.to_sample.Given as goal

abbrev pub invariant-loop-i : goal.invariant-loop-i
invariant-loop-i l =
    (1 ≤ l.left)
    × Searched (rules_of l.settings) l.from l.reads (λ bits. counting l.start.left.0 l.start.level (run_of l.start.run.0 l.start.runlevel) bits) l.i (run_of l.run l.runlevel)
    (λ bits. counting l.left l.start.level (run_of l.run l.runlevel) bits)

abbrev pub decreases-loop-i : goal.decreases-loop-i
decreases-loop-i l = length l.reads - l.i
