-- `to_mark` meets its contract: it is a search, in which a read at the level kept changes the run alone.
use Rattle.std.proofs.Common.{◌-◌, length}
use Rattle.board.specs.Rows.{run_of, waiting}
use Rattle.board.specs.Packed.{rules_of}
use Rattle.board.proofs.SearchLaws.{Searched}
use Rattle.board.proofs.listening.to_mark.Given as goal

abbrev pub invariant-loop-i : goal.invariant-loop-i
invariant-loop-i l =
    Searched (rules_of l.settings) l.from l.reads (λ bits. waiting l.start.level (run_of l.start.run.0 l.start.runlevel) bits) l.i (run_of l.run l.runlevel)
    (λ bits. waiting l.start.level (run_of l.run l.runlevel) bits)

abbrev pub decreases-loop-i : goal.decreases-loop-i
decreases-loop-i l = length l.reads - l.i
