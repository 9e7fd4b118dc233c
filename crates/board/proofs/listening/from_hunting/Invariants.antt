-- `from_hunting` meets its contract: until the run is q a read changes the run alone, and with that read the mode is
-- ready.
use Rattle.std.proofs.Common.{◌≡◌, ◌-◌, ◌<◌, ◌≤◌, [], length, drop}
use Rattle.board.specs.declared.Receiver.{Receiver}
use Rattle.board.specs.Rows.{run_of, hunting}
use Rattle.board.specs.Packed.{kept, rules_of}
use Rattle.board.specs.Listening.{heard_from}
use Rattle.board.proofs.listening.from_hunting.Given as goal

abbrev pub invariant-loop-i : goal.invariant-loop-i
invariant-loop-i l =
    (l.i ≤ length l.reads) × (l.equal < l.q) × (kept [] ≡ l.bits)
    × ((x : Receiver)
    → heard_from x (rules_of l.settings) (hunting (run_of l.fn.start.numbers.run.0 l.fn.start.numbers.runlevel)) 0 l.reads
    ≡ heard_from x (rules_of l.settings) (hunting (run_of l.equal l.level)) l.i (drop l.i l.reads))

abbrev pub decreases-loop-i : goal.decreases-loop-i
decreases-loop-i l = length l.reads - l.i
