-- `from_ready` meets its contract: a read of the quiet's level leaves ready as it is, and another is the mark, from
-- which counting goes on.
use Rattle.std.proofs.Common.{◌≡◌, ◌-◌, ◌≤◌, [], length, drop}
use Rattle.board.specs.declared.Receiver.{Receiver}
use Rattle.board.specs.Rows.{ready}
use Rattle.board.specs.Packed.{kept, rules_of}
use Rattle.board.specs.Listening.{heard_from}
use Rattle.board.proofs.listening.from_ready.Given as goal

abbrev pub invariant-loop-i : goal.invariant-loop-i
invariant-loop-i l =
    (l.i ≤ length l.reads) × (kept [] ≡ l.bits)
    × ((x : Receiver)
    → heard_from x (rules_of l.settings) (ready l.settings.q.0 l.quiet) l.from (drop l.from l.reads)
    ≡ heard_from x (rules_of l.settings) (ready l.settings.q.0 l.quiet) l.i (drop l.i l.reads))

abbrev pub decreases-loop-i : goal.decreases-loop-i
decreases-loop-i l = length l.reads - l.i
