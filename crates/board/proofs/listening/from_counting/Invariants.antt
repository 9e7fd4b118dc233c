-- `from_counting` meets its contract: a turn takes a cell, from its mark to the next, and the outcome from the start is
-- the outcome from there.
use Rattle.std.proofs.Common.{◌≡◌, ◌-◌, ◌≤◌, length, drop}
use Rattle.board.specs.declared.Mode.TheVariants.{Counting}
use Rattle.board.specs.declared.Receiver.{Receiver}
use Rattle.board.specs.Packed.{rules_of, state_of}
use Rattle.board.specs.Listening.{keeping, Keeps, heard_from}
use Rattle.board.proofs.listening.from_counting.Given as goal

abbrev pub invariant-loop-end : goal.invariant-loop-end
invariant-loop-end l =
    (l.at ≤ length l.reads) × (l.numbers.mode ≡ Counting) × Keeps (rules_of l.settings) l.numbers l.bits
    × ((x : Receiver)
    → heard_from x (rules_of l.settings) (state_of (keeping (rules_of l.settings) l.initial.numbers l.initial.bits)) l.from (drop l.from l.reads)
    ≡ heard_from x (rules_of l.settings) (state_of (keeping (rules_of l.settings) l.numbers l.bits)) l.at (drop l.at l.reads))

abbrev pub decreases-loop-end : goal.decreases-loop-end
decreases-loop-end l = length l.reads - l.at
