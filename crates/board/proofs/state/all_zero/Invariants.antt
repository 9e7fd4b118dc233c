-- `all_zero` meets its contract: the bits of the entries looked at so far, taken together, are 0 where all of them are.
use Rattle.std.proofs.Common.{◌≡◌, ◌&&◌, drop, eqb}
use Rattle.board.specs.WellFormed.{all_zero}
use Rattle.board.proofs.state.all_zero.Given as goal

abbrev pub invariant-loop-entry : goal.invariant-loop-entry
invariant-loop-entry l = (eqb l.all 0 && all_zero (drop l.entry-index l.entries)) ≡ all_zero l.entries
