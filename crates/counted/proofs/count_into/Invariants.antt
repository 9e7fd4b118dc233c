-- `count_into` meets its contract: what is written, followed by what is found in the reads left, is all that is found.
use Rattle.counted.proofs.Counting.{Counting}
use Rattle.counted.proofs.count_into.Given as goal

abbrev pub invariant-loop-i : goal.invariant-loop-i
invariant-loop-i l =
    Counting l.k.0 l.n l.level l.reads l.initial.front l.front l.held l.left l.i
