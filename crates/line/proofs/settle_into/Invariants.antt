-- `settle_into` meets its contract: what is written, followed by the reads left settled by the choices left, is the
-- whole stream settled.
use Rattle.std.proofs.Common.{drop}
use Rattle.std.specs.Slice.Iter.{iter_rest}
use Rattle.measure.proofs.Wrote.{Wrote}
use Rattle.line.specs.Settle.{settle}
use Rattle.line.proofs.settle_into.Given as goal

abbrev pub invariant-loop-i : goal.invariant-loop-i
invariant-loop-i l =
    Wrote (settle l.reads l.fn.choices) l.initial.out l.out (settle (drop l.i l.reads) (iter_rest l.left)) l.i
