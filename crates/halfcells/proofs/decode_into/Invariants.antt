-- `decode_into` meets its contract: what is written, followed by the bytes of the words left, is the bytes of all.
use Rattle.std.proofs.Common.{drop}
use Rattle.measure.proofs.Wrote.{Wrote}
use Rattle.halfcells.specs.HalfCells.{bytes_of}
use Rattle.halfcells.proofs.decode_into.Given as goal

abbrev pub invariant-loop-at : goal.invariant-loop-at
invariant-loop-at l = Wrote (bytes_of l.words) l.initial.out l.out (bytes_of (drop l.at l.words)) l.at
