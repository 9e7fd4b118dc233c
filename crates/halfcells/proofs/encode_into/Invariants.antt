-- `encode_into` meets its contract: the words of the bytes left are still to be stored.
use Rattle.std.proofs.Common.{◌≡◌, ◌+◌, length, drop}
use Rattle.std.specs.Slice.Iter.{chunks_exact_rest, chunks_exact_size}
use Rattle.measure.proofs.Stores.{Stored}
use Rattle.halfcells.specs.HalfCells.{words_from, words_of}
use Rattle.halfcells.proofs.encode_into.Given as goal

abbrev pub invariant-loop-eight : goal.invariant-loop-eight
invariant-loop-eight l =
    let left = chunks_exact_rest l.eight-iterator in
    (chunks_exact_size l.eight-iterator ≡ 8)
    × (left ≡ drop l.at l.bytes)
    × (l.at + length left ≡ length l.bytes)
    × Stored l.initial.out 0 (words_of l.bytes) l.out l.at (words_from l.level left)
