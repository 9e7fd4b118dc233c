-- `write_words` meets its contract: the words of the bytes left are still to be stored.
use Rattle.std.proofs.Common.{◌≡◌, ◌+◌, drop}
use Rattle.measure.proofs.Stores.{Stored}
use Rattle.halfcells.specs.HalfCells.{words_from}
use Rattle.halfcells.specs.Turns.{level_after}
use Rattle.halfcells.proofs.write_words.Given as goal

abbrev pub invariant-loop-i : goal.invariant-loop-i
invariant-loop-i l =
    let left = drop l.i l.bytes in
    Stored l.initial.out l.at (words_from l.fn.level l.bytes) l.out (l.at + l.i) (words_from l.level left)
    × (level_after l.fn.level l.bytes ≡ level_after l.level left)
