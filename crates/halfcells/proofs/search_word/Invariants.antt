-- `search_word` meets its contract: the cells left are the lowest bits of the word, twice as many as there are cells.
use Rattle.std.proofs.Common.{◌≡◌, ◌+◌, ◌-◌, ◌*◌}
use Rattle.halfcells.specs.HalfCells.{bits_of, no_edge_from}
use Rattle.halfcells.proofs.search_word.Given as goal

abbrev pub invariant-loop-cell : goal.invariant-loop-cell
invariant-loop-cell l =
    no_edge_from l.before (bits_of 16 l.word) ≡ l.cell + no_edge_from l.level (bits_of (16 - 2 * l.cell) l.word)
