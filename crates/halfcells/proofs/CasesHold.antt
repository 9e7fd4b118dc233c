-- The definitions compute to what the rules print.
use mathlib.Core.Path.{refl}
use Rattle.measure.specs.Table.{Agree}
use Rattle.sender.specs.Sending.{cells}
use Rattle.halfcells.specs.HalfCells.{bits_of, from_bits, high_word, words_from, half_cells, no_edge_from}
use Rattle.halfcells.specs.HalfCells.{cell_bits, byte_of, bytes_of}
use Rattle.halfcells.specs.Answers.{encoded, decoded}
use Rattle.halfcells.specs.Cases.{cases}

pub cases_hold : Agree cases
unfolding encoded decoded cells bits_of from_bits high_word words_from half_cells no_edge_from cell_bits byte_of
    bytes_of
cases_hold = (refl, (refl, (refl, (refl, (refl, (refl, tt))))))
