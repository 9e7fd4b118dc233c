-- The definitions compute to what the rules print.
use Rattle.std.proofs.Common.{refl}
use Rattle.measure.specs.Table.{Agree}
use Rattle.capture.specs.Numbers.{following, group, number_at}
use Rattle.capture.specs.Capture.{fitting_at, four_numbers, some_runs_from, runs_from, capture, reads_of_runs}
use Rattle.board.specs.Rows.{next}
use Rattle.board.specs.Feeding.{reports_by}
use Rattle.text.specs.Decimal.{decimal_in}
use Rattle.page.specs.Words.{bits_text}
use Rattle.page.specs.Lines.{event_lines, rows_in, output}
use Rattle.page.specs.Cases.{cases}

pub cases_hold : Agree cases
unfolding following group number_at fitting_at four_numbers some_runs_from runs_from capture reads_of_runs next reports_by
    decimal_in bits_text event_lines rows_in output
cases_hold = (refl, (refl, (refl, tt)))
