-- `four_numbers` meets its contract: each number that fits leads to the next, and the first that does not is handed on.
use Rattle.capture.proofs.Headings.{heading_no_k, heading_no_n, heading_no_q, heading_no_level, heading_is}
use Rattle.capture.proofs.reading.four_numbers.Goals as goal

pub returns-in_default : goal.returns-in_default
returns-in_default c =
    heading_no_k c.args.bytes.now _ _ (rw c.unwrap_err.ensures at c.fitting_at-first.ensures)

pub returns-in_default-second : goal.returns-in_default-second
returns-in_default-second c =
    heading_no_n c.args.bytes.now _ _ c.in-Ok.ensures
    (rw c.unwrap_err-in_default-second.ensures at c.fitting_at-second.ensures)

pub returns-in_default-third : goal.returns-in_default-third
returns-in_default-third c =
    heading_no_q c.args.bytes.now _ _ c.in-Ok.ensures c.in-Ok-second.ensures
    (rw c.unwrap_err-in_default-third.ensures at c.fitting_at-third.ensures)

pub returns-in_default-fourth : goal.returns-in_default-fourth
returns-in_default-fourth c =
    heading_no_level c.args.bytes.now _ _ c.in-Ok.ensures c.in-Ok-second.ensures c.in-Ok-third.ensures
    (rw (c.from.ensures, c.unwrap_err-in_default-fourth.ensures) at c.fitting_at-fourth.ensures)

pub returns : goal.returns
returns c =
    heading_is c.args.bytes.now c.in-Ok.ensures c.in-Ok-second.ensures c.in-Ok-third.ensures
    (rw c.from.ensures at c.in-Ok-fourth.ensures)
