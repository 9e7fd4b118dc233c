-- `print` is safe: a capture's reads are given only where they fit the lent list.
use Rattle.std.proofs.Common.{sym, length-take-le}
use Rattle.rows.proofs.Rooms.{reads_fit}
use Rattle.rows.proofs.print.Goals as goal

pub slice_bounds-print_rows-end : goal.slice_bounds-print_rows-end
slice_bounds-print_rows-end g c = reads_fit _ _ _ c.in-Ok.summary c.in-Ok.ensures c.read_capture.auto.out

pub slice_bounds-print_rows-end-in-Ok : goal.slice_bounds-print_rows-end-in-Ok
slice_bounds-print_rows-end-in-Ok g c =
    sym (length-take-le c.in-Ok.summary.reads.0 c.read_capture.new.out
    (reads_fit _ _ _ c.in-Ok.summary c.in-Ok.ensures c.read_capture.auto.out))
