-- `main` is safe: its lists are as long as they are lent.
use Prim.Native.Nat.{ℕ}
use mathlib.Core.Path.{sym}
use Rattle.rows.proofs.Rooms.{zeros_most}
use lib.ListN.{length-replicate}
use Rattle.rows.proofs.main.Goals as goal

pub slice_bounds-print-end-2 : goal.slice_bounds-print-end-2
slice_bounds-print-end-2 c = sym (length-replicate {A = ℕ} 1048576 0)

pub print-requires : goal.print-requires
print-requires c = zeros_most 1048576
