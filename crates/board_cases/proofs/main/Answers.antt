-- `main` is safe: its lists are as long as they are lent.
use Prim.Native.Nat.{ℕ}
use mathlib.Core.Path.{sym}
use lib.ListN.{length-replicate}
use Rattle.board_cases.proofs.main.Goals as goal

pub slice_bounds-start-end-2 : goal.slice_bounds-start-end-2
slice_bounds-start-end-2 c = sym (length-replicate {A = ℕ} 1048584 0)

pub slice_bounds-start-end-3 : goal.slice_bounds-start-end-3
slice_bounds-start-end-3 c = sym (length-replicate {A = ℕ} 1048584 0)
