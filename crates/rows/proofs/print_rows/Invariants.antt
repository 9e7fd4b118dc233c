-- `print_rows` is safe and ends: a page has room for every line, and each page but the last leaves fewer reads.
use Prim.Native.Nat.{◌-◌}
use mathlib.Core.Path.{◌≡◌}
use lib.ListN.{length}
use Rattle.rows.specs.Turns.{walk_of, Ready}
use Rattle.rows.proofs.print_rows.Given as goal

abbrev pub invariant-loop-next : goal.invariant-loop-next
invariant-loop-next g l = (length l.page ≡ 16384) × Ready (walk_of l.walk) (length l.reads)

abbrev pub decreases-loop-next : goal.decreases-loop-next
decreases-loop-next g l = length l.reads - l.walk.place.0
