-- `fill` meets its contract: the loop's invariant is that of a page that is being filled.
use Prim.Native.Nat.{◌-◌}
use lib.ListN.{length}
use Rattle.rows.specs.Turns.{walk_of}
use Rattle.rows.proofs.Filling.{Filling}
use Rattle.rows.proofs.fill.Given as goal

abbrev pub invariant-loop-page : goal.invariant-loop-page
invariant-loop-page l = Filling (walk_of l.initial.walk) l.reads l.initial.page l.page (walk_of l.walk) l.bytes

abbrev pub decreases-loop-page : goal.decreases-loop-page
decreases-loop-page l = length l.reads - l.walk.place.0
