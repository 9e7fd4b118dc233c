-- `put_time` meets its contract: four stores, one after another.
use mathlib.Core.Path.{◌≡◌}
use Prim.Native.Nat.{suc, ◌+◌}
use native.Mathlib.Omega.{arith}
use lib.ListN.{length-set}
use Rattle.timecode.proofs.put_time.Goals as goal

pub bounds-out-at-2 : goal.bounds-out-at-2
bounds-out-at-2 c = rw length-set (omega (arith, c.requires))

pub bounds-out-at-3 : goal.bounds-out-at-3
bounds-out-at-3 c = rw (length-set, length-set) (omega (arith, c.requires))

pub bounds-out-at-4 : goal.bounds-out-at-4
bounds-out-at-4 c = rw (length-set, length-set, length-set) (omega (arith, c.requires))

pub returns : goal.returns
returns c =
    let at = c.args.at in
    let one : suc at ≡ at + 1 = omega arith in
    let two : suc (at + 1) ≡ at + 2 = omega arith in
    let three : suc (at + 2) ≡ at + 3 = omega arith in
    rw (one, two, three)
