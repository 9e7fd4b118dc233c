-- `unroll_into` meets its contract: each turn stores one run, and the runs still to come are known to be good.
use Rattle.std.proofs.Common.{arith}
use Rattle.capture.proofs.Places.{number_on}
use Rattle.capture.proofs.Unrolling.{unrolled_none, unrolled_refused, unrolled_room, unrolled_one, unrolled_all}
use Rattle.capture.proofs.Unrolling.{filled_part}
use Rattle.capture.proofs.reading.unroll_into.Goals as goal

pub loop-at-init : goal.loop-at-init
loop-at-init c = unrolled_none _ _ _ _ c.requires.level_bound c.requires.out_value

pub returns-in_default : goal.returns-in_default
returns-in_default c = absurd (unrolled_refused c.loop-at.invariant c.loop-at-test.true _ _ c.in_default.ensures)

pub overflow_add-end : goal.overflow_add-end
overflow_add-end c =
    let r = unrolled_room c.loop-at.invariant _ c.loop-at-test.true c.in-Ok.ensures in
    omega arith

pub slice_bounds-fill-end : goal.slice_bounds-fill-end
slice_bounds-fill-end c =
    omega (
      arith,
      c.loop-at.invariant.stored.size,
      unrolled_room c.loop-at.invariant _ c.loop-at-test.true c.in-Ok.ensures,
    )

pub overflow_sub-current : goal.overflow_sub-current
overflow_sub-current c = omega (arith, c.loop-at.invariant.bit, c.requires.level_bound)

pub loop-at-smaller : goal.loop-at-smaller
loop-at-smaller c = omega (arith, number_on _ _ _ c.in-Ok.ensures, c.loop-at-test.true)

pub loop-at-preserved : goal.loop-at-preserved
loop-at-preserved c =
    let room = unrolled_room c.loop-at.invariant _ c.loop-at-test.true c.in-Ok.ensures in
    unrolled_one c.loop-at.invariant _ c.loop-at-test.true c.in-Ok.ensures _
    (filled_part c.loop-at.out c.loop-at.done c.in-Ok.run'.value c.loop-at.current
    (omega (arith, c.loop-at.invariant.stored.size)) c.fill.ensures)

pub returns : goal.returns
returns c = unrolled_all c.loop-at.invariant c.loop-at-test.false
