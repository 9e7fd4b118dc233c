-- `survey` meets its contract: what is known of the boards so far goes on to the next, and after the last it is what is
-- told of the region.
use Rattle.std.proofs.Common.{◌^◌, ◌<◌, arith}
use Rattle.std.specs.Int.Signed.{mag}
use Rattle.measure.proofs.Checked.{handed_on}
use Rattle.settings.specs.Survey.{reported}
use Rattle.settings.proofs.Going.{going_none, going_one, going_unfit, going_limit, going_empty, going_all}
use Rattle.settings.proofs.InRange.{had, lacked}
use Rattle.settings.proofs.surveying.Boards.survey.Goals as goal

pub loop-i-init : goal.loop-i-init
loop-i-init c = going_none _

pub returns-in_err-margins : goal.returns-in_err-margins
returns-in_err-margins c =
    let way = lacked _ _ _ _ c.ok_or.ensures.value c.in_err-margins.was in
    rw (handed_on reported _ c.from_residual.result c.from_residual.ensures.1, way.1)
    (going_unfit c.loop-i.invariant (omega (arith, c.count-count.ensures)) c.margins.ensures way.0)

pub loop-i-preserved : goal.loop-i-preserved
loop-i-preserved c =
    let m = c.in_ok-margins.margins in
    let size1 : mag m.m1 < 2 ^ 63 = omega arith in
    let size2 : mag m.m2 < 2 ^ 63 = omega arith in
    let size3 : mag m.m3 < 2 ^ 63 = omega arith in
    going_one c.loop-i.invariant (omega (arith, c.count-count.ensures)) c.margins.ensures
    (had _ _ m c.ok_or.ensures.ok_part c.in_ok-margins.was) (size1, size2, size3) c.with-figures.ensures

pub returns-then-count-gt-BOARDS_MOST : goal.returns-then-count-gt-BOARDS_MOST
returns-then-count-gt-BOARDS_MOST c =
    going_limit c.loop-i.invariant (omega (arith, c.count-count.ensures)) (omega (arith, c.count-count.ensures))

pub returns-then-count-eq0 : goal.returns-then-count-eq0
returns-then-count-eq0 c =
    going_empty c.loop-i.invariant (omega (arith, c.count-count.ensures)) (omega (arith, c.count-count.ensures))
    (omega (arith, c.count-count.ensures))

pub returns : goal.returns
returns c =
    going_all c.loop-i.invariant (omega (arith, c.count-count.ensures)) (omega (arith, c.count-count.ensures))
    (omega (arith, c.count-count.ensures))
