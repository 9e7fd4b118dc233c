-- `widen` meets its contract: a step that reaches g is the last, and after any other a call does the rest.
use Rattle.std.proofs.Common.{◌+◌, ◌-◌, length, drop, arith, length-take}
use Rattle.line.proofs.Windows.{widens_last, widens_again}
use Rattle.line.proofs.smoothing.+widen.Goals as goal

pub returns-then-more-step : goal.returns-then-more-step
returns-then-more-step t c =
    widens_last _ _ _ c.args.held.now _ c.requires.0 c.if-more-step.true c.agree_apart.ensures

pub returns : goal.returns
returns t c =
    let wanted = length c.args.out.now + (c.args.g - c.args.reach - (c.args.reach + 1)) in
    widens_again _ _ _ c.args.held.now _ _ c.agree_apart-2.new.out (drop wanted c.args.spare.now)
    (omega (arith, c.if-more-step.false))
    (omega (arith, c.if-more-step.false, c.requires.2, length-take wanted c.args.spare.now)) c.agree_apart-2.ensures
    c.widen.ensures
