-- `fitting_at` meets its contract: a refused number is handed on, and one that was read passes the test or does not.
use Rattle.std.proofs.Common.{sym, ◌∙◌}
use Rattle.measure.specs.Choose.{between}
use Rattle.capture.proofs.Headings.{fitting_refused, fitting_in, fitting_out}
use Rattle.capture.proofs.reading.fitting_at.Goals as goal

pub returns-in_default : goal.returns-in_default
returns-in_default c =
    fitting_refused (between c.args.least c.args.most) c.args.bytes.now c.args.at _ _ c.in_default.ensures
    ∙ rw c.in_default.is

pub returns-then-not-between : goal.returns-then-not-between
returns-then-not-between c =
    fitting_out (between c.args.least c.args.most) c.args.bytes.now c.args.at _ c.in-Ok.ensures
    (sym c.between.ensures ∙ c.if-not-between.true)

pub returns : goal.returns
returns c =
    fitting_in (between c.args.least c.args.most) c.args.bytes.now c.args.at _ c.in-Ok.ensures
    (sym c.between.ensures ∙ c.if-not-between.false)
