-- `siengulot_fresh` meets its contract: the receiver with which to start is kept as it came, and its refusal's number
-- is returned.
use Rattle.std.proofs.Common.{ap, ◌∙◌}
use Rattle.siengulot.specs.Receivers.{begun_lent}
use Rattle.siengulot.proofs.receiver.siengulot_fresh.Goals as goal

pub returns-in-Ok : goal.returns-in-Ok
returns-in-Ok c =
    let back = c.put_back.ensures in
    ap begun_lent c.fresh-started.ensures ∙ rw (c.in-Ok.is, back)

pub returns-in-Err : goal.returns-in-Err
returns-in-Err c =
    let back = c.put_back.ensures in
    ap begun_lent c.fresh-started.ensures ∙ rw (c.in-Err.is, back, c.number.ensures)
