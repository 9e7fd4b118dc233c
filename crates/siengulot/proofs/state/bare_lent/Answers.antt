-- `bare_lent` meets its contract: a mode is named and both levels are bytes, so the numbers make a receiver, and each is
-- copied to its field.
use Rattle.siengulot.specs.Receivers.{named, receiver_lent}
use Rattle.siengulot.proofs.Recovered.{made}
use Rattle.siengulot.proofs.state.bare_lent.Goals as goal

pub returns : goal.returns
unfolding receiver_lent
returns c =
    let mode = c.in_ok-mode.ensures in
    let run = c.in_ok-runlevel.ensures in
    let level = c.in_ok-level.ensures in
    (made (named c.args.numbers.now) mode.0 run.0 level.0, λ bits. rw (mode.1, run.1, level.1))
