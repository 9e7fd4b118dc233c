-- `siengulot_listen` meets its contract: numbers that make no receiver are refused, and otherwise what the operation
-- brings is handed over.
use Rattle.siengulot.proofs.Brought.{listen_refused, listen_brought}
use Rattle.siengulot.proofs.receiver.siengulot_listen.Goals as goal

pub returns-in_default : goal.returns-in_default
returns-in_default c = listen_refused _ c.in_default.ensures _ c.no_receiver.ensures

pub returns : goal.returns
returns c =
    let made = c.in-Some.ensures in
    listen_brought _ c.in-Some.bare c.listen-told.result made.0 made.1 c.hand_over.ensures _ c.listen-told.ensures
