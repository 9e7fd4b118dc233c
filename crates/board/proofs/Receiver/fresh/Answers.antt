-- `fresh` meets its contract: the settings are judged, and what comes back keeps no bits.
use Rattle.std.proofs.Common.{◌≡◌, true, false, sym}
use Rattle.measure.specs.Ranges.{row_settings_fit}
use Rattle.board.specs.Answers.{begun}
use Rattle.board.proofs.Receiver.fresh.Goals as goal

pub returns-then-fit : goal.returns-then-fit
unfolding begun
returns-then-fit c =
    let a = c.args.settings in
    let e : row_settings_fit a.k.0 a.n a.q.0 ≡ true = sym c.if-fit.ensures in
    rw (e, ← c.none.ensures, c.hunting-numbers.ensures)

pub returns : goal.returns
unfolding begun
returns c =
    let a = c.args.settings in
    let e : row_settings_fit a.k.0 a.n a.q.0 ≡ false = sym c.if-fit.ensures in
    rw (e, ← c.none-2.ensures, c.hunting.ensures)
