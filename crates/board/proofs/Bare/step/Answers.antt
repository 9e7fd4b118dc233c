-- `step` meets its contract: the state is judged, and the rest is what was heard of one read.
use Rattle.std.proofs.Common.{ℕ, ◌≡◌, true, false, sym, ◌∙◌, ap, [], ◌∷◌, arith}
use Rattle.board.specs.declared.Receiver.{Receiver}
use Rattle.board.specs.Packed.{whole, settings_of, state_of}
use Rattle.board.specs.WellFormed.{well_formed}
use Rattle.board.specs.Answers.{refusing, in_lent, listened}
use Rattle.board.specs.Listening.{heard_from, heard_says}
use Rattle.board.proofs.Standing.{receiver_of_state}
use Rattle.board.proofs.ListeningLaws.{heard_bad}
use Rattle.board.proofs.ListenedLaws.{listened_is}
use Rattle.board.proofs.Bare.step.Goals as goal

-- where the state is well formed, one read is heard from it
outcome : (x : Receiver) (read : ℕ) → well_formed x ≡ true
    → listened x (read ∷ []) ≡ heard_from x (settings_of x) (state_of x) 0 (read ∷ [])
outcome x read well = listened_is x (read ∷ []) ∙ rw well

pub returns-then-not-well_formed : goal.returns-then-not-well_formed
returns-then-not-well_formed c =
    let a = c.args in
    let came = whole a.self a.bits.now in
    let e : well_formed came ≡ false = sym c.if-not-well_formed.ensures in
    let refuses : listened came (a.read ∷ []) ≡ (refusing came 1 0, 0) = listened_is came (a.read ∷ []) ∙ rw e in
    rw c.refused.ensures (ap (in_lent a.row.now) refuses)

pub returns-then-read-gt-HIGH : goal.returns-then-read-gt-HIGH
returns-then-read-gt-HIGH c =
    let a = c.args in
    let came = whole a.self a.bits.now in
    let e : well_formed came ≡ true = sym c.if-not-well_formed.ensures in
    let refuses : listened came (a.read ∷ []) ≡ (refusing came 2 0, 0)
    = outcome came a.read e
    ∙ heard_bad came (settings_of came) (state_of came) 0 (a.read ∷ []) (omega arith) c.if-read-gt-HIGH.true in
    rw c.refused-then-read-gt-HIGH.ensures (ap (in_lent a.row.now) refuses)

pub hear_one-heard-requires-clause-keeps : goal.hear_one-heard-requires-clause-keeps
hear_one-heard-requires-clause-keeps c =
    let well : well_formed (whole c.args.self c.args.bits.now) ≡ true = sym c.if-not-well_formed.ensures in
    record { well = well; whole = receiver_of_state _ c.told-bits c.fits-bits well }

pub returns : goal.returns
returns c =
    let a = c.args in
    let came = whole a.self a.bits.now in
    let e : well_formed came ≡ true = sym c.if-not-well_formed.ensures in
    let heard : listened came (a.read ∷ []) ≡ heard_says (settings_of came) c.hear_one-heard.new.bits c.hear_one-heard.result
    = outcome came a.read e ∙ c.hear_one-heard.ensures came in
    ap (in_lent a.row.now) heard ∙ c.told.ensures
