-- `listen` meets its contract: the state and the length are judged in the definition's order, and the rest is what was
-- heard read by read, on bits that are put back where a read is refused.
use Rattle.std.proofs.Common.{◌≡◌, true, false, sym, ◌∙◌, ap, length, Ok, Err, lt-ltb, le-ltb}
use Rattle.board.specs.Packed.{whole, settings_of}
use Rattle.board.specs.WellFormed.{well_formed}
use Rattle.board.specs.Answers.{refusing, in_lent, listened}
use Rattle.board.specs.Listening.{tried_says}
use Rattle.board.proofs.Standing.{receiver_of_state}
use Rattle.board.proofs.ListenedLaws.{listened_is}
use Rattle.board.proofs.Bare.listen.Goals as goal

pub returns-then-not-well_formed : goal.returns-then-not-well_formed
returns-then-not-well_formed c =
    let a = c.args in
    let came = whole a.self a.bits.now in
    let e : well_formed came ≡ false = sym c.if-not-well_formed.ensures in
    let refuses : listened came a.reads.now ≡ (refusing came 1 0, 0) = listened_is came a.reads.now ∙ rw e in
    rw c.refused.ensures (ap (in_lent a.row.now) refuses)

pub returns-then-reads-gt-ENTRIES_MOST : goal.returns-then-reads-gt-ENTRIES_MOST
returns-then-reads-gt-ENTRIES_MOST c =
    let a = c.args in
    let came = whole a.self a.bits.now in
    let e : well_formed came ≡ true = sym c.if-not-well_formed.ensures in
    let refuses : listened came a.reads.now ≡ (refusing came 3 0, 0)
    = listened_is came a.reads.now ∙ rw (e, lt-ltb 1048576 (length a.reads.now) c.if-reads-gt-ENTRIES_MOST.true) in
    rw c.refused-then-reads-gt-ENTRIES_MOST.ensures (ap (in_lent a.row.now) refuses)

pub hear-requires : goal.hear-requires
hear-requires c =
    let well : well_formed (whole c.args.self c.args.bits.now) ≡ true = sym c.if-not-well_formed.ensures in
    record { well = well; whole = receiver_of_state _ c.told-bits c.fits-bits well }

pub returns-in-Ok : goal.returns-in-Ok
returns-in-Ok c =
    let a = c.args in
    let came = whole a.self a.bits.now in
    let e : well_formed came ≡ true = sym c.if-not-well_formed.ensures in
    let outcome : listened came a.reads.now ≡ tried_says came (settings_of came) c.hear.new.bits (Ok c.in-Ok.heard)
    = listened_is came a.reads.now
    ∙ rw (e, le-ltb 1048576 (length a.reads.now) c.if-reads-gt-ENTRIES_MOST.false) (c.in-Ok.ensures came) in
    ap (in_lent a.row.now) outcome ∙ c.told.ensures

pub returns-in-Err : goal.returns-in-Err
returns-in-Err c =
    let a = c.args in
    let came = whole a.self a.bits.now in
    let e : well_formed came ≡ true = sym c.if-not-well_formed.ensures in
    let outcome : listened came a.reads.now ≡ tried_says came (settings_of came) c.hear.new.bits (Err c.in-Err.refusal)
    = listened_is came a.reads.now
    ∙ rw (e, le-ltb 1048576 (length a.reads.now) c.if-reads-gt-ENTRIES_MOST.false) (c.in-Err.ensures came) in
    rw c.refused-in-Err.ensures (ap (in_lent a.row.now) outcome)
