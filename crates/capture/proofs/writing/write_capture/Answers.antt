-- `write_capture` meets its contract: the tests in their order, then the capture laid onto the output.
use Rattle.std.proofs.Common.{◌≡◌, sym, ◌∙◌, ◌≤◌, length, refl, arith}
use Rattle.measure.proofs.Checked.{good_entries}
use Rattle.measure.proofs.Laid.{laid_first}
use Rattle.capture.specs.Writing.{capture_of}
use Rattle.capture.proofs.WriteLaws.{capture_few, write_setting, write_limit, write_entry, write_room, write_whole}
use Rattle.capture.proofs.writing.write_capture.Goals as goal

pub returns-then-not-fit : goal.returns-then-not-fit
returns-then-not-fit c = write_setting _ _ _ _ _ (sym c.fit.ensures ∙ c.if-not-fit.true)

pub returns-then-reads-gt-ENTRIES_MOST : goal.returns-then-reads-gt-ENTRIES_MOST
returns-then-reads-gt-ENTRIES_MOST c =
    write_limit _ _ _ _ _ (sym c.fit.ensures ∙ c.if-not-fit.false) c.if-reads-gt-ENTRIES_MOST.true

pub returns-in_err-check_entries : goal.returns-in_err-check_entries
returns-in_err-check_entries c =
    write_entry _ _ _ _ _ (sym c.fit.ensures ∙ c.if-not-fit.false) c.if-reads-gt-ENTRIES_MOST.false _ _
    c.in_err-check_entries.ensures c.from_residual.ensures.1

pub put_capture-requires-clause-fit : goal.put_capture-requires-clause-fit
put_capture-requires-clause-fit c = sym c.fit.ensures ∙ c.if-not-fit.false

pub put_capture-requires-clause-room : goal.put_capture-requires-clause-room
put_capture-requires-clause-room c =
    let s = c.args.settings in
    omega (arith, capture_few s.k.0 s.n s.q.0 c.args.reads.now _ refl, c.if-reads-gt-ENTRIES_MOST.false)

pub returns-then-out-size : goal.returns-then-out-size
returns-then-out-size c =
    write_room _ _ _ _ _ (sym c.fit.ensures ∙ c.if-not-fit.false) c.if-reads-gt-ENTRIES_MOST.false
    (good_entries _ _ _ c.in_ok-check_entries.ensures) (omega (arith, c.put_capture.ensures, c.if-out-size.true))

pub write_into-requires-clause-fit : goal.write_into-requires-clause-fit
write_into-requires-clause-fit c = sym c.fit.ensures ∙ c.if-not-fit.false

pub write_into-requires-clause-room : goal.write_into-requires-clause-room
write_into-requires-clause-room c = omega (arith, c.put_capture.ensures, c.if-out-size.false)

pub returns : goal.returns
returns c =
    let s = c.args.settings in
    let size : c.put_capture.new.sink ≡ length (capture_of s.k.0 s.n s.q.0 c.args.reads.now) =
    omega (arith, c.put_capture.ensures) in
    let fits : length (capture_of s.k.0 s.n s.q.0 c.args.reads.now) ≤ length c.args.out.now =
    omega (arith, c.put_capture.ensures, c.if-out-size.false) in
    write_whole _ _ _ _ _ (sym c.fit.ensures ∙ c.if-not-fit.false) c.if-reads-gt-ENTRIES_MOST.false
    (good_entries _ _ _ c.in_ok-check_entries.ensures) fits
    ∙ cc (size, c.write_into.ensures, laid_first (capture_of s.k.0 s.n s.q.0 c.args.reads.now) c.args.out.now fits)
