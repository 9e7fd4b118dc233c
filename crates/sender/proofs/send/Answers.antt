-- `send` meets its contract: the tests that led to a return pick the definition's case, and the wave's own limit is
-- never reached.
use Rattle.std.proofs.Common.{◌≡◌, ◌∙◌, sym, true, List, ℕ, ◌+◌, ◌*◌, ◌≤◌, arith, length, lt-ltb, le-ltb}
use Rattle.measure.specs.Refusals.{entered, lent}
use Rattle.measure.specs.Ranges.{bits_most, entries_most}
use Rattle.measure.proofs.Checked.{good_entries, bad_entries}
use Rattle.sender.specs.Sending.{wave}
use Rattle.sender.specs.Answers.{message_in_range, sent_message}
use Rattle.sender.proofs.Cells.{length_wave}
use Rattle.sender.proofs.Placed.{lent_placed, lent_short}
use Rattle.sender.proofs.send.Goals as goal

-- past the tests of the settings and of the number of bits, the answer is that of the entries and the lent output
judged : (a b p1 : ℕ) (bits out : List ℕ) (cycles : ℕ) → message_in_range a b p1 ≡ true → length bits ≤ bits_most
    → (cycles ≡ p1 + length bits * (a + b)) × (cycles ≤ 587775)
    → sent_message a b p1 bits out ≡ entered 1 bits out (lent (wave a b p1 bits) out)
unfolding sent_message
judged a b p1 bits out cycles accepts few is =
    let size = length_wave a b p1 bits in
    rw (
      accepts,
      le-ltb bits_most (length bits) few,
      le-ltb entries_most (length (wave a b p1 bits)) (omega (arith, size, is.0, is.1)),
    )

pub returns-then-not-in_range : goal.returns-then-not-in_range
unfolding sent_message
returns-then-not-in_range c = simp (sym c.in_range.ensures ∙ c.if-not-in_range.true)

pub returns-then-bits-gt-BITS_MOST : goal.returns-then-bits-gt-BITS_MOST
unfolding sent_message
returns-then-bits-gt-BITS_MOST c =
    simp (sym c.in_range.ensures ∙ c.if-not-in_range.false, lt-ltb _ _ c.if-bits-gt-BITS_MOST.true)

pub returns-in_err-check_bits : goal.returns-in_err-check_bits
returns-in_err-check_bits c =
    let accepts = sym c.in_range.ensures ∙ c.if-not-in_range.false in
    judged _ _ _ _ _ _ accepts c.if-bits-gt-BITS_MOST.false c.cycles-cycles.ensures
    ∙ bad_entries _ _ _ _ c.from_residual.result _ _ c.in_err-check_bits.ensures c.from_residual.ensures.1

pub returns-then-out-cycles : goal.returns-then-out-cycles
returns-then-out-cycles c =
    let accepts = sym c.in_range.ensures ∙ c.if-not-in_range.false in
    let size = length_wave c.args.cell.a.0 c.args.cell.b.0 c.args.p1.0 c.args.bits.now in
    judged _ _ _ _ _ _ accepts c.if-bits-gt-BITS_MOST.false c.cycles-cycles.ensures
    ∙ rw (good_entries _ _ _ c.in_ok-check_bits.ensures) (lent_short _ _ _ size (omega arith))

pub returns : goal.returns
returns c =
    let accepts = sym c.in_range.ensures ∙ c.if-not-in_range.false in
    let written = c.write_wave-end in
    let size = length_wave c.args.cell.a.0 c.args.cell.b.0 c.args.p1.0 c.args.bits.now in
    judged _ _ _ _ _ _ accepts c.if-bits-gt-BITS_MOST.false c.cycles-cycles.ensures
    ∙ rw (good_entries _ _ _ c.in_ok-check_bits.ensures)
    (lent_placed _ _ _ written.result (omega (arith, size)) (omega arith) written.ensures.1)
