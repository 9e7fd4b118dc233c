-- `read_capture` meets its contract: each refusal leaves the output, and an accepted capture's reads are laid onto it.
use Rattle.std.proofs.Common.{sym, ap, ◌∙◌, arith}
use Rattle.measure.proofs.Checked.{handed_on}
use Rattle.capture.proofs.Headings.{heading_level}
use Rattle.capture.proofs.Captures.{capture_refused, capture_found, header_found}
use Rattle.capture.proofs.ReadLaws.{read_refused, read_runs_refused, read_short, read_roomy, read_whole}
use Rattle.capture.proofs.reading.read_capture.Goals as goal

pub returns-in_err-head : goal.returns-in_err-head
returns-in_err-head c =
    read_refused c.args.bytes.now c.args.out.now _ _ (capture_refused c.args.bytes.now _ _ c.in_err-head.ensures)
    ∙ ap (λ answer. (answer, c.args.out.now)) (sym (handed_on _ _ _ c.from_residual.ensures.1))

pub returns-in_err-summary : goal.returns-in_err-summary
returns-in_err-summary c =
    let b = c.args.bytes.now in
    read_runs_refused b c.args.out.now _ (capture_found b _ c.in_ok-head.ensures) _ _ c.in_err-summary.ensures
    ∙ ap (λ answer. (answer, c.args.out.now)) (sym (handed_on _ _ _ c.from_residual-in_err-summary.ensures.1))

pub returns-then-out-reads : goal.returns-then-out-reads
returns-then-out-reads c =
    let b = c.args.bytes.now in
    read_short b c.args.out.now _ (capture_found b _ c.in_ok-head.ensures) _ c.in_ok-summary.ensures c.if-out-reads.true

pub overflow_cast-level : goal.overflow_cast-level
overflow_cast-level c =
    let b = c.args.bytes.now in
    omega (arith, heading_level b _ (header_found b _ c.in_ok-head.ensures))

pub unroll_into-requires : goal.unroll_into-requires
unroll_into-requires c =
    let b = c.args.bytes.now in
    record {
      level_bound = heading_level b _ (header_found b _ c.in_ok-head.ensures);
      out_value =
          read_roomy b c.args.out.now _ (capture_found b _ c.in_ok-head.ensures) _
          c.in_ok-summary.ensures c.if-out-reads.false;
    }

pub returns : goal.returns
returns c =
    let b = c.args.bytes.now in
    read_whole b c.args.out.now _ (capture_found b _ c.in_ok-head.ensures) _ c.in_ok-summary.ensures
    c.if-out-reads.false _ c.unroll_into.ensures
