-- `following_at` meets its contract, by recursion on how many bytes may follow: each way out is one case of `following`
-- at the byte read.
use Rattle.std.proofs.Common.{◌+◌, ◌-◌, ap, ◌∙◌, arith}
use Rattle.capture.specs.Numbers.{before}
use Rattle.capture.proofs.Fronts.{before_fault, cut_on}
use Rattle.capture.proofs.Groups.{following_none, following_last, following_over, following_one, following_on}
use Rattle.capture.proofs.Places.{following_small}
use Rattle.capture.proofs.reading.+following_at.Goals as goal

pub returns-in_err-byte : goal.returns-in_err-byte
returns-in_err-byte t c =
    rw c.in_err-byte.ensures.cut.0
    (following_none _ ∙ cut_on _ _ c.in_err-byte.ensures.cut.1 c.from_residual.ensures.1)

pub returns-then-byte-le-LAST_MOST : goal.returns-then-byte-le-LAST_MOST
returns-then-byte-le-LAST_MOST t c =
    rw c.in_ok-byte.ensures.found.0
    (following_last _ _ _ c.if-more-eq0.true (λ e. omega arith) c.if-byte-le-LAST_MOST.true)

pub returns-then-more-eq0 : goal.returns-then-more-eq0
returns-then-more-eq0 t c =
    rw c.in_ok-byte.ensures.found.0
    (following_over _ _ _ c.if-more-eq0.true (λ e. omega arith) c.if-byte-le-LAST_MOST.false)

pub returns-then-byte-lt-TOP_BIT : goal.returns-then-byte-lt-TOP_BIT
returns-then-byte-lt-TOP_BIT t c =
    rw c.in_ok-byte.ensures.found.0
    (following_one _ _ _ c.if-more-eq0.false (λ e. omega arith) c.if-byte-lt-TOP_BIT.true)

pub returns-in_err-rest : goal.returns-in_err-rest
returns-in_err-rest t c =
    rw c.in_ok-byte.ensures.found.0
    (following_on _ _ _ c.if-more-eq0.false c.if-byte-lt-TOP_BIT.false
    ∙ ap (before _) c.in_err-rest.ensures ∙ before_fault _ _ _ c.from_residual-in_err-rest.ensures.1)

pub after-requires-clause-self_in_range : goal.after-requires-clause-self_in_range
after-requires-clause-self_in_range t c =
    following_small c.args.bytes.now (c.args.at + 1) (c.args.more - 1) (λ i. omega (arith, c.type_inv.bytes i))
    (omega arith) c.in_ok-rest.ensures

pub returns : goal.returns
returns t c =
    rw c.in_ok-byte.ensures.found.0
    (following_on _ _ _ c.if-more-eq0.false c.if-byte-lt-TOP_BIT.false
    ∙ ap (before _) c.in_ok-rest.ensures ∙ c.after.ensures)
