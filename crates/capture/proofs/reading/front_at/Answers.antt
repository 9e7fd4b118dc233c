-- `front_at` meets its contract: each way out is one case of `group` at the byte read.
use Rattle.std.proofs.Common.{◌+◌, ◌-◌, ap, ◌∙◌, arith}
use Rattle.capture.specs.Numbers.{before, further}
use Rattle.capture.proofs.Fronts.{before_fault, cut_on}
use Rattle.capture.proofs.Groups.{group_none, group_one, group_on}
use Rattle.capture.proofs.Places.{following_small}
use Rattle.capture.proofs.reading.front_at.Goals as goal

pub returns-in_err-byte : goal.returns-in_err-byte
returns-in_err-byte c =
    rw c.in_err-byte.ensures.cut.0
    (group_none further ∙ cut_on _ _ c.in_err-byte.ensures.cut.1 c.from_residual.ensures.1)

pub returns-then-byte-lt-TOP_BIT : goal.returns-then-byte-lt-TOP_BIT
returns-then-byte-lt-TOP_BIT c =
    rw c.in_ok-byte.ensures.found.0
    (group_one further _ _ (λ e. omega arith) c.if-byte-lt-TOP_BIT.true)

pub returns-in_err-rest : goal.returns-in_err-rest
returns-in_err-rest c =
    rw c.in_ok-byte.ensures.found.0
    (group_on further _ _ (λ e. omega arith) c.if-byte-lt-TOP_BIT.false
    ∙ ap (before _) c.in_err-rest.ensures ∙ before_fault _ _ _ c.from_residual-in_err-rest.ensures.1)

pub after-requires-clause-self_in_range : goal.after-requires-clause-self_in_range
after-requires-clause-self_in_range c =
    following_small c.args.bytes.now (c.args.at + 1) (further - 1) (λ i. omega (arith, c.type_inv.bytes i))
    (omega arith) c.in_ok-rest.ensures

pub returns : goal.returns
returns c =
    rw c.in_ok-byte.ensures.found.0
    (group_on further _ _ (λ e. omega arith) c.if-byte-lt-TOP_BIT.false
    ∙ ap (before _) c.in_ok-rest.ensures ∙ c.after.ensures)
