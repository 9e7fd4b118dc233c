-- `settle_into` meets its contract: what is written, followed by the reads left settled by the choices left, is the
-- whole stream settled.
use Rattle.std.proofs.Common.{◌≡◌, ◌∙◌, sym, arith}
use Rattle.std.specs.Slice.Iter.{iter_rest}
use Rattle.line.specs.Settle.{next_choice}
use Rattle.measure.proofs.Wrote.{wrote_none, wrote_more, wrote_all}
use Rattle.line.proofs.SettleLaws.{settle_unknown, settle_known, settle_end, next_taken}
use Rattle.line.proofs.settle_into.Goals as goal
use Rattle.line.proofs.settle_into.Goals.{then-level-eq-UNKNOWN, else-level-eq-UNKNOWN}

pub loop-i-init : goal.loop-i-init
loop-i-init c = rw c.iter-left.ensures.rest (wrote_none _ _)

pub loop-i-preserved : goal.loop-i-preserved
loop-i-preserved c =
    elim c.if-level-eq-UNKNOWN.branch [
      | then-level-eq-UNKNOWN w ↦
          let (next, rest) = next_taken _ _ _ w.next.ensures.steps in
          let is : next_choice (iter_rest c.loop-i.left) ≡ w.unwrap_or-level.result =
          sym (w.unwrap_or-level.ensures ∙ rw w.copied.ensures next) in
          rw (w.left-is, w.level-is, rest)
          (wrote_more _ _ _ _ _ _
          (rw (settle_unknown _ _ _ c.loop-i-test.true w.if-level-eq-UNKNOWN.true, is) at c.loop-i.invariant)
          (omega arith))
      | else-level-eq-UNKNOWN w ↦
          rw (w.left-is, w.level-is)
          (wrote_more _ _ _ _ _ _
          (rw (settle_known _ _ _ c.loop-i-test.true w.if-level-eq-UNKNOWN.false) at c.loop-i.invariant)
          (omega arith))
    ]

pub returns : goal.returns
returns c =
    sym (wrote_all _ _ _ _ (rw (settle_end _ _ _ c.loop-i-test.false) at c.loop-i.invariant) (omega arith))
