-- `Rows::join_into` meets its contract: each turn writes the next of the joined lead pads, and the trail pad goes on to the
-- next turn.
use Rattle.std.proofs.Common.{◌≡◌, ◌∙◌, refl, sym, ap, ◌+◌, arith, length, inl, inr}
use Rattle.std.specs.Iterator.Adapters.{enumerate_source, enumerate_count, zip_first, zip_second}
use Rattle.std.specs.Slice.Iter.{iter_rest}
use Rattle.measure.proofs.Wrote.{wrote_none, wrote_more, wrote_all}
use Rattle.stored.proofs.Joins.{joined_more, joined_end, last_more, last_end}
use Rattle.stored.proofs.Over.{all_bounded, next_bounded}
use Rattle.stored.proofs.Rows.join_into.Goals as goal

pub loop-row-init : goal.loop-row-init
loop-row-init c =
    let it = c.into_iter-row-iterator.result in
    let leads : iter_rest (zip_first (enumerate_source it)) ≡ c.args.self.leads.now = cc in
    let trails : iter_rest (zip_second (enumerate_source it)) ≡ c.args.self.trails.now = cc in
    let count : enumerate_count it ≡ 0 = cc in
    rw (leads, trails, count)
    (all_bounded _ _ c.args.self.in_range, omega arith, wrote_none _ _, refl)

pub loop-row-preserved : goal.loop-row-preserved
loop-row-preserved c =
    let turn = c.in-Some.ensures.steps in
    let loop = c.loop-row in
    let lead = c.in-Some.lead.now in
    let trail = c.in-Some.trail.now in
    let next = next_bounded loop.invariant.0 turn.0.0 turn.0.1 in
    let size = ap length turn.0.0 in (
      next.1,
      omega arith,
      rw (turn.1, turn.2)
          (wrote_more _ _ _ _ _ (loop.before + lead)
          (rw (turn.0.0, turn.0.1, joined_more loop.before lead trail) at loop.invariant.2) (omega arith)),
      loop.invariant.3 ∙ rw turn.0.1 (last_more loop.before trail _),
    )

pub returns : goal.returns
returns c =
    let loop = c.loop-row in
    let none : length (iter_rest (zip_first (enumerate_source loop.row-iterator))) ≡ 0 =
    elim c.in-None.ensures.steps.0 [ inl p ↦ omega arith | inr p ↦ omega (arith, loop.invariant.0.same) ] in (
      loop.invariant.3 ∙ last_end loop.before _ (omega (arith, loop.invariant.0.same)),
      sym (wrote_all _ _ _ _ (rw (joined_end loop.before _ _ none) at loop.invariant.2) (omega arith)),
    )
