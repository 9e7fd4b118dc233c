-- `Rows::first_over` meets its contract: where no row so far is over, the first that is is among those left.
use Rattle.std.proofs.Common.{◌≡◌, ap, arith, length, inl, inr}
use Rattle.std.specs.Iterator.Adapters.{enumerate_source, enumerate_count, zip_first, zip_second}
use Rattle.std.specs.Slice.Iter.{iter_rest}
use Rattle.stored.proofs.Over.{all_bounded, next_bounded, over_later, over_none}
use Rattle.stored.proofs.Rows.first_over.Goals as goal

pub loop-row-init : goal.loop-row-init
loop-row-init c =
    let it = c.into_iter-row-iterator.result in
    let leads : iter_rest (zip_first (enumerate_source it)) ≡ c.args.self.leads.now = cc in
    let trails : iter_rest (zip_second (enumerate_source it)) ≡ c.args.self.trails.now = cc in
    let count : enumerate_count it ≡ 0 = cc in
    rw (leads, trails, count) (all_bounded _ _ c.args.self.in_range, omega arith, omega arith)

pub loop-row-preserved : goal.loop-row-preserved
loop-row-preserved c =
    let turn = c.in-Some.ensures.steps in
    let loop = c.loop-row in
    let next = next_bounded loop.invariant.0 turn.0.0 turn.0.1 in
    let later = over_later loop.before turn.0.0 turn.0.1 (omega arith) in
    (next.1, omega (arith, ap length turn.0.0), omega (arith, later))

pub returns : goal.returns
returns c =
    let loop = c.loop-row in
    let none : length (iter_rest (zip_first (enumerate_source loop.row-iterator))) ≡ 0 =
    elim c.in-None.ensures.steps.0 [ inl p ↦ omega arith | inr p ↦ omega (arith, loop.invariant.0.same) ] in
    omega (arith, over_none loop.before _ (iter_rest (zip_second (enumerate_source loop.row-iterator))) none)
