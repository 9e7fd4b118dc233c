-- `warp_into` meets its contract: what is written, followed by the reads to come, is the warp of the wave.
use Rattle.std.proofs.Common.{◌≡◌, ℕ, ◌+◌, ◌*◌, ◌<◌, ◌≤◌, true, List, length, take, ◌∙◌, arith, length-take}
use Rattle.measure.specs.Lists.{onto}
use Rattle.line.specs.Answers.{timed}
use Rattle.line.specs.Sharing.{read_count}
use Rattle.line.specs.Warp.{cycle_start, read_start, warp as warping}
use Rattle.line.proofs.Clocks.{Clocks, even_clocks}
use Rattle.line.proofs.Counted.{timed_count}
use Rattle.line.proofs.PartLent.{onto_front}
use Rattle.line.proofs.Times.{timed_w, timed_r, timed_p, cycle_least, product_most}
use Rattle.line.proofs.WarpLaws.{warp_by_lem, counted_ends, uncounted_late}
use Rattle.line.proofs.WarpRun.{run_none, run_begun, run_more, run_all}
use Rattle.line.proofs.steady.warp_into.Goals as goal

module _ (w r p : ℕ) (fits : timed w r p ≡ true) where
  some_r : 0 < r
  some_r = cycle_least r (timed_r w r p fits)

  clocks : Clocks (cycle_start w) (read_start p r)
  clocks = even_clocks w r p some_r (timed_p w r p fits)

  -- each read for which there is a slot ends by the wave's end
  ends : (cycles n j : ℕ) (out : List ℕ) → read_count w r p cycles ≡ n → j < length (take n out)
      → p + (j + 1) * r ≤ cycles * w
  ends cycles n j out count h =
      omega (arith, counted_ends w r p cycles j some_r (rw count (omega (arith, length-take n out))))

pub loop-slot-init : goal.loop-slot-init
loop-slot-init c =
    let t = c.args.timing in
    (run_none (clocks t.w.0 t.r.0 t.p.0 c.requires.0) _ _, omega arith, omega arith)

pub overflow_add-t : goal.overflow_add-t
overflow_add-t c =
    let t = c.args.timing in
    omega (
      arith,
      c.loop-slot.invariant.1,
      ends t.w.0 t.r.0 t.p.0 c.requires.0 (length c.args.wave.now) _ _ _ c.requires.2 c.loop-slot-test.true,
      product_most (length c.args.wave.now) t.w.0 (omega (arith, c.requires.1))
          (timed_w t.w.0 t.r.0 t.p.0 c.requires.0),
    )

pub one_read-looked-requires : goal.one_read-looked-requires
one_read-looked-requires c =
    let t = c.args.timing in
    let end = ends t.w.0 t.r.0 t.p.0 c.requires.0 (length c.args.wave.now) _ _ _ c.requires.2 c.loop-slot-test.true in
    rw (c.new-steady.ensures.0, c.new-steady.ensures.1) (
      omega (
        arith,
        c.loop-slot.invariant.1,
        run_begun (clocks t.w.0 t.r.0 t.p.0 c.requires.0) _ _ _ _ _ c.loop-slot.invariant.0,
      ),
      omega (arith, c.loop-slot.invariant.1, end),
      c.loop-slot.invariant.2,
    )

pub loop-slot-preserved : goal.loop-slot-preserved
loop-slot-preserved c =
    let t = c.args.timing in
    let end = ends t.w.0 t.r.0 t.p.0 c.requires.0 (length c.args.wave.now) _ _ _ c.requires.2 c.loop-slot-test.true in
    let looked = rw (c.new-steady.ensures.0, c.new-steady.ensures.1) at c.one_read-looked.ensures in (
      run_more (clocks t.w.0 t.r.0 t.p.0 c.requires.0) _ _ _ _ _ _ _ _ c.loop-slot.invariant.0 c.loop-slot-test.true
          (omega (arith, c.loop-slot.invariant.1)) (omega (arith, c.loop-slot.invariant.1, end)) looked.0 looked.1,
      omega (arith, c.loop-slot.invariant.1),
      looked.2,
    )

pub returns : goal.returns
returns c =
    let t = c.args.timing in
    let fits = c.requires.0 in
    let size : length (take c.args.n.0 c.args.out.now) ≡ c.args.n.0 =
    omega (arith, c.requires.3, length-take c.args.n.0 c.args.out.now) in
    let all : onto (warping t.w.0 t.r.0 t.p.0 c.args.wave.now) (take c.args.n.0 c.args.out.now)
    ≡ c.loop-slot.slot-items =
    rw (warp_by_lem t.w.0 t.r.0 t.p.0 c.args.wave.now)
    (run_all (clocks t.w.0 t.r.0 t.p.0 fits) _ _ _ _ _ c.loop-slot.invariant.0
    (uncounted_late t.w.0 t.r.0 t.p.0 (length c.args.wave.now) c.loop-slot.slot-index (some_r t.w.0 t.r.0 t.p.0 fits)
    (omega (arith, c.requires.2, size, c.loop-slot-test.false)))
    c.loop-slot.auto.slot-index-end) in
    onto_front _ _ _ _ (timed_count t.w.0 t.r.0 t.p.0 c.args.wave.now fits ∙ c.requires.2) all
