-- `smooth_into` meets its contract: each block writes the part of the smoothed wave that comes next.
use Rattle.std.proofs.Common.{◌≡◌, ◌+◌, ◌-◌, length, take, drop, replicate, arith, length-take, length-drop}
use Rattle.std.proofs.lemmas.List.{take_all}
use Rattle.line.proofs.Blocks.{first_block, further_one, smoothing_all}
use Rattle.line.proofs.PartLent.{length_front}
use Rattle.line.proofs.smoothing.smooth_into.Goals as goal

pub loop-done-preserved : goal.loop-done-preserved
loop-done-preserved c =
    let q = c.loop-done.invariant.2 in
    let end = c.min-end.result in
    let done = c.loop-done.done in
    let whole = length_front c.smooth_block.new.out c.args.out.now _ c.smooth_block.auto.out in
    let size : length (take (end - done) (drop done c.loop-done.out)) ≡ end - done =
    omega (
      arith,
      c.min-end.ensures,
      c.requires.2,
      c.loop-done.auto.out,
      whole,
      length-take (end - done) (drop done c.loop-done.out),
      length-drop done c.loop-done.out,
    ) in
    let rest : take (length c.args.wave.now - (done - c.args.g)) (drop (done - c.args.g) c.args.wave.now)
    ≡ drop (done - c.args.g) c.args.wave.now =
    take_all _ _ (omega (arith, length-drop (done - c.args.g) c.args.wave.now)) in (
      omega (arith, c.smooth_block-in-loop-done.auto.held, c.loop-done.invariant.0),
      omega (arith, c.smooth_block-in-loop-done.auto.spare, c.loop-done.invariant.1),
      further_one _ _ (omega (arith, c.requires)) _ _ _ _ _ _ q
          (omega (arith, c.requires.2, whole))
          (omega (arith, c.loop-done-test.true, c.min-end.ensures)) (omega (arith, c.min-end.ensures))
          (rw (size, rest) at c.smooth_block-in-loop-done.ensures),
    )

pub returns : goal.returns
returns c =
    let first = c.min-first.result in
    let room : length (take first c.args.out.now) ≡ first =
    omega (arith, c.min-first.ensures, c.requires.2, length-take first c.args.out.now) in
    smoothing_all _ _ (omega (arith, c.requires)) _ _ _
    (c.loop-done.invariant.2.goes_on _
    (first_block _ c.args.wave.now (omega (arith, c.requires)) _ c.min-first.ensures c.copy_from_slice.new.self
    (drop (c.args.g + first - c.args.g) (drop c.args.g (replicate 128 1))) c.copy_from_slice.ensures.after _ _
    (omega (arith, c.min-first.ensures, c.requires.2)) (rw room at c.smooth_block.ensures)))
    c.loop-done-test.false c.requires.2
