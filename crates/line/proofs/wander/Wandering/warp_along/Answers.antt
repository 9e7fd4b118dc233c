-- `warp_along` meets its contract: what is written, followed by the reads to come, is the warp of the wave by the two
-- clocks that the lengths make.
use Rattle.std.proofs.Common.{◌≡◌, ℕ, suc, ◌+◌, ◌<◌, ◌≤◌, length, take, get_or, arith, length-take, get_or-take}
use Rattle.line.specs.declared.wander.Wandering.{Wandering}
use Rattle.line.specs.declared.wander.Reads.{Reads}
use Rattle.line.specs.Running.{clock_of, EndBy}
use Rattle.line.proofs.WarpRun.{run_none, run_begun, run_more, run_some}
use Rattle.line.proofs.WanderClocks.{clock_first, next_end, next_time, time_most, clocks_of}
use Rattle.line.proofs.wander.Wandering.warp_along.Goals as goal

-- a read that is counted has a length, ends when that is over, and by the wave's end
module _ (s : Wandering) (r : Reads) (n : ℕ)
    (by : EndBy (clock_of 1 r.p.0 r.lengths.now) (length r.lengths.now) (clock_of 1 0 s.cycles.now (length s.wave.now)) n)
    {j t : ℕ} (counted : j < length (take n r.lengths.now)) (at : clock_of 1 r.p.0 r.lengths.now j ≡ t) where
  before : j < n
  before = omega (arith, length-take n r.lengths.now)

  lasting : j < length r.lengths.now
  lasting = omega (arith, length-take n r.lengths.now)

  this : get_or (take n r.lengths.now) j 0 ≡ get_or r.lengths.now j 0
  this = get_or-take n r.lengths.now j 0 before

  ends : clock_of 1 r.p.0 r.lengths.now (suc j) ≡ t + get_or (take n r.lengths.now) j 0
  ends = rw this (next_end r.judged r.p.0 j t lasting at)

  next : clock_of 1 r.p.0 r.lengths.now (j + 1) ≡ t + get_or (take n r.lengths.now) j 0
  next = rw this (next_time r.judged r.p.0 j t lasting at)

  in_time : t + get_or (take n r.lengths.now) j 0 ≤ clock_of 1 0 s.cycles.now (length s.wave.now)
  in_time = omega (arith, ends, by.ends j before)

  fits : t + get_or (take n r.lengths.now) j 0 ≤ 68718428160
  fits = omega (arith, in_time, time_most s.judged 0 (length s.wave.now) s.lasting)

pub loop-j-init : goal.loop-j-init
loop-j-init c =
    let clocks = clocks_of c.args.self.judged c.args.reads.judged c.args.reads.p.0 c.requires.0 in
    (run_none clocks _ _, clock_first 1 _ _, clock_first 1 0 _)

pub overflow_add-t : goal.overflow_add-t
overflow_add-t c =
    omega (
      arith,
      fits c.args.self c.args.reads c.args.n.0 c.requires.1 c.loop-j-test.true c.loop-j.invariant.1,
    )

pub look_along-seen-requires : goal.look_along-seen-requires
look_along-seen-requires c =
    let clocks = clocks_of c.args.self.judged c.args.reads.judged c.args.reads.p.0 c.requires.0 in
    let end =
    ends c.args.self c.args.reads c.args.n.0 c.requires.1 c.loop-j-test.true c.loop-j.invariant.1 in
    let time =
    in_time c.args.self c.args.reads c.args.n.0 c.requires.1 c.loop-j-test.true c.loop-j.invariant.1 in (
      c.loop-j.invariant.2,
      omega (arith, c.loop-j.invariant.2, run_begun clocks _ _ _ _ _ c.loop-j.invariant.0, end),
      time,
    )

pub loop-j-preserved : goal.loop-j-preserved
loop-j-preserved c =
    let clocks = clocks_of c.args.self.judged c.args.reads.judged c.args.reads.p.0 c.requires.0 in
    let end =
    ends c.args.self c.args.reads c.args.n.0 c.requires.1 c.loop-j-test.true c.loop-j.invariant.1 in
    let time =
    in_time c.args.self c.args.reads c.args.n.0 c.requires.1 c.loop-j-test.true c.loop-j.invariant.1 in
    let counted =
    before c.args.self c.args.reads c.args.n.0 c.requires.1 c.loop-j-test.true c.loop-j.invariant.1 in
    let sees = c.look_along-seen.ensures in (
      run_more clocks _ _ _ _ _ _ _ _ c.loop-j.invariant.0 (omega (arith, counted, c.requires.2)) end time sees.0
          sees.1,
      next c.args.self c.args.reads c.args.n.0 c.requires.1 c.loop-j-test.true c.loop-j.invariant.1,
      sees.2,
    )

pub returns : goal.returns
returns c =
    let clocks = clocks_of c.args.self.judged c.args.reads.judged c.args.reads.p.0 c.requires.0 in
    let all : c.loop-j.j ≡ c.args.n.0 =
    omega (
      arith,
      c.loop-j-test.false,
      c.loop-j.auto.j-end,
      c.requires.1.within,
      length-take c.args.n.0 c.args.reads.lengths.now,
    ) in
    rw (← all)
    (run_some clocks _ c.args.out.now _ _ _ c.loop-j.invariant.0 (omega (arith, all, c.requires.2)))
