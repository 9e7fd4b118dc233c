-- `count_by` meets its contract: each turn adds a read's length, and the first read that ends too late is found, or
-- there is none.
use Rattle.std.proofs.Common.{add-one, arith}
use Rattle.line.specs.Running.{clock_of}
use Rattle.line.proofs.WanderClocks.{clock_first, next_time, next_most, end_one}
use Rattle.line.proofs.wander.Reads.count_by.Goals as goal

pub loop-j-init : goal.loop-j-init
loop-j-init c = (clock_first 1 _ _, λ k h. absurd (omega arith))

pub overflow_add-t : goal.overflow_add-t
overflow_add-t c =
    omega (
      arith,
      c.requires,
      next_most c.args.self.judged c.args.self.p.0 c.loop-j.j c.loop-j.t c.loop-j-test.true c.loop-j.invariant.0,
    )

pub returns-then-end-t : goal.returns-then-end-t
returns-then-end-t c =
    record {
      within = c.loop-j.auto.j-end;
      ends = c.loop-j.invariant.1;
      late = λ h.
          rw (
            ← add-one c.loop-j.j,
            next_time c.args.self.judged c.args.self.p.0 c.loop-j.j c.loop-j.t h c.loop-j.invariant.0,
          )
          c.if-end-t.true;
    }

pub loop-j-preserved : goal.loop-j-preserved
loop-j-preserved c =
    let next =
    next_time c.args.self.judged c.args.self.p.0 c.loop-j.j c.loop-j.t c.loop-j-test.true c.loop-j.invariant.0 in (
      next,
      end_one (clock_of 1 c.args.self.p.0 c.args.self.lengths.now) _ _ _ c.loop-j.invariant.1 next c.if-end-t.false,
    )
