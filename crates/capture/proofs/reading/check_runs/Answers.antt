-- `check_runs` meets its contract: what is counted and what is still to come give the summary, and a run that is
-- refused is the refusal.
use Rattle.std.proofs.Common.{arith}
use Rattle.capture.proofs.Runs.{run_read}
use Rattle.capture.proofs.Tally.{tally_none, tally_one, tally_refused, tally_low, tally_some, tally_high}
use Rattle.capture.proofs.reading.check_runs.Goals as goal
use Rattle.capture.proofs.reading.check_runs.Goals.{else-head-eq0-via-then-head-eq0+else-runs-eq0}
use Rattle.capture.proofs.reading.check_runs.Goals.{else-head-eq0-via-else-head-eq0}

pub loop-at-init : goal.loop-at-init
loop-at-init c = tally_none _ _

pub returns-in_default : goal.returns-in_default
returns-in_default c =
    tally_refused c.loop-at.invariant _ _ c.loop-at-test.true
    (rw c.unwrap_err.ensures at c.fitting_at-read.ensures)

pub overflow_sub-left : goal.overflow_sub-left
overflow_sub-left c = omega (arith, run_read _ _ _ _ c.in-Ok.ensures)

pub loop-at-smaller : goal.loop-at-smaller
loop-at-smaller c = omega (arith, run_read _ _ _ _ c.in-Ok.ensures, c.loop-at-test.true)

pub loop-at-preserved : goal.loop-at-preserved
loop-at-preserved c = tally_one c.loop-at.invariant _ c.loop-at-test.true c.in-Ok.ensures

pub returns-then-runs-eq0 : goal.returns-then-runs-eq0
returns-then-runs-eq0 c = tally_low c.loop-at.invariant c.loop-at-test.false c.if-head-eq0.true c.if-runs-eq0.true

pub returns : goal.returns
returns c =
    elim c.else-head-eq0.branch [
      | else-head-eq0-via-then-head-eq0+else-runs-eq0 w ↦
          tally_some c.loop-at.invariant c.loop-at-test.false w.if-head-eq0.true w.if-runs-eq0.false
      | else-head-eq0-via-else-head-eq0 w ↦ tally_high c.loop-at.invariant c.loop-at-test.false w.if-head-eq0.false
    ]
