-- `check_runs` meets its contract: what is counted and what is still to come give the summary, and a run that is
-- refused is the refusal.
use Rattle.std.proofs.Common.{◌-◌, length}
use Rattle.capture.specs.Answers.{headed}
use Rattle.capture.proofs.Tally.{Tally}
use Rattle.capture.proofs.reading.check_runs.Given as goal

abbrev pub invariant-loop-at : goal.invariant-loop-at
invariant-loop-at l = Tally l.bytes (headed l.head) l.at l.left l.runs

abbrev pub decreases-loop-at : goal.decreases-loop-at
decreases-loop-at l = length l.bytes - l.at
