-- `agree_apart` meets its contract: each place so far has what its two levels agree on.
use Rattle.std.proofs.Common.{◌≡◌, ℕ, ◌<◌, get_or}
use Rattle.line.specs.Windows.{level_at, agreed_apart}
use Rattle.line.proofs.smoothing.agree_apart.Given as goal

abbrev pub invariant-loop-i : goal.invariant-loop-i
invariant-loop-i l = (k : ℕ) → k < l.i → get_or l.out k 0 ≡ agreed_apart (level_at l.levels) l.apart k
