-- Times that pass the test of their ranges: a wave then has as many reads as are counted.
use Rattle.std.proofs.Common.{◌≡◌, true, ℕ, List, length}
use Rattle.line.specs.Answers.{timed}
use Rattle.line.specs.Sharing.{read_count}
use Rattle.line.specs.Warp.{warp}
use Rattle.line.proofs.Times.{timed_r, timed_p, cycle_least}
use Rattle.line.proofs.WarpLaws.{read_count_lem}

pub timed_count : (w r p : ℕ) (levels : List ℕ) → timed w r p ≡ true
    → length (warp w r p levels) ≡ read_count w r p (length levels)
timed_count w r p levels fits =
    read_count_lem w r p levels (cycle_least r (timed_r w r p fits)) (timed_p w r p fits)
