-- Judging bytes one number after another: what the definitions put one after another, as laws.
use Rattle.std.proofs.Common.{ℕ, ◌+◌, ◌<◌, ◌≡◌, refl, Bool, List, length, drop}
use Rattle.measure.specs.Choose.{choose, between}
use Rattle.measure.specs.Ranges.{sampling, row_bits, quiet}
use Rattle.measure.specs.Refusals.{given, refused}
use Rattle.capture.specs.Numbers.{group, further, placed, number_at}
use Rattle.capture.specs.Capture.{then, fitting_at, four_numbers, header, fits_after, joined, runs_from, with_runs}
use Rattle.capture.specs.Capture.{capture}
use Rattle.capture.proofs.Runs.{runs_here}

-- a number is what stands at the front of the bytes from its place on
pub number_is : (s : List ℕ) (at : ℕ) → number_at s at ≡ placed at (group further (drop at s))
unfolding number_at
number_is s at = refl

-- it has to pass its test
pub fitting_then : (fits : ℕ → Bool) (s : List ℕ) (at : ℕ)
    → fitting_at fits s at ≡ then (number_at s at) (λ n. choose (fits n.value) (given n) (refused 8 at))
unfolding fitting_at
fitting_then fits s at = refl

-- four come first
pub four_then : (s : List ℕ) → four_numbers s
    ≡ then (fitting_at sampling s 0) (λ k.
    then (fitting_at row_bits s k.after) (λ n.
    then (fitting_at quiet s n.after) (λ Q.
    then (fitting_at (between 0 1) s Q.after) (λ level.
    given
    (record {
      k = k.value;
      n = n.value;
      Q = Q.value;
      level = level.value;
      level_at = Q.after;
      after = level.after;
    })))))
unfolding four_numbers
four_then s = refl

-- a run is a number that fits after those before it, and comes before the runs that follow
pub runs_then : (total : ℕ) (s : List ℕ) (at : ℕ) → at < length s
    → runs_from total s at
    ≡ then (fitting_at (fits_after total) s at)
    (λ run. joined run.value (runs_from (total + run.value) s run.after))
runs_then total s at h = runs_here total s at h

-- a capture is its header and its runs
pub capture_then : (s : List ℕ) → capture s ≡ then (header s) (λ h. then (runs_from 0 s h.after) (with_runs h))
unfolding capture
capture_then s = refl
