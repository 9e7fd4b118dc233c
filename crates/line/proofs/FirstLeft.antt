-- The first cycle left for a read starts by the read's start and ends after it: the read before dropped just those that
-- had ended.
use mathlib.Core.Path.{◌≡◌}
use mathlib.Core.Logic.{dite}
use mathlib.Core.List.{List}
use Prim.Native.Nat.{ℕ, zero, suc, ◌+◌, ◌-◌, ◌<◌, ◌≤◌}
use native.Mathlib.Nat.{add-zero, add-suc, suc-add}
use native.Mathlib.Decide.{dec_le}
use native.Mathlib.Omega.{arith}
use lib.ListN.{length, drop}
use Rattle.line.specs.Warp.{dropped}
use Rattle.line.specs.Sharing.{first_left}
use Rattle.line.proofs.Clocks.{Clocks}
use Rattle.line.proofs.LookSteps.{dropped_more, dropped_none, dropped_end}

-- cycle i is the first that does not end by time t, if there is one
pub record FirstAt (starts : ℕ → ℕ) (levels : List ℕ) (t i : ℕ) : Type 0 where
  pub within : i ≤ length levels
  pub begun : starts i ≤ t
  pub unended : i < length levels → t < starts (suc i)

-- what is left after the dropping starts with such a cycle
pub dropped_law : (starts : ℕ → ℕ) (t : ℕ) (levels : List ℕ) (n i : ℕ) → i + n ≡ length levels → starts i ≤ t
    → FirstAt starts levels t (i + dropped starts t i (drop i levels))
dropped_law starts t levels zero i left begun =
    rw (dropped_end starts t levels i (omega arith), add-zero)
    (record { within = omega arith; begun = begun; unended = λ h. absurd (omega arith) })
dropped_law starts t levels (suc n) i left begun =
    dite (dec_le (starts (suc i)) t)
    (λ ended.
    rw (dropped_more starts t levels i (omega arith) ended, add-suc, ← suc-add)
    (dropped_law starts t levels n (suc i) (omega arith) ended))
    (λ lasts.
    rw (dropped_none starts t levels i (omega arith) (omega arith), add-zero)
    (record { within = omega arith; begun = begun; unended = λ h. omega arith }))

-- the first cycle left for read j is the first that does not end by the read's start
pub first_left_lem : {starts reads : ℕ → ℕ} → Clocks starts reads → (levels : List ℕ) (j : ℕ)
    → FirstAt starts levels (reads j) (first_left starts reads levels j)
unfolding first_left
first_left_lem clocks levels zero = record { within = omega arith; begun = clocks.begun; unended = λ h. clocks.unended }
first_left_lem {starts} {reads} clocks levels (suc j) =
    let before = first_left_lem clocks levels j in
    dropped_law starts (reads (suc j)) levels (length levels - first_left starts reads levels j)
    (first_left starts reads levels j)
    (omega (arith, before.within)) (omega (arith, before.begun, clocks.reads_on j))
