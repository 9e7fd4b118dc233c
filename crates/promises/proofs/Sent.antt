-- What a pair makes of a plan's wave and of the high cycles after it, smoothed, has the plan's rows: leads are
-- stretches of quiet, and each row's cells start from there.
use mathlib.Core.Path.{◌≡◌, subst}
use mathlib.Core.List.{List, [], ◌∷◌, ◌++◌}
use Prim.Native.Nat.{ℕ, ◌+◌, ◌*◌, ◌≤◌, ◌<◌}
use native.Mathlib.Nat.{add-zero, lt_of_mul-lt-mul_right, mul-le-mul_left}
use native.Mathlib.Omega.{arith}
use lib.ListN.{length, get_or}
use Rattle.measure.proofs.Stretches.{Stretch}
use Rattle.sender.specs.Sending.{Row, pad, plan_wave}
use Rattle.sender.proofs.PlanWaves.{size, CarriesRows, plan_length}
use Rattle.line.specs.Smooth.{smooth}
use Rattle.line.proofs.SmoothLaws.{stretch_known}
use Rattle.promises.specs.Places.{Pair, quiet_on, over}
use Rattle.promises.proofs.Timing.{Margins}
use Rattle.promises.proofs.Cells.{Holds, holds}
use Rattle.promises.proofs.Pairs.{length_over, over_carries, over_quiet}

-- The smoothed wave S, which ends with cycle L, has the rows from cycle c on, each from the quiet level v, and then
-- quiet cycles. A lead is known from its cycle g on, and so are the cycles after the last row.
abbrev pub Line : (a b g v : ℕ) (S : ℕ → ℕ) (L c : ℕ) → List Row → Type 0
Line a b g v S L c [] = (i : ℕ) → c + g ≤ i → i < L → S i ≡ v
Line a b g v S L c (row ∷ rows) =
    ((i : ℕ) → c + g ≤ i → i < c + row.lead → S i ≡ v)
    × Holds a b g S (c + row.lead) v row.bits
    × Line a b g v S L (c + row.lead + length row.bits * (a + b)) rows

-- the margins keep the settling count below the code subcell's length
pub settles_in_code : {a b g k w1 w2 r1 r2 : ℕ} → w1 ≤ w2 → r1 ≤ r2 → 0 < r1 → Margins a b g k w1 w2 r1 r2 → g < b
settles_in_code {a} {b} {g} {k} {w1} {w2} {r1} {r2} hw hr pos ok =
    lt_of_mul-lt-mul_right w1 (omega (arith, ok.m2, ok.m3, mul-le-mul_left (a + g) hw, mul-le-mul_left k hr))

module _ (a b g v : ℕ) (l : List ℕ) where
  abbrev W : ℕ → ℕ
  W i = get_or l i 2

  abbrev S : ℕ → ℕ
  S i = get_or (smooth g l) i 2

  sent_from : (rows : List Row) (c after : ℕ) → CarriesRows a b W v c rows
      → Stretch W (c + size (a + b) rows) after v → c + size (a + b) rows + after ≡ length l
      → Line a b g v S (length l) c rows
  sent_from [] c after carried quiet len = λ i p q.
      stretch_known g l 0 1 c after v (omega arith) (λ i p q. quiet i (omega arith) (omega arith)) (omega arith) i p
      (omega arith)
  sent_from (row ∷ rows) c after carried quiet len = (
    stretch_known g l 0 1 c row.lead v (omega arith) carried.0 (omega arith),
    holds a b g l row.bits (c + row.lead) v (omega arith) carried.1,
    sent_from rows (c + row.lead + length row.bits * (a + b)) after carried.2
        (λ i p q. quiet i (omega arith) (omega arith)) (omega arith),
  )

-- the wave of a plan with so many high cycles after it, over a pair and smoothed, has its rows
pub sent : (a b g : ℕ) (pair : Pair) (rows : List Row) (high : ℕ)
    → Line a b g (quiet_on pair) (λ i. get_or (smooth g (over pair (plan_wave a b rows ++ pad high))) i 2)
    (length (over pair (plan_wave a b rows ++ pad high))) 0 rows
sent a b g pair rows high =
    sent_from a b g (quiet_on pair) (over pair (plan_wave a b rows ++ pad high)) rows 0 high
    (over_carries a b high rows pair)
    (λ i p q. over_quiet a b high rows pair i (omega arith) (omega arith))
    (omega (arith, plan_length a b high rows, length_over pair (plan_wave a b rows ++ pad high)))

-- the later rows of a line are a line
pub later_line : (a b g v : ℕ) (S : ℕ → ℕ) (L : ℕ) (qs rs : List Row) (c : ℕ) → Line a b g v S L c (qs ++ rs)
    → Line a b g v S L (c + size (a + b) qs) rs
later_line a b g v S L [] rs c h = rw add-zero h
later_line a b g v S L (q ∷ qs) rs c h =
    subst (λ (d : ℕ). Line a b g v S L d rs)
    (further q.lead (length q.bits * (a + b)) (size (a + b) qs))
    (later_line a b g v S L qs rs (c + q.lead + length q.bits * (a + b)) h.2)
  where
    further : (x y z : ℕ) → c + x + y + z ≡ c + (x + y + z)
    further x y z = omega arith
