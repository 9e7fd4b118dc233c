-- What a pair makes of a wave, crossed or not: as many cycles, each a level, and the same rows, from the level of a
-- quiet.
use mathlib.Core.Path.{◌≡◌, refl, ap}
use mathlib.Core.List.{List, [], ◌∷◌, ◌++◌}
use Prim.Native.Nat.{ℕ, zero, suc, ◌+◌, ◌≤◌, ◌<◌}
use native.Mathlib.Omega.{arith}
use lib.ListN.{length, get_or}
use Rattle.measure.specs.Levels.{Levels}
use Rattle.measure.proofs.Stretches.{Stretch}
use Rattle.sender.specs.Sending.{opposite, Row, pad, plan_wave}
use Rattle.sender.proofs.PlanWaves.{size, CarriesRows, plan_length, plan_carries, plan_high}
use Rattle.sender.proofs.TurnedOver.{stretch_turned, rows_turned}
use Rattle.promises.specs.Places.{Pair, straight, crossed, quiet_on, turned_over, over}

pub quiet_level : (pair : Pair) → quiet_on pair ≤ 1
quiet_level straight = omega arith
quiet_level crossed = omega arith

length_turned : (wave : List ℕ) → length (turned_over wave) ≡ length wave
unfolding turned_over
length_turned [] = refl
length_turned (level ∷ levels) = ap suc (length_turned levels)

levels_turned : (wave : List ℕ) → Levels (turned_over wave)
unfolding turned_over
levels_turned [] = tt
levels_turned (level ∷ levels) = (omega arith, levels_turned levels)

append_turned : (wave more : List ℕ) → turned_over (wave ++ more) ≡ turned_over wave ++ turned_over more
unfolding turned_over
append_turned [] more = refl
append_turned (level ∷ levels) more = ap (λ (l : List ℕ). opposite level ∷ l) (append_turned levels more)

turned_at : (wave : List ℕ) (i : ℕ) → i < length wave → get_or (turned_over wave) i 2 ≡ opposite (get_or wave i 2)
unfolding turned_over
turned_at [] i h = absurd (omega arith)
turned_at (level ∷ levels) zero h = refl
turned_at (level ∷ levels) (suc i) h = turned_at levels i (omega arith)

pub length_over : (pair : Pair) (wave : List ℕ) → length (over pair wave) ≡ length wave
length_over straight wave = refl
length_over crossed wave = length_turned wave

pub levels_over : (pair : Pair) (wave : List ℕ) → Levels wave → Levels (over pair wave)
levels_over straight wave levels = levels
levels_over crossed wave levels = levels_turned wave

pub over_append : (pair : Pair) (wave more : List ℕ) → over pair (wave ++ more) ≡ over pair wave ++ over pair more
over_append straight wave more = refl
over_append crossed wave more = append_turned wave more

-- a plan's wave with so many high cycles after it, over a pair
module _ (a b after : ℕ) (rows : List Row) where
  abbrev wave : List ℕ
  wave = plan_wave a b rows ++ pad after

  pub over_carries : (pair : Pair) → CarriesRows a b (λ i. get_or (over pair wave) i 2) (quiet_on pair) 0 rows
  over_carries straight = plan_carries a b after rows
  over_carries crossed =
      rows_turned a b (λ i. get_or wave i 2) (λ i. get_or (turned_over wave) i 2) (length wave) (turned_at wave) rows 1 0
      (omega (arith, plan_length a b after rows)) (plan_carries a b after rows)

  pub over_quiet : (pair : Pair) → Stretch (λ i. get_or (over pair wave) i 2) (size (a + b) rows) after (quiet_on pair)
  over_quiet straight = plan_high a b after rows
  over_quiet crossed =
      stretch_turned a b (λ i. get_or wave i 2) (λ i. get_or (turned_over wave) i 2) (length wave) (turned_at wave)
      (size (a + b) rows) after 1 (omega (arith, plan_length a b after rows)) (plan_high a b after rows)
