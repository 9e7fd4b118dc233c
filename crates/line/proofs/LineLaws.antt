-- The three passes after one another, by any two clocks and with any settling count: a read whose cycles all kept one
-- level is that level, since settle keeps what is known, and every read is a level, since it is known or a choice.
use mathlib.Core.Path.{◌≡◌, ◌∙◌}
use mathlib.Core.Logic.{dite}
use mathlib.Core.List.{List}
use Prim.Native.Nat.{ℕ, suc, ◌<◌, ◌≤◌}
use native.Mathlib.Decide.{dec_le}
use native.Mathlib.Omega.{arith}
use lib.ListN.{length, get_or}
use Rattle.measure.specs.Levels.{Levels}
use Rattle.measure.proofs.LevelLaws.{get_d_any, most_at}
use Rattle.line.specs.Smooth.{smooth}
use Rattle.line.specs.Warp.{cycle_start, read_start, warp_by}
use Rattle.line.specs.Settle.{settle}
use Rattle.line.specs.Passes.{over_the_line}
use Rattle.line.proofs.Clocks.{Clocks, even_clocks}
use Rattle.line.proofs.ReadsThere.{read_there, read_ends, reads_most}
use Rattle.line.proofs.SharedCycles.{read_same}
use Rattle.line.proofs.WarpLaws.{warp_by_lem}
use Rattle.line.proofs.SettleLaws.{length_settle, settle_keeps, settle_most}
use Rattle.line.proofs.SmoothLaws.{smooth_most}

-- the reads of a wave that is smoothed with the settling count g, warped by two clocks and settled
abbrev pub line_by : (tw tr : ℕ → ℕ) (g : ℕ) (wave choices : List ℕ) → List ℕ
line_by tw tr g wave choices = settle (warp_by tw tr (smooth g wave)) choices

-- What is known of settled reads D of a smoothed wave S, up to the time end: where all cycles that share more than a
-- point of time with read j have the level v, the read is v; and every read is a level.
pub record Settled (tw tr S D : ℕ → ℕ) (end : ℕ) : Type 0 where
  pub agrees : (j v : ℕ) → v ≤ 1 → tr (suc j) ≤ end
      → ((i : ℕ) → tw i < tr (suc j) → tr j < tw (suc i) → S i ≡ v) → D j ≡ v
  pub level : (j : ℕ) → tr (suc j) ≤ end → D j ≤ 1

-- Reads rs of a smoothed wave: they are settled somehow, and they are those that end by the wave's end.
pub record Reads (tw tr : ℕ → ℕ) (smoothed rs : List ℕ) : Type 0 where
  pub settled : Settled tw tr (λ i. get_or smoothed i 2) (λ i. get_or rs i 2) (tw (length smoothed))
  pub there : (j : ℕ) → tr (suc j) ≤ tw (length smoothed) → j < length rs
  pub ends : (j : ℕ) → j < length rs → tr (suc j) ≤ tw (length smoothed)

-- there are at most so many reads exactly if one more would end after the wave
module _ {tw tr : ℕ → ℕ} {smoothed rs : List ℕ} (reads : Reads tw tr smoothed rs) (most : ℕ) where
  pub few_reads : tw (length smoothed) < tr (suc most) → length rs ≤ most
  few_reads late =
      dite (dec_le (length rs) most) (λ h. h) (λ h. absurd (omega (arith, reads.ends most (omega arith))))

  pub reads_few : length rs ≤ most → tw (length smoothed) < tr (suc most)
  reads_few few =
      dite (dec_le (tr (suc most)) (tw (length smoothed))) (λ h. absurd (omega (arith, reads.there most h)))
      (λ h. omega arith)

module _ {tw tr : ℕ → ℕ} (clocks : Clocks tw tr) (g : ℕ) (wave choices : List ℕ) (sent : Levels wave)
    (chosen : Levels choices) where
  abbrev warped : List ℕ
  warped = warp_by tw tr (smooth g wave)

  -- every settled read is a level
  pub line_levels : Levels (line_by tw tr g wave choices)
  line_levels =
      settle_most warped choices (reads_most clocks (smooth g wave) (smooth_most g 0 1 wave sent)) chosen

  pub line_reads : Reads tw tr (smooth g wave) (line_by tw tr g wave choices)
  line_reads = record {
    settled = record {
      agrees = λ j v known ends same.
          let is : get_or warped j 2 ≡ v =
          read_same clocks (smooth g wave) j v ends λ i within shares. same i shares.before_the_end
          shares.after_the_start
          in settle_keeps warped choices j (omega arith) ∙ is;
      level = λ j ends.
          let here : j < length (settle warped choices) =
          rw length_settle (read_there clocks (smooth g wave) j ends) in
          omega (
            arith,
            get_d_any (settle warped choices) j 2 0 here,
            most_at 1 (settle warped choices) line_levels j,
          );
    };
    there = λ j ends. rw length_settle (read_there clocks (smooth g wave) j ends);
    ends = λ j here. read_ends clocks (smooth g wave) j (rw length_settle at here);
  }

-- the rules' line is the case of constant lengths
module _ (g w r p : ℕ) (wave choices : List ℕ) where
  pub over_the_line_lem : over_the_line g w r p wave choices ≡ line_by (cycle_start w) (read_start p r) g wave choices
  unfolding over_the_line
  over_the_line_lem = rw (warp_by_lem w r p (smooth g wave))

  module _ (some-r : 0 < r) (phase : p < w) (sent : Levels wave) (chosen : Levels choices) where
    pub over_levels : Levels (over_the_line g w r p wave choices)
    over_levels = rw over_the_line_lem (line_levels (even_clocks w r p some-r phase) g wave choices sent chosen)

    pub over_reads : Reads (cycle_start w) (read_start p r) (smooth g wave) (over_the_line g w r p wave choices)
    over_reads = rw over_the_line_lem (line_reads (even_clocks w r p some-r phase) g wave choices sent chosen)
