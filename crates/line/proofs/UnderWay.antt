-- A read under way: with each cycle looked at, what it has found and the cycles to come still make the same read and
-- leave the same cycle.
use Rattle.std.proofs.Common.{◌≡◌, sym, ◌∙◌, true, List, ℕ, suc, ◌+◌, ◌*◌, ◌<◌, ◌≤◌, add-suc, suc-add, add-one, arith, length, drop, get_or, ltb, lt-ltb, le-ltb}
use mathlib.Core.Logic.{dite}
use native.Mathlib.Decide.{dec_lt}
use Rattle.measure.specs.Choose.{choose}
use Rattle.measure.specs.Ranges.{cycle_length}
use Rattle.line.specs.Warp.{cycle_start, reconcile, look, dropped}
use Rattle.line.specs.Looking.{UnderWay, read_from, left_from}
use Rattle.line.proofs.AgreeLaws.{reconcile_assoc}
use Rattle.line.proofs.Times.{cycle_least}
use Rattle.line.proofs.LookSteps.{look_more, look_last, dropped_more, dropped_none, dropped_end}

module _ (starts : ℕ → ℕ) (t : ℕ) (levels : List ℕ) where
  -- the first cycle has been looked at
  pub way_first : (i level next : ℕ) → i < length levels → starts i < t → get_or levels i 0 ≡ level → i + 1 ≡ next
      → UnderWay starts t levels (look starts t i (drop i levels)) (i + dropped starts t i (drop i levels)) level next
  way_first i level next here begun e n =
      rw (← e, ← n, add-one)
      (record {
        more = λ h. look_more starts t levels i 0 here h;
        done = λ h. look_last starts t levels i 0 here h;
        gone = λ h. rw (dropped_more starts t levels i here h, add-suc, ← suc-add);
        kept = λ h. omega (arith, dropped_none starts t levels i here h);
      })

  -- one cycle more has been looked at; the last one before it ended at `end`, before the read
  pub way_on : (read left level i end level' next : ℕ) → UnderWay starts t levels read left level i
      → i < length levels → starts i ≡ end → end < t
      → reconcile level (get_or levels i 0) ≡ level' → i + 1 ≡ next → UnderWay starts t levels read left level' next
  way_on read left level i end level' next way here at_end begun e n =
      let before : starts i < t = omega arith in
      rw (← e, ← n, add-one)
      (record {
        more = λ h.
            way.more before ∙ rw (look_more starts t levels i 0 here h)
            (reconcile_assoc level (get_or levels i 0) (look starts t (suc i) (drop (suc i) levels)));
        done = λ h. way.more before ∙ rw (look_last starts t levels i 0 here h);
        gone = λ h. omega (arith, way.gone (omega arith), dropped_more starts t levels i here h);
        kept = λ h. omega (arith, way.gone (omega arith), dropped_none starts t levels i here h);
      })

  -- so many cycles more have been looked at as a block has; the last one before it ended at `end`, before the read
  pub way_over : {read left level i end level' next : ℕ} → UnderWay starts t levels read left level i
      → starts i ≡ end → end < t
      → UnderWay starts t levels (reconcile level (look starts t i (drop i levels)))
      (i + dropped starts t i (drop i levels)) level' next
      → UnderWay starts t levels read left level' next
  way_over way at_end begun block = rw (way.more (omega arith), way.gone (omega arith)) block

  -- where the cycle next to the last one looked at takes time, a read that ends with the last one drops no other
  pub way_gone : {read left level next : ℕ} → UnderWay starts t levels read left level next
      → starts next ≡ t → starts next < starts (suc next) → left ≡ next
  way_gone {next = next} way with_it takes = omega (arith, way.gone (omega arith), none)
    where
      none : dropped starts t next (drop next levels) ≡ 0
      none =
          dite (dec_lt next (length levels)) (λ here. dropped_none starts t levels next here (omega arith))
          (λ past. dropped_end starts t levels next (omega arith))

-- a read that ends at t, of cycles that are w long
module _ (w t : ℕ) (levels : List ℕ) where
  -- it ends before the last cycle looked at is over
  pub finds_kept : {read left level next end v u e : ℕ} → UnderWay (cycle_start w) t levels read left level next
      → next * w ≡ end → t < end → (level ≡ v) × (u + 1 ≡ next) × (end ≡ e)
      → (read ≡ v) × (left ≡ u) × ((u + 1) * w ≡ e)
  finds_kept way at_end within (is, last, ends) =
      (way.done (omega arith) ∙ is, omega (arith, way.kept (omega arith)), rw last (at_end ∙ ends))

  -- it ends with the last cycle looked at
  pub finds_gone : {read left level next end v u e : ℕ} → cycle_length w ≡ true
      → UnderWay (cycle_start w) t levels read left level next
      → next * w ≡ end → t ≡ end → (level ≡ v) × (u ≡ next) × ((u + 1) * w ≡ e)
      → (read ≡ v) × (left ≡ u) × ((u + 1) * w ≡ e)
  finds_gone fits way at_end with_it (is, leaves, ends) = (
    way.done (omega arith) ∙ is,
    way_gone (cycle_start w) t levels way (omega arith) (omega (arith, cycle_least w fits)) ∙ sym leaves,
    ends,
  )

  -- it ends by the end of the last cycle looked at
  pub finds_left : {read left level next end v u e : ℕ} → cycle_length w ≡ true
      → UnderWay (cycle_start w) t levels read left level next → next * w ≡ end
      → (t ≤ end) × (level ≡ v) × (choose (ltb t end) (u + 1) u ≡ next) × ((u + 1) * w ≡ e)
      → (read ≡ v) × (left ≡ u) × ((u + 1) * w ≡ e)
  finds_left {end = end} fits way at_end (over, is, leaves, ends) = (
    way.done (omega arith) ∙ is,
    dite (dec_lt t end) (λ h. omega (arith, way.kept (omega arith), rw (lt-ltb t end h) at leaves))
        (λ h.
        way_gone (cycle_start w) t levels way (omega arith) (omega (arith, cycle_least w fits))
        ∙ sym (rw (le-ltb t end (omega arith)) at leaves)),
    ends,
  )

  -- the rest is reconciled with what is found
  pub finds_again : {read left level next end v u e : ℕ} → UnderWay (cycle_start w) t levels read left level next
      → next * w ≡ end → end < t
      → (read_from w t levels level next ≡ v) × (left_from w t levels next ≡ u) × ((u + 1) * w ≡ e)
      → (read ≡ v) × (left ≡ u) × ((u + 1) * w ≡ e)
  finds_again way at_end begun (is, leaves, ends) =
      (way.more (omega arith) ∙ is, way.gone (omega arith) ∙ leaves, ends)
