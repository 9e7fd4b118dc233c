-- Where one number gains so much a step and another loses so much, two divisions give the steps that the first stays
-- below the second and below one that does not move. The two slopes need not be equal.
use Rattle.std.proofs.Common.{ℕ, ◌+◌, ◌*◌, ◌-◌, ◌/◌, ◌≤◌, ◌<◌, min, ◌≡◌, ◌⊎◌, inl, inr, mul-le-mul_right}
use Rattle.std.proofs.Common.{div-mul-le_self, arith}
use native.Mathlib.Nat.{lt-div-mul-add}
use native.Mathlib.Decide.{dec_le}
use Rattle.settings.proofs.Peak.{Turns}

-- so many steps of a slope stay below a distance, and one more does not
steps_under : (far slope steps : ℕ) → 0 < far → steps ≤ (far - 1) / slope → steps * slope < far
steps_under far slope steps p h = omega (arith, mul-le-mul_right slope h, div-mul-le_self (far - 1) slope)

steps_over : (far slope : ℕ) → 0 < slope → far ≤ ((far - 1) / slope + 1) * slope
steps_over far slope p = omega (arith, lt-div-mul-add {a = far - 1} p)

-- the numbers at each place: the rising one starts from `base`, the falling one from `high`
abbrev pub rises_by : ℕ → ℕ → ℕ → ℕ
rises_by base gain k = k * gain + base

abbrev pub falls_by : ℕ → ℕ → ℕ → ℕ
falls_by high loss k = high - k * loss

-- The rising number starts so far below the one that stays and so far below the one that falls.
module _ (to-stays to-falls gain loss most : ℕ) where
  -- after these steps it is below both; after one more it is not, or there are no more
  record Below (steps : ℕ) : Type 0 where
    within : steps ≤ most
    under_stays : steps * gain < to-stays
    under_falls : steps * (gain + loss) < to-falls
    ends : (steps ≡ most) ⊎ (to-stays ≤ (steps + 1) * gain) ⊎ (to-falls ≤ (steps + 1) * (gain + loss))

  abbrev by_stays : ℕ
  by_stays = (to-stays - 1) / gain

  abbrev by_falls : ℕ
  by_falls = (to-falls - 1) / (gain + loss)

  abbrev pub steps_below : ℕ
  steps_below = min (min by_stays by_falls) most

  steps_end : 0 < gain → Dec (most ≤ min by_stays by_falls) → Dec (by_stays ≤ by_falls)
      → (steps_below ≡ most) ⊎ (to-stays ≤ (steps_below + 1) * gain) ⊎ (to-falls ≤ (steps_below + 1) * (gain + loss))
  steps_end g (yes h) l = inl (omega arith)
  steps_end g (no h) (yes l) =
      let e : steps_below ≡ by_stays = omega arith in
      inr (inl (rw e (steps_over to-stays gain g)))
  steps_end g (no h) (no l) =
      let e : steps_below ≡ by_falls = omega arith in
      inr (inr (rw e (steps_over to-falls (gain + loss) (omega arith))))

  below : 0 < to-stays → 0 < to-falls → 0 < gain → Below steps_below
  below p q g = record {
    within = omega arith;
    under_stays = steps_under to-stays gain steps_below p (omega arith);
    under_falls = steps_under to-falls (gain + loss) steps_below q (omega arith);
    ends = steps_end g (dec_le most (min by_stays by_falls)) (dec_le by_stays by_falls);
  }

  abbrev stays : ℕ → ℕ
  stays base = gain + base + to-stays

  abbrev falls : ℕ → ℕ → ℕ
  falls base = falls_by (gain + loss + base + to-falls) loss

  turns_after : (base steps : ℕ) → 0 < gain → Below steps
      → Turns (stays base) (rises_by base gain) (falls base) (most + 2) (steps + 1)
  turns_after base steps g h = record {
    rising = λ i j l. omega (arith, mul-le-mul_right gain l);
    falling = λ i j l. omega (arith, mul-le-mul_right loss l);
    first = omega arith;
    last = omega arith;
    below_stays = omega (arith, h.under_stays);
    below_falls = omega (arith, h.under_falls);
    turned = go h.ends;
  }
    where
      go : (steps ≡ most) ⊎ (to-stays ≤ (steps + 1) * gain) ⊎ (to-falls ≤ (steps + 1) * (gain + loss))
          → (steps + 1 + 1 ≡ most + 2)
          ⊎ (min (stays base) (falls base (steps + 1 + 1)) ≤ rises_by base gain (steps + 1 + 1))
      go (inl e) = inl (omega arith)
      go (inr (inl l)) = inr (omega arith)
      go (inr (inr l)) = inr (omega arith)

  pub slopes_turn : (base : ℕ) → 0 < to-stays → 0 < to-falls → 0 < gain
      → Turns (stays base) (rises_by base gain) (falls base) (most + 2) (steps_below + 1)
  slopes_turn base p q g = turns_after base steps_below g (below p q g)
