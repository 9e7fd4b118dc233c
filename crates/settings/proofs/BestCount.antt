-- The best sampling count is one of two: M1 stays, M2 gains r1 with each step of k and M3 loses r2, so the least of the
-- three turns where M2 has risen to one of the others.
use Rattle.std.proofs.Common.{ℕ, ◌+◌, ◌*◌, ◌-◌, ◌≤◌, min, ◌≡◌, sym, ap, ◌∙◌, true, mul-le-mul_right, arith, leb, ltb}
use Rattle.std.proofs.Common.{pos, ◌-ℤ◌, le-leb, lt-ltb, leb-true, ltb-true, ltb-false}
use Rattle.std.specs.Int.Signed.{le_z, lt_z}
use Rattle.measure.specs.Ranges.{sampling}
use Rattle.settings.specs.Margins.{Ends, m1, m2, m3}
use Rattle.settings.specs.Pick.{least, Best}
use Rattle.settings.specs.Turning.{Turning}
use Rattle.measure.proofs.Both.{both, range_ends}
use Rattle.settings.proofs.Inequalities.{margin_is}
use Rattle.settings.proofs.PickRanges.{Rising}
use Rattle.settings.proofs.Peak.{Greatest, least_at, Turns, before, greatest_here, greatest_next}
use Rattle.settings.proofs.Slopes.{steps_below, rises_by, falls_by, slopes_turn}
use Rattle.settings.proofs.Shifted.{shifted_le, shifted_lt, shifted_lower, same_difference}

-- how far M2 starts below M1 and below M3
abbrev pub to_m1 : (a g : ℕ) (e : Ends) → ℕ
to_m1 a g e = (a - g) * e.w1 - 2 * e.r2 + (a + g) * e.w2

abbrev pub to_m3 : (a b g : ℕ) (e : Ends) → ℕ
to_m3 a b g e = to_m1 a g e + b * e.w1 - e.r2

-- the last sampling count, the last of all left out, at which M2 is below M1 and M3
abbrev pub turning : (a b g : ℕ) (e : Ends) → ℕ
turning a b g e = steps_below (to_m1 a g e) (to_m3 a b g e) e.r1 e.r2 509 + 1

-- settings whose M1 is zero or more
module _ (a b g : ℕ) (e : Ends) (h : Rising a b g e) where
  -- no margin of a sampling count in range lies so deep
  abbrev depth : ℕ
  depth = (a + g) * e.w2 + e.r1 + 513 * e.r2

  -- the heights of the three margins above it
  abbrev base : ℕ
  base = 513 * e.r2

  abbrev stays : ℕ
  stays = e.r1 + base + to_m1 a g e

  abbrev high : ℕ
  high = e.r1 + e.r2 + base + to_m3 a b g e

  abbrev height : ℕ → ℕ
  height = least_at stays (rises_by base e.r1) (falls_by high e.r2)

  m1_height : m1 a g e ≡ pos stays -ℤ pos depth
  unfolding m1
  m1_height =
      margin_is a g e.w1 2 e.r2
      ∙ same_difference (a * e.w1) (g * e.w1 + 2 * e.r2) stays depth (omega arith)

  m2_height : (k : ℕ) → m2 a g k e ≡ pos (rises_by base e.r1 k) -ℤ pos depth
  unfolding m2
  m2_height k =
      margin_is k 1 e.r1 (a + g) e.w2
      ∙ same_difference (k * e.r1) (1 * e.r1 + (a + g) * e.w2) (rises_by base e.r1 k) depth (omega arith)

  m3_height : (k : ℕ) → k ≤ 511 → m3 a b g k e ≡ pos (falls_by high e.r2 k) -ℤ pos depth
  unfolding m3
  m3_height k l =
      margin_is (a + b) g e.w1 (k + 2) e.r2
      ∙ same_difference ((a + b) * e.w1) (g * e.w1 + (k + 2) * e.r2) (falls_by high e.r2 k) depth
      (omega (arith, mul-le-mul_right e.r2 l))

  least_height : (k : ℕ) → k ≤ 511 → least a b g k e ≡ pos (height k) -ℤ pos depth
  unfolding least
  least_height k l =
      rw (m1_height, m2_height k, m3_height k l, shifted_lower depth (rises_by base e.r1 k) (falls_by high e.r2 k))
      (shifted_lower depth stays (min (rises_by base e.r1 k) (falls_by high e.r2 k)))

  height_lt : (j k : ℕ) → j ≤ 511 → k ≤ 511 → lt_z (least a b g j e) (least a b g k e) ≡ ltb (height j) (height k)
  height_lt j k l m = rw (least_height j l, least_height k m) (shifted_lt depth (height j) (height k))

  height_le : (j k : ℕ) → j ≤ 511 → k ≤ 511 → le_z (least a b g j e) (least a b g k e) ≡ leb (height j) (height k)
  height_le j k l m = rw (least_height j l, least_height k m) (shifted_le depth (height j) (height k))

  best_of : (k : ℕ) → Greatest height 511 k → Best a b g k e
  best_of k greatest = record {
    in_range = rw (le-leb 1 k greatest.first, le-leb k 511 greatest.last);
    none_better = λ j s. record {
      le =
          rw (
            height_le j k (last j s) greatest.last,
            le-leb _ _ (greatest.none_better j (first j s) (last j s)),
          ) tt;
    };
    smaller_worse = λ j s l. record {
      lt = rw (height_lt j k (last j s) greatest.last, lt-ltb _ _ (greatest.smaller_worse j (first j s) l)) tt;
    };
  }
    where
      first : (j : ℕ) → sampling j ≡ true → 1 ≤ j
      first j s = leb-true 1 j (both (leb 1 j) (leb j 511) s).0

      last : (j : ℕ) → sampling j ≡ true → j ≤ 511
      last j s = (range_ends 1 511 j s).1

  turns : Turns stays (rises_by base e.r1) (falls_by high e.r2) 511 (turning a b g e)
  turns =
      slopes_turn (to_m1 a g e) (to_m3 a b g e) e.r1 e.r2 509 base (omega arith) (omega arith)
      h.clocks.r_least

  pub best_turning : Turning a b g (turning a b g e) e
  best_turning =
      let k = turning a b g e in
      let order = height_lt k (k + 1) (omega arith) (omega arith) in
      record {
        first = omega arith;
        within = omega arith;
        least_here =
            least_height k (omega arith)
            ∙ ap (λ (n : ℕ). pos n -ℤ pos depth) (before turns k (omega arith)) ∙ sym (m2_height k);
        here = λ f. best_of k (greatest_here turns (ltb-false _ _ (sym order ∙ f)));
        next = λ f. best_of (k + 1) (greatest_next turns (ltb-true _ _ (sym order ∙ f)));
      }
