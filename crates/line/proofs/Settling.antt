-- Smooth in the rules' own words: a cycle is unknown exactly if the level changes at it or at one of the g - 1 cycles
-- before it.
use mathlib.Core.Path.{◌≡◌, refl, sym, ap, subst, ◌∙◌}
use mathlib.Core.Logic.{◌⊎◌, inl, inr, dite, ⊎_elim}
use mathlib.Core.List.{List}
use Prim.Native.Nat.{ℕ, zero, suc, ◌+◌, ◌-◌, ◌≤◌, ◌<◌}
use native.Mathlib.Decide.{ℕ_discrete, dec_le}
use native.Mathlib.Omega.{arith}
use lib.ListN.{length}
use Rattle.measure.specs.Levels.{Levels}
use Rattle.measure.proofs.LevelLaws.{get_d_any, most_at}
use Rattle.line.specs.Smooth.{smooth}
use Rattle.line.specs.Settling.{level_before, Unsettled, SmoothLawsHold}
use Rattle.line.specs.Windows.{level_at, led}
use Rattle.line.proofs.SmoothLaws.{length_smooth, kept}
use Rattle.line.proofs.Windows.{all_agree, led_before, led_from, smooth_agreeing}

module _ (g : ℕ) (levels : List ℕ) (some : 0 < g) where
  -- the led wave has before a cycle what the wave has
  led_back : (cycle : ℕ) → led g levels (cycle + g - 1) ≡ level_before levels cycle
  led_back zero = led_before g levels (zero + g - 1) (omega arith)
  led_back (suc before) =
      led_from g levels (suc before + g - 1) (omega arith) ∙ ap (level_at levels) (omega arith)

  led_at : (cycle : ℕ) → led g levels (cycle + g) ≡ level_at levels cycle
  led_at cycle =
      led_from g levels (cycle + g) (omega arith) ∙ ap (level_at levels) (omega arith)

  module _ (i : ℕ) (there : i < length levels) where
    -- no change so far back
    abbrev Calm : ℕ → Type 0
    Calm n = (back : ℕ) → back < n → back ≤ i → level_at levels (i - back) ≡ level_before levels (i - back)

    search : (n : ℕ) → n ≤ g → Unsettled g levels i ⊎ Calm n
    search zero h = inr λ back l m. absurd (omega arith)
    search (suc n) h = ⊎_elim inl this (search n (omega arith))
      where
        this : Calm n → Unsettled g levels i ⊎ Calm (suc n)
        this calm =
            dite (dec_le n i)
            (λ l. dite (ℕ_discrete (level_at levels (i - n)) (level_before levels (i - n)))
            (λ e. inr λ back m k.
            dite (ℕ_discrete back n)
            (λ s. subst (λ (b : ℕ). level_at levels (i - b) ≡ level_before levels (i - b)) (sym s) e)
            (λ d. calm back (omega arith) k))
            (λ d. inl (record { back = n; near = omega arith; there = l; changes = d })))
            (λ l. inr λ back m k. calm back (omega arith) k)

    -- with no change, the g levels before the cycle's are its own
    same_back : Calm g → (back : ℕ) → back ≤ g → led g levels (i + g - back) ≡ level_at levels i
    same_back calm zero h =
        let e : i + g - 0 ≡ i + g = omega arith in
        rw e (led_at i)
    same_back calm (suc back) h = go (same_back calm back (omega arith)) (dec_le back i)
      where
        go : led g levels (i + g - back) ≡ level_at levels i → Dec (back ≤ i)
            → led g levels (i + g - suc back) ≡ level_at levels i
        go later (yes l) =
            let e : i + g - suc back ≡ i - back + g - 1 = omega arith in
            let f : i - back + g ≡ i + g - back = omega arith in
            rw e
            (led_back (i - back) ∙ sym (calm back (omega arith) l) ∙ sym (led_at (i - back)) ∙ rw f later)
        go later (no l) =
            led_before g levels (i + g - suc back) (omega arith)
            ∙ sym (led_before g levels (i + g - back) (omega arith)) ∙ later

    calm_stays : Calm g → level_at (smooth g levels) i ≡ level_at levels i
    calm_stays calm =
        smooth_agreeing g levels i there
        ∙ all_agree (led g levels) g i (level_at levels i) λ j p q.
        let e : i + g - (i + g - j) ≡ j = omega arith in
        rw e at (same_back calm (i + g - j) (omega arith))

    unsettled_unknown : Unsettled g levels i → level_at (smooth g levels) i ≡ 2
    unsettled_unknown u =
        dite (ℕ_discrete (level_at (smooth g levels) i) 2) (λ e. e) λ k.
        let (z, before, level) = kept g 0 1 levels i (level_at (smooth g levels) i) (omega arith) k refl in
        absurd (u.changes
        (level (i - u.back) (omega arith) (omega (arith, u.near, u.there))
        ∙ sym (earlier before level (i - u.back) (omega (arith, u.there)) (omega (arith, u.near, u.there)))))
      where
        earlier : {v : ℕ} → (i < g → 1 ≡ v) → ((j : ℕ) → j ≤ i → i ≤ j + g → level_at levels j ≡ v)
            → (cycle : ℕ) → cycle ≤ i → i < cycle + g → level_before levels cycle ≡ v
        earlier before level zero p q = before (omega arith)
        earlier before level (suc cycle) p q = level cycle (omega arith) (omega arith)

    unknown_unsettled : Levels levels → level_at (smooth g levels) i ≡ 2 → Unsettled g levels i
    unknown_unsettled all e =
        ⊎_elim (λ u. u)
        (λ calm. absurd
        (omega (arith, calm_stays calm, e, get_d_any levels i 2 0 there, most_at 1 levels all i)))
        (search g (omega arith))

    settled_stays : (Unsettled g levels i → ⊥) → level_at (smooth g levels) i ≡ level_at levels i
    settled_stays settled = ⊎_elim (λ u. absurd (settled u)) calm_stays (search g (omega arith))

pub smooth_laws_hold : SmoothLawsHold
smooth_laws_hold g levels some all = record {
  count = length_smooth g levels;
  unknown = λ i there. unsettled_unknown g levels some i there;
  only = λ i there. unknown_unsettled g levels some i there all;
  stays = λ i there. settled_stays g levels some i there;
}
