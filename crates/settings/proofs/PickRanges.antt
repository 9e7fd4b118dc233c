-- With an M1 of zero or more, M2 starts below M1 and below M3, and no distance passes what the code can say.
use Rattle.std.proofs.Common.{◌≡◌, sym, ap, ◌∙◌, true, ℕ, ◌+◌, ◌*◌, ◌-◌, ◌≤◌, add-mul, sub-add_cancel, mul-le-mul}
use Rattle.std.proofs.Common.{mul-le-mul_left, le_of_mul-le-mul_right, arith, leb-true}
use Rattle.settings.specs.Margins.{Ends, m1, zero_or_more}
use Rattle.settings.specs.Pick.{pickable}
use Rattle.settings.proofs.Inequalities.{m1_met}
use Rattle.settings.proofs.BothEnds.{EndsFit, pick_in_range}

pub record Rising (a b g : ℕ) (e : Ends) : Type 0 where
  pub clocks : EndsFit e
  pub a_most : a ≤ 255
  pub g_most : g ≤ 64
  pub g_under : g ≤ a
  pub left : (a - g) * e.w1 + g * e.w1 ≡ a * e.w1
  pub two_reads : 2 * e.r2 + g * e.w1 ≤ a * e.w1
  pub wider : a * e.w1 ≤ a * e.w2
  pub mark : a * e.w2 ≤ 255 * 65535
  pub settles : g * e.w2 ≤ 64 * 65535
  pub code : b * e.w1 ≤ 255 * 65535

pub rising : (a b g : ℕ) (e : Ends) → pickable a b g e ≡ true → zero_or_more (m1 a g e) ≡ true → Rising a b g e
rising a b g e fits met =
    let bounds = pick_in_range a b g e fits in
    let ends = bounds.clocks in
    let keeps : 2 * e.r2 + g * e.w1 ≤ a * e.w1 = leb-true _ _ (sym (m1_met a g e) ∙ met) in
    let under : g ≤ a = le_of_mul-le-mul_right {k = e.w1} (omega arith) ends.w_least in
    let shorter : e.w1 ≤ 65535 = omega (arith, ends.w_order, ends.w_most) in
    record {
      clocks = ends;
      a_most = bounds.mark.1;
      g_most = bounds.settles.1;
      g_under = under;
      left = sym (add-mul (a - g) g e.w1) ∙ ap (λ (n : ℕ). n * e.w1) (sub-add_cancel under);
      two_reads = keeps;
      wider = mul-le-mul_left a ends.w_order;
      mark = mul-le-mul bounds.mark.1 ends.w_most;
      settles = mul-le-mul bounds.settles.1 ends.w_most;
      code = mul-le-mul bounds.code.1 shorter;
    }
