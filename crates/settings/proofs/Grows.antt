-- M5 grows with the lead pad.
use Rattle.std.proofs.Common.{◌≡◌, subst, sym, ◌∙◌, true, ℕ, ◌+◌, ◌*◌, ◌≤◌, mul-le-mul_right, arith, T, ◌≤ℤ◌, le-leb}
use Rattle.std.proofs.Common.{leb-true}
use Rattle.std.specs.Int.Signed.{le_z}
use Rattle.settings.specs.Margins.{Ends, m5, zero_or_more}
use Rattle.settings.proofs.Inequalities.{margin_is, m5_met}
use Rattle.settings.proofs.Shifted.{shifted_le}

module _ (g : ℕ) (e : Ends) (Q p1 longer : ℕ) (h : p1 ≤ longer) where
  abbrev taken : ℕ
  taken = g * e.w1 + (Q + 1) * e.r2

  m5_order : le_z (m5 g e Q p1) (m5 g e Q longer) ≡ true
  unfolding m5
  m5_order =
      rw (margin_is p1 g e.w1 (Q + 1) e.r2, margin_is longer g e.w1 (Q + 1) e.r2)
      (shifted_le taken (p1 * e.w1) (longer * e.w1)
      ∙ le-leb (p1 * e.w1) (longer * e.w1) (mul-le-mul_right e.w1 h))

  pub m5_grows : m5 g e Q p1 ≤ℤ m5 g e Q longer
  m5_grows = record { le = subst T (sym m5_order) tt }

  pub m5_stays : zero_or_more (m5 g e Q p1) ≡ true → zero_or_more (m5 g e Q longer) ≡ true
  m5_stays met =
      m5_met g e Q longer
      ∙ le-leb ((Q + 1) * e.r2 + g * e.w1) (longer * e.w1)
      (omega (
        arith,
        leb-true ((Q + 1) * e.r2 + g * e.w1) (p1 * e.w1) (sym (m5_met g e Q p1) ∙ met),
        mul-le-mul_right e.w1 h,
      ))
