-- When M1, M2 and M3 are -d or more, said without a difference: what a margin takes away is at most d more than it has.
use Rattle.std.proofs.Common.{◌≡◌, ap, ◌∙◌, ℕ, ◌+◌, ◌*◌, arith, leb, pos, ◌+ℤ◌}
use Rattle.settings.specs.Margins.{Ends, m1, m2, m3, zero_or_more}
use Rattle.settings.proofs.Inequalities.{margin_least}

module _ (d a b g k : ℕ) (e : Ends) where
  pub m1_nearly : zero_or_more (m1 a g e +ℤ pos d) ≡ leb (2 * e.r2 + g * e.w1) (a * e.w1 + d)
  unfolding m1
  m1_nearly = margin_least d a g e.w1 2 e.r2 ∙ ap (λ (n : ℕ). leb n (a * e.w1 + d)) (omega arith)

  pub m2_nearly : zero_or_more (m2 a g k e +ℤ pos d) ≡ leb ((a + g) * e.w2 + e.r1) (k * e.r1 + d)
  unfolding m2
  m2_nearly = margin_least d k 1 e.r1 (a + g) e.w2 ∙ ap (λ (n : ℕ). leb n (k * e.r1 + d)) (omega arith)

  pub m3_nearly : zero_or_more (m3 a b g k e +ℤ pos d) ≡ leb ((k + 2) * e.r2 + g * e.w1) ((a + b) * e.w1 + d)
  unfolding m3
  m3_nearly =
      margin_least d (a + b) g e.w1 (k + 2) e.r2 ∙ ap (λ (n : ℕ). leb n ((a + b) * e.w1 + d)) (omega arith)
