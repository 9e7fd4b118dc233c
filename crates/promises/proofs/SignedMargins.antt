-- Each margin of the rules is a difference of two naturals, so that it is minus one or more is an order between these:
-- the margins of the inner theorem.
use mathlib.Core.Path.{◌≡◌, refl, sym, ◌∙◌}
use mathlib.Core.Bool.{true}
use Prim.Native.Nat.{ℕ, zero, suc, ◌+◌, ◌*◌}
use native.Mathlib.Omega.{arith}
use lib.Dec.{leb}
use lib.IntN.{ℤ, pos, negsuc, ◌+ℤ◌}
use borrow.Author.Tests.{lt-ltb, le-leb, leb-true}
use Rattle.settings.specs.Margins.{Ends, m1, m2, m3, zero_or_more, accepted}
use Rattle.measure.proofs.Both.{both_3}
use Rattle.settings.proofs.Inequalities.{accepted_keeps}
use Rattle.settings.proofs.NearlyMet.{m1_nearly, m2_nearly, m3_nearly}
use Rattle.promises.specs.WhatNoMeans.{minus_one_or_more, almost_accepted}
use Rattle.promises.proofs.Timing.{Margins}

-- minus one or more, by the sign of one more
one_more : (m : ℤ) → minus_one_or_more m ≡ zero_or_more (m +ℤ pos 1)
one_more (pos n) = refl
one_more (negsuc zero) = refl
one_more (negsuc (suc n)) = rw (lt-ltb 1 (suc (suc n)) (omega arith))

module _ (a b g k : ℕ) (e : Ends) where
  m1_almost : minus_one_or_more (m1 a g e) ≡ leb (2 * e.r2 + g * e.w1) (a * e.w1 + 1)
  m1_almost = one_more (m1 a g e) ∙ m1_nearly 1 a b g k e

  m2_almost : minus_one_or_more (m2 a g k e) ≡ leb ((a + g) * e.w2 + e.r1) (k * e.r1 + 1)
  m2_almost = one_more (m2 a g k e) ∙ m2_nearly 1 a b g k e

  m3_almost : minus_one_or_more (m3 a b g k e) ≡ leb ((k + 2) * e.r2 + g * e.w1) ((a + b) * e.w1 + 1)
  m3_almost = one_more (m3 a b g k e) ∙ m3_nearly 1 a b g k e

  pub almost_margins : almost_accepted a b g k e ≡ true → Margins a b g k e.w1 e.w2 e.r1 e.r2
  unfolding almost_accepted
  almost_margins h =
      let (one, two, three) =
      both_3 (minus_one_or_more (m1 a g e)) (minus_one_or_more (m2 a g k e)) (minus_one_or_more (m3 a b g k e)) h in
      record {
        m1 = omega (arith, leb-true (2 * e.r2 + g * e.w1) (a * e.w1 + 1) (sym m1_almost ∙ one));
        m2 = omega (arith, leb-true ((a + g) * e.w2 + e.r1) (k * e.r1 + 1) (sym m2_almost ∙ two));
        m3 = omega (arith, leb-true ((k + 2) * e.r2 + g * e.w1) ((a + b) * e.w1 + 1) (sym m3_almost ∙ three));
      }

  pub margins_almost : Margins a b g k e.w1 e.w2 e.r1 e.r2 → almost_accepted a b g k e ≡ true
  unfolding almost_accepted
  margins_almost ok =
      rw (
        m1_almost,
        m2_almost,
        m3_almost,
        le-leb (2 * e.r2 + g * e.w1) (a * e.w1 + 1) (omega (arith, ok.m1)),
        le-leb ((a + g) * e.w2 + e.r1) (k * e.r1 + 1) (omega (arith, ok.m2)),
        le-leb ((k + 2) * e.r2 + g * e.w1) ((a + b) * e.w1 + 1) (omega (arith, ok.m3)),
      )

  pub accepted_margins : accepted a b g k e ≡ true → Margins a b g k e.w1 e.w2 e.r1 e.r2
  accepted_margins h =
      let met = accepted_keeps a b g k e h in
      record { m1 = omega (arith, met.M1); m2 = omega (arith, met.M2); m3 = omega (arith, met.M3) }
