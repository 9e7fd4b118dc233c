-- The exact rule: margins at minus one or more are those of the inner theorem, and where one is less, steady clocks at
-- the worse corner of the ends lose a message, and so do lists of their lengths. The harmless "no" is computed, and for
-- that the margins are unfolded.
use mathlib.Core.Path.{◌≡◌, refl, sym, subst, ◌∙◌}
use mathlib.Core.Bool.{Bool, true, false, false≢true}
use mathlib.Core.List.{List, [], ◌∷◌}
use Prim.Native.Nat.{ℕ, ◌≤◌}
use native.Mathlib.Omega.{arith}
use Rattle.settings.specs.Margins.{Ends, steady, m1, m2, m3, accepted}
use Rattle.line.proofs.LineLaws.{over_the_line_lem}
use Rattle.promises.specs.Places.{steadily}
use Rattle.promises.specs.Reaching.{WithinEnds, equal_lengths, SameByLengths}
use Rattle.promises.specs.CountedReturns.{found, EveryMessageReturned}
use Rattle.promises.specs.WhatNoMeans.{almost_accepted, OneBit, bit_wave, Lost, LostWithin, MarginsAreExact}
use Rattle.promises.specs.WhatNoMeans.{HarmlessNo}
use Rattle.promises.proofs.Timing.{Margins}
use Rattle.promises.proofs.SignedMargins.{almost_margins, margins_almost}
use Rattle.promises.proofs.Reaches.{steady_by_lengths}
use Rattle.promises.proofs.CountedReturns.{returned, unless}
use Rattle.promises.proofs.Witness.{Loses, margins_or}
use Rattle.promises.proofs.Exact.{lost_1, lost_2, lost_3}

-- what is lost by clocks of constant length is lost on the rules' line
pub loses_lost : (a b g k w r : ℕ) (m : OneBit w) → Loses a b g k w r m → Lost a b g k (steadily w r m.p) m
loses_lost a b g k w r m loses =
    rw (over_the_line_lem g w r m.p (bit_wave a b m) m.choices) loses

unless_false : (b : Bool) → (b ≡ false → ⊥) → b ≡ true
unless_false true h = refl
unless_false false h = absurd (h refl)

module _ (a b g k : ℕ) (e : Ends) (ha : 1 ≤ a) (hg : 1 ≤ g) (hk : 1 ≤ k) (hw : 1 ≤ e.w1) (ww : e.w1 ≤ e.w2)
    (hr : 1 ≤ e.r1) (rr : e.r1 ≤ e.r2) where
  -- steady clocks at a corner of the ends, which are refused themselves, lose it by lists of equal lengths too
  at_corner : (w r : ℕ) → WithinEnds e w r → (Margins a b g k w w r r → ⊥)
      → (m : OneBit w) × Loses a b g k w r m → LostWithin a b g k e
  at_corner w r within none (m, loses) = record {
    w = w;
    r = r;
    within = within;
    worse =
        unless (almost_accepted a b g k (steady w r)) (λ met. none (almost_margins a b g k (steady w r) met));
    message = m;
    fits = same.fits;
    lost = λ found_it. loses_lost a b g k w r m loses
        (subst (λ (l : List ℕ). found k (m.bit ∷ []) l ≡ m.bit ∷ []) (same.same_reads g m.choices) found_it);
  }
    where
      same : SameByLengths e w r m.p (bit_wave a b m)
      same = steady_by_lengths e w r m.p (bit_wave a b m) within (omega (arith, within.r_least)) m.phase

  slow_reads : WithinEnds e e.w1 e.r2
  slow_reads = record { w_least = omega arith; w_most = ww; r_least = rr; r_most = omega arith }

  quick_reads : WithinEnds e e.w2 e.r1
  quick_reads = record { w_least = ww; w_most = omega arith; r_least = omega arith; r_most = rr }

  lose : almost_accepted a b g k e ≡ false → LostWithin a b g k e
  lose refused =
      margins_or a b g k e.w1 e.w2 e.r1 e.r2
      (λ ok. absurd (false≢true (sym refused ∙ margins_almost a b g k e ok)))
      (λ h. at_corner e.w1 e.r2 slow_reads (λ ok. omega (arith, ok.m1, h))
      (lost_1 a b g k e.w1 e.r2 ha hg hk hw (omega arith) h))
      (λ h. at_corner e.w2 e.r1 quick_reads (λ ok. omega (arith, ok.m2, h))
      (lost_2 a b g k e.w2 e.r1 ha hg hk (omega arith) hr h))
      (λ h. at_corner e.w1 e.r2 slow_reads (λ ok. omega (arith, ok.m3, h))
      (lost_3 a b g k e.w1 e.r2 ha hg hk hw (omega arith) h))

  -- so not every message is returned
  refute : EveryMessageReturned a b g k e → LostWithin a b g k e → ⊥
  refute every at =
      let m = at.message in
      at.lost
      (every (equal_lengths e at.w at.r m.p (bit_wave a b m)) refl m.p1 m.after (m.bit ∷ []) m.choices
      at.fits (m.is_bit, tt) m.are_choices)

pub margins_are_exact : MarginsAreExact
margins_are_exact a b g k e ha hg hk hw ww hr rr = record {
  enough = λ met. returned a b g k e hg hr (almost_margins a b g k e met);
  needed =
      λ every. unless_false (almost_accepted a b g k e)
      (λ refused. refute a b g k e ha hg hk hw ww hr rr every (lose a b g k e ha hg hk hw ww hr rr refused));
  lost = lose a b g k e ha hg hk hw ww hr rr;
}

pub harmless_no : HarmlessNo
unfolding almost_accepted accepted m1 m2 m3
harmless_no = record {
  least = (refl, refl, refl);
  refused = refl;
  returned =
      (margins_are_exact 2 5 1 4 (steady 1 1) (omega arith) (omega arith) (omega arith) (omega arith) (omega arith)
      (omega arith) (omega arith)).enough refl;
}
