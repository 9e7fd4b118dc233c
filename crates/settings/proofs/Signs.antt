-- A signed number that fits is read back as it was put down, and the code's test for zero or more is the definition's.
use Rattle.std.proofs.Common.{◌≡◌, refl, sym, ◌∙◌, true, false, not, ◌^◌, ◌<◌, arith, ℤ, pos, negsuc, le-leb, le-ltb}
use Rattle.std.proofs.Common.{w64, SFits, to_z, of_z, to_z-of_z}
use Rattle.std.proofs.lemmas.Bool.{not-true, not-false}
use Rattle.std.specs.Int.Signed.{mag, le_z, lt_z}
use Rattle.settings.specs.Margins.{zero_or_more}

pub read_back : (z : ℤ) → mag z < 2 ^ 63 → to_z w64 (of_z w64 z) ≡ z
read_back z h = to_z-of_z {w = w64} (record { sfits = h })

pub by_sign : (z : ℤ) → le_z (pos 0) z ≡ zero_or_more z
by_sign (pos n) = le-leb 0 n (omega arith)
by_sign (negsuc n) = refl

-- the code's test for below zero is the opposite of the definition's
below : (z : ℤ) → lt_z z (pos 0) ≡ not (zero_or_more z)
below (pos n) = le-ltb n 0 (omega arith)
below (negsuc n) = refl

tested : (z : ℤ) → SFits w64 z → lt_z (to_z w64 (of_z w64 z)) (pos 0) ≡ not (zero_or_more z)
tested z f = rw (to_z-of_z f) (below z)

pub below_zero : (z : ℤ) → SFits w64 z → lt_z (to_z w64 (of_z w64 z)) (pos 0) ≡ true → zero_or_more z ≡ false
below_zero z f e = not-true (zero_or_more z) (sym (tested z f) ∙ e)

pub not_below_zero : (z : ℤ) → SFits w64 z → lt_z (to_z w64 (of_z w64 z)) (pos 0) ≡ false → zero_or_more z ≡ true
not_below_zero z f e = not-false (zero_or_more z) (sym (tested z f) ∙ e)
