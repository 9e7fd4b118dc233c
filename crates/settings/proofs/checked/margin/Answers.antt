-- `margin` meets its contract: each step stays near enough to zero to fit, so the code's signed numbers are the
-- definition's.
use Rattle.std.proofs.Common.{◌≡◌, ℕ, ◌+◌, ◌*◌, ◌≤◌, arith, pos, nat_abs, ◌-ℤ◌, ◌*ℤ◌, w64, SFits, to_z, of_z}
use Rattle.std.proofs.Common.{to_z-of_z}
use mir.Facts.{to_z_pos}
use Rattle.settings.proofs.Size.{less_size, times_size, size_fits}
use Rattle.settings.proofs.checked.margin.Goals as goal

-- the code's number of a setting is the definition's
small : (n : ℕ) → n ≤ 65536 → to_z w64 n ≡ pos n
small n h = to_z_pos w64 (omega arith)

-- each step fits
module _ (count spare cycle others other : ℕ)
    (fits : (count ≤ 65536) × (spare ≤ 65536) × (cycle ≤ 65536) × (others ≤ 65536) × (other ≤ 65536)) where
  kept-size : nat_abs (pos count -ℤ pos spare) ≤ 65536 + 65536
  kept-size = less_size (pos count) (pos spare) 65536 65536 fits.0 fits.1

  time-size : nat_abs ((pos count -ℤ pos spare) *ℤ pos cycle) ≤ (65536 + 65536) * 65536
  time-size = times_size (pos count -ℤ pos spare) (pos cycle) (65536 + 65536) 65536 kept-size fits.2

  other-size : nat_abs (pos others *ℤ pos other) ≤ 65536 * 65536
  other-size = times_size (pos others) (pos other) 65536 65536 fits.3 fits.4

  kept-fits : SFits w64 (pos count -ℤ pos spare)
  kept-fits = size_fits (pos count -ℤ pos spare) _ kept-size (omega arith)

  time-fits : SFits w64 ((pos count -ℤ pos spare) *ℤ pos cycle)
  time-fits = size_fits ((pos count -ℤ pos spare) *ℤ pos cycle) _ time-size (omega arith)

  other_fits : SFits w64 (pos others *ℤ pos other)
  other_fits = size_fits (pos others *ℤ pos other) _ other-size (omega arith)

  margin-fits : SFits w64 ((pos count -ℤ pos spare) *ℤ pos cycle -ℤ pos others *ℤ pos other)
  margin-fits =
      size_fits ((pos count -ℤ pos spare) *ℤ pos cycle -ℤ pos others *ℤ pos other)
      ((65536 + 65536) * 65536 + 65536 * 65536)
      (less_size ((pos count -ℤ pos spare) *ℤ pos cycle) (pos others *ℤ pos other) _ _ time-size other-size)
      (omega arith)

  kept : SFits w64 (to_z w64 count -ℤ to_z w64 spare)
  kept = rw (small count fits.0, small spare fits.1) kept-fits

  kept-is : to_z w64 (of_z w64 (to_z w64 count -ℤ to_z w64 spare)) ≡ pos count -ℤ pos spare
  kept-is = rw (small count fits.0, small spare fits.1) (to_z-of_z kept-fits)

  time : SFits w64 (to_z w64 (of_z w64 (to_z w64 count -ℤ to_z w64 spare)) *ℤ to_z w64 cycle)
  time = rw (kept-is, small cycle fits.2) time-fits

  time-is : to_z w64 (of_z w64 (to_z w64 (of_z w64 (to_z w64 count -ℤ to_z w64 spare)) *ℤ to_z w64 cycle))
      ≡ (pos count -ℤ pos spare) *ℤ pos cycle
  time-is = rw (kept-is, small cycle fits.2) (to_z-of_z time-fits)

  other-time : SFits w64 (to_z w64 others *ℤ to_z w64 other)
  other-time = rw (small others fits.3, small other fits.4) other_fits

  other-is : to_z w64 (of_z w64 (to_z w64 others *ℤ to_z w64 other)) ≡ pos others *ℤ pos other
  other-is = rw (small others fits.3, small other fits.4) (to_z-of_z other_fits)

pub overflow_sub-kept : goal.overflow_sub-kept
overflow_sub-kept c =
    kept _ _ _ _ _ c.requires

pub overflow_mul-time : goal.overflow_mul-time
overflow_mul-time c = time _ _ _ _ _ c.requires

pub overflow_mul-other_time : goal.overflow_mul-other_time
overflow_mul-other_time c = other-time _ _ _ _ _ c.requires

pub overflow_sub-result : goal.overflow_sub-result
overflow_sub-result c = rw (time-is _ _ _ _ _ c.requires, other-is _ _ _ _ _ c.requires) (margin-fits _ _ _ _ _ c.requires)

pub returns : goal.returns
returns c = rw (time-is _ _ _ _ _ c.requires, other-is _ _ _ _ _ c.requires) (to_z-of_z (margin-fits _ _ _ _ _ c.requires))
