-- Steady clocks lose a message of one bit where a margin is minus two or less, with every settling count.
use Prim.Native.Nat.{ℕ, ◌+◌, ◌*◌, ◌-◌, ◌≤◌, ◌<◌}
use native.Mathlib.Omega.{arith}
use Rattle.promises.specs.WhatNoMeans.{OneBit}
use Rattle.promises.proofs.Witness.{Loses, high_bit, low_bit, least, start, many}
use Rattle.promises.proofs.Witness.{loses_1, loses_2, loses_3}

module _ (a b g k w r : ℕ) (ha : 0 < a) (hg : 0 < g) (hk : 0 < k) (hw : 0 < w) (hr : 0 < r) where
  pub lost_1 : a * w + 2 ≤ 2 * r + g * w → (m : OneBit w) × Loses a b g k w r m
  lost_1 h =
      let at = start g w r hg hw hr in (
        high_bit w at.lead at.p 1 (many a b g w r at.lead at.p 1) at.below (omega arith),
        loses_1 a b g k w r hr at.lead at.p at.below at.read at.lies h,
      )

  pub lost_2 : k * r + 2 ≤ (a + g) * w + r → (m : OneBit w) × Loses a b g k w r m
  lost_2 h =
      let (n, x, y) = least w (r - 1) hw in
      let below : n * w + 1 - r < w = omega arith in (
        low_bit w n (n * w + 1 - r) below,
        loses_2 a b g k w r hr n (n * w + 1 - r) below ha hg hk (omega arith) (omega arith),
      )

  pub lost_3 : (a + b) * w + 2 ≤ (k + 2) * r + g * w → (m : OneBit w) × Loses a b g k w r m
  lost_3 h =
      let at = start g w r hg hw hr in (
        high_bit w at.lead at.p 0 (many a b g w r at.lead at.p 0) at.below (omega arith),
        loses_3 a b g k w r hr at.lead at.p at.below at.read at.lies h,
      )
