-- What a read that settles against its choices says of the wave: each cycle that shares time with it was known, so the
-- wave had its level there and at the g cycles before.
use mathlib.Core.Path.{◌≡◌, ◌∙◌}
use mathlib.Core.Logic.{dite}
use mathlib.Core.List.{List, [], ◌∷◌}
use Prim.Native.Nat.{ℕ, zero, suc, ◌+◌, ◌≤◌, ◌<◌}
use native.Mathlib.Decide.{ℕ_discrete, dec_le}
use native.Mathlib.Omega.{arith}
use lib.ListN.{length, get_or, replicate, get_or-eq_default}
use borrow.Author.Tests.{eq-eqb, ne_eqb}
use Rattle.line.specs.Warp.{warp_by}
use Rattle.line.specs.Settle.{settle}
use Rattle.line.specs.Sharing.{Shares}
use Rattle.line.proofs.Clocks.{Clocks, cycles_in_order}
use Rattle.line.proofs.ReadsThere.{read_ends}
use Rattle.line.proofs.SharedCycles.{read_is}
use Rattle.line.specs.Smooth.{smooth}
use Rattle.line.proofs.SmoothLaws.{kept}
use Rattle.line.proofs.LineLaws.{line_by}

-- a read that is v: so is each cycle that overlaps it in time
shared : {tw tr : ℕ → ℕ} → Clocks tw tr → (levels : List ℕ) (q v : ℕ) → v ≤ 1 → get_or (warp_by tw tr levels) q 2 ≡ v
    → (c : ℕ) → Shares tw tr q c → get_or levels c 2 ≡ v
shared {tw} {tr} clocks levels q v known is c shares =
    (read_is clocks levels q there).known (omega arith) c within shares ∙ is
  where
    there : q < length (warp_by tw tr levels)
    there =
        dite (dec_le (suc q) (length (warp_by tw tr levels))) (λ h. h)
        (λ h. absurd (omega (arith, get_or-eq_default (warp_by tw tr levels) 2 {n = q} (omega arith))))

    within : c < length levels
    within =
        dite (dec_le (suc c) (length levels)) (λ h. h)
        (λ h. absurd
        (omega (
          arith,
          shares.before_the_end,
          read_ends clocks levels q there,
          cycles_in_order clocks (length levels) c (omega arith),
        )))

-- with no choices, a read that settles high was high
settle_high : (rs : List ℕ) (q : ℕ) → get_or (settle rs []) q 2 ≡ 1 → get_or rs q 2 ≡ 1
unfolding settle
settle_high [] q e = e
settle_high (x ∷ xs) zero e =
    dite (ℕ_discrete x 2) (λ y. absurd (omega (arith, rw (eq-eqb x 2 y) at e))) (λ y. rw (ne_eqb x 2 y) at e)
settle_high (x ∷ xs) (suc q) e =
    dite (ℕ_discrete x 2) (λ y. settle_high xs q (rw (eq-eqb x 2 y) at e))
    (λ y. settle_high xs q (rw (ne_eqb x 2 y) at e))

-- with enough high choices, a read that settles low was low
settle_low : (rs : List ℕ) (m q : ℕ) → length rs ≤ m → get_or (settle rs (replicate m 1)) q 2 ≡ 0 → get_or rs q 2 ≡ 0
unfolding settle
settle_low [] m q h e = e
settle_low (x ∷ xs) zero q h e = absurd (omega arith)
settle_low (x ∷ xs) (suc m) zero h e =
    dite (ℕ_discrete x 2) (λ y. absurd (omega (arith, rw (eq-eqb x 2 y) at e))) (λ y. rw (ne_eqb x 2 y) at e)
settle_low (x ∷ xs) (suc m) (suc q) h e =
    dite (ℕ_discrete x 2) (λ y. settle_low xs m q (omega arith) (rw (eq-eqb x 2 y) at e))
    (λ y. settle_low xs (suc m) q (omega arith) (rw (ne_eqb x 2 y) at e))

-- cycle c of the smoothed wave can be known as u: the wave is u there and at the g cycles before, high before the first
pub record Known (g : ℕ) (l : List ℕ) (c u : ℕ) : Type 0 where
  pub before : c < g → 1 ≡ u
  pub level : (i : ℕ) → i ≤ c → c ≤ i + g → get_or l i 2 ≡ u

-- a read that shares time with cycle c and settles against its choice
module _ {tw tr : ℕ → ℕ} (clocks : Clocks tw tr) (g : ℕ) (l : List ℕ) (q c : ℕ) (shares : Shares tw tr q c) where
  known : (v : ℕ) → v ≤ 1 → get_or (warp_by tw tr (smooth g l)) q 2 ≡ v → Known g l c v
  known v lv e =
      let (o, n, f) = kept g 0 1 l c v (omega arith) (omega arith) (shared clocks (smooth g l) q v lv e c shares) in
      record { before = n; level = f }

  pub stays_high : get_or (line_by tw tr g l []) q 2 ≡ 1 → Known g l c 1
  stays_high e = known 1 (omega arith) (settle_high (warp_by tw tr (smooth g l)) q e)

  pub stays_low : (m : ℕ) → length (warp_by tw tr (smooth g l)) ≤ m
      → get_or (line_by tw tr g l (replicate m 1)) q 2 ≡ 0 → Known g l c 0
  stays_low m h e = known 0 (omega arith) (settle_low (warp_by tw tr (smooth g l)) m q h e)
