-- A message of one bit is lost for each margin of minus two or less: with all choices high where a read starts one time
-- unit before the mark has settled, or with no choices where the first read ends one time unit into the cell.
use mathlib.Core.Path.{◌≡◌, refl, sym, ap, ◌∙◌}
use mathlib.Core.Logic.{◌≢◌, dite}
use mathlib.Core.List.{List, [], ◌∷◌}
use Prim.Native.Nat.{ℕ, zero, suc, ◌+◌, ◌*◌, ◌-◌, ◌≤◌, ◌<◌}
use native.Mathlib.Nat.{lt_of_mul-lt-mul_right}
use native.Mathlib.Decide.{dec_le}
use native.Mathlib.Omega.{arith}
use lib.ListN.{length, replicate}
use Rattle.measure.proofs.LevelLaws.{most_replicate}
use Rattle.counted.specs.Counted.{counted}
use Rattle.promises.specs.CountedReturns.{followed}
use Rattle.promises.specs.WhatNoMeans.{OneBit}
use Rattle.promises.proofs.Timing.{Margins}
use Rattle.promises.proofs.Need.{unsettled, settled_by, late_sample, short_for_mark, short_for_cell}
use Rattle.promises.proofs.Need.{short_mark, early_sample}

-- the message is not returned, with the settling count g
abbrev pub Loses : (a b g k w r : ℕ) → OneBit w → Type 0
Loses a b g k w r m =
    counted k 1 1 (settled_by g w r m.p (followed a b m.p1 m.after (m.bit ∷ [])) m.choices) ≢ m.bit ∷ []

-- where the margins are not all minus one or more, one of them is minus two or less
pub margins_or : {P : Type 0} (a b g k w1 w2 r1 r2 : ℕ) → (Margins a b g k w1 w2 r1 r2 → P)
    → (a * w1 + 2 ≤ 2 * r2 + g * w1 → P)
    → (k * r1 + 2 ≤ (a + g) * w2 + r1 → P) → ((a + b) * w1 + 2 ≤ (k + 2) * r2 + g * w1 → P) → P
margins_or a b g k w1 w2 r1 r2 all one two three =
    dite (dec_le (2 * r2 + g * w1) (suc (a * w1)))
    (λ m1.
    dite (dec_le ((a + g) * w2 + r1) (suc (k * r1)))
    (λ m2.
    dite (dec_le ((k + 2) * r2 + g * w1) (suc ((a + b) * w1))) (λ m3. all (record { m1 = m1; m2 = m2; m3 = m3 }))
    (λ h. three (omega arith)))
    (λ h. two (omega arith)))
    (λ h. one (omega arith))

-- no cycle after the wave, and so many high choices
abbrev pub high_bit : (w lead p bit m : ℕ) → p < w → bit ≤ 1 → OneBit w
high_bit w lead p bit m below is = record {
  p1 = lead;
  after = 0;
  p = p;
  bit = bit;
  choices = replicate m 1;
  phase = below;
  is_bit = is;
  are_choices = most_replicate 1 m 1 (omega arith);
}

-- a 1, no cycle after the wave and no choices
abbrev pub low_bit : (w lead p : ℕ) → p < w → OneBit w
low_bit w lead p below =
    record { p1 = lead; after = 0; p = p; bit = 1; choices = []; phase = below; is_bit = omega arith; are_choices = tt }

nothing : (found : List ℕ) (x : ℕ) → found ≡ [] → found ≢ x ∷ []
nothing found x none one = omega (arith, ap length (sym none ∙ one))

-- the least number of cycles that take x time units
pub least : (w x : ℕ) → 0 < w → (n : ℕ) × (x ≤ n * w) × (n * w < x + w)
least w zero h = (0, omega arith, omega arith)
least w (suc x) h =
    let (n, p, q) = least w x h in
    dite (dec_le (suc x) (n * w)) (λ y. (n, y, omega arith)) (λ y. (suc n, omega arith, omega arith))

-- A lead and a phase at which a read starts one time unit before the mark has settled: the first read that can, which
-- starts no earlier than cycle g - 1 ends. The lead is shorter than a read.
pub record Start (g w r : ℕ) : Type 0 where
  pub lead : ℕ
  pub p : ℕ
  pub read : ℕ
  pub below : p < w
  pub lies : p + read * r + 1 ≡ (lead + g) * w
  pub soon : read * r + w < g * w + r
  pub short : lead * w < r

pub start : (g w r : ℕ) → 0 < g → 0 < w → 0 < r → Start g w r
start zero w r hg hw hr = absurd (omega arith)
start (suc g) w r hg hw hr = go (least r (g * w) hr)
  where
    go : (j : ℕ) × (g * w ≤ j * r) × (j * r < g * w + r) → Start (suc g) w r
    go (j, x, y) = on (least w (j * r + 1) hw)
      where
        on : (t : ℕ) × (j * r + 1 ≤ t * w) × (t * w < j * r + 1 + w) → Start (suc g) w r
        on (t, u, v) = record {
          lead = t - suc g;
          p = t * w - 1 - j * r;
          read = j;
          below = omega arith;
          lies = whole (t - suc g + suc g) again;
          soon = omega arith;
          short = omega (arith, apart);
        }
          where
            settled : suc g ≤ t
            settled = lt_of_mul-lt-mul_right w (omega arith)

            again : t - suc g + suc g ≡ t
            again = omega (arith, settled)

            whole : (c : ℕ) → c ≡ t → t * w - 1 - j * r + j * r + 1 ≡ c * w
            whole c e = rw e (omega arith)

            apart : (t - suc g) * w + suc g * w ≡ t * w
            apart = split (t - suc g) (suc g) t again
              where
                split : (x y t : ℕ) → x + y ≡ t → x * w + y * w ≡ t * w
                split x y t e = rw (← e) (omega arith)

-- the number of reads, which is as many choices as can be used
abbrev pub many : (a b g w r lead p bit : ℕ) → ℕ
many a b g w r lead p bit = length (unsettled g w r p (followed a b lead 0 (bit ∷ [])))

-- all choices are high
abbrev pub LosesHigh : (a b g k w r lead p bit : ℕ) → p < w → bit ≤ 1 → Type 0
LosesHigh a b g k w r lead p bit below is =
    Loses a b g k w r (high_bit w lead p bit (many a b g w r lead p bit) below is)

module _ (a b g k w r : ℕ) (hr : 0 < r) (lead p : ℕ) (below : p < w) where
  -- read j starts one time unit before the mark has settled
  module _ (j : ℕ) (lies : p + j * r + 1 ≡ (lead + g) * w) where
    pub loses_1 : a * w + 2 ≤ 2 * r + g * w → LosesHigh a b g k w r lead p 1 below (omega arith)
    loses_1 h =
        nothing _ 1 (short_mark a b g k w r p lead 0 j (many a b g w r lead p 1) hr below lies (omega arith) h)

    pub loses_3 : (a + b) * w + 2 ≤ (k + 2) * r + g * w → LosesHigh a b g k w r lead p 0 below (omega arith)
    loses_3 h =
        nothing _ 0
        (late_sample a b g k w r p lead 0 0 (many a b g w r lead p 0) hr below (omega arith) j lies refl h)

  -- the mark of a 1, or the cell of a 0, never settles
  pub loses_mark : a ≤ g → LosesHigh a b g k w r lead p 1 below (omega arith)
  loses_mark h =
      nothing _ 1 (short_for_mark a b g k w r p lead 0 (many a b g w r lead p 1) hr below (omega arith) h)

  pub loses_cell : a + b ≤ g → LosesHigh a b g k w r lead p 0 below (omega arith)
  loses_cell h =
      nothing _ 0 (short_for_cell a b g k w r p lead 0 0 (many a b g w r lead p 0) hr below (omega arith) h)

  -- the first read ends after the cell's start, and its sample starts before the code has settled
  pub loses_2 : 0 < a → 0 < g → 0 < k → lead * w < p + r → p + k * r < (lead + (a + g)) * w
      → Loses a b g k w r (low_bit w lead p below)
  loses_2 ha hg hk touches early = early_sample a b g k w r p lead 0 ha hg hk hr below touches early
