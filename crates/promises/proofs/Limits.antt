-- The rules' limits leave room for a lost message wherever one bit fits at all: at the last phase with no lead and no
-- cycle after it it has the fewest reads, and where another lead or phase is needed, the cell is short enough for it.
use mathlib.Core.Path.{◌≡◌, refl, sym, ◌∙◌}
use mathlib.Core.Logic.{dite}
use mathlib.Core.Bool.{false, false≢true}
use mathlib.Core.List.{List, [], ◌∷◌}
use Prim.Native.Nat.{ℕ, zero, suc, ◌+◌, ◌*◌, ◌-◌, ◌≤◌, ◌<◌}
use native.Mathlib.Nat.{mul-le-mul_left, mul-le-mul_right}
use native.Mathlib.Decide.{dec_le}
use native.Mathlib.Omega.{arith}
use lib.ListN.{length, length-replicate}
use Rattle.measure.specs.Ranges.{pad_most, entries_most}
use Rattle.settings.specs.Margins.{steady}
use Rattle.settings.proofs.BothEnds.{InRange, in_range_lem}
use Rattle.sender.proofs.Waves.{followed_length, followed_levels}
use Rattle.line.specs.Smooth.{smooth}
use Rattle.line.specs.Warp.{cycle_start, read_start}
use Rattle.line.proofs.SettleLaws.{length_settle}
use Rattle.line.proofs.SmoothLaws.{length_smooth}
use Rattle.line.proofs.LineLaws.{Reads, few_reads, reads_few, over_the_line_lem, over_reads}
use Rattle.promises.specs.Places.{steadily}
use Rattle.promises.specs.WhatNoMeans.{almost_accepted, OneBit, bit_wave, bit_reads, Lost, WithinLimits}
use Rattle.promises.specs.WhatNoMeans.{LostWithinLimits}
use Rattle.promises.proofs.SignedMargins.{margins_almost}
use Rattle.promises.proofs.Need.{unsettled}
use Rattle.promises.proofs.Witness.{LosesHigh, margins_or, high_bit, low_bit, least, start, many}
use Rattle.promises.proofs.Witness.{loses_1, loses_2, loses_3, loses_mark, loses_cell}
use Rattle.promises.proofs.WhatNoMeans.{loses_lost}

-- one bit's wave and its reads
module _ (a b g w r : ℕ) (pos : 0 < r) (m : OneBit w) where
  abbrev l : List ℕ
  l = bit_wave a b m

  abbrev R : List ℕ
  R = bit_reads a b g (steadily w r m.p) m

  reads : Reads (cycle_start w) (read_start m.p r) (smooth g l) R
  reads =
      over_reads g w r m.p l m.choices pos m.phase (followed_levels a b m.p1 m.after (m.bit ∷ []))
      m.are_choices

  size : length (smooth g l) ≡ m.p1 + (a + b) + m.after
  size = length_smooth g l ∙ followed_length a b m.p1 m.after (m.bit ∷ []) ∙ omega arith

  -- the reads are within their limit exactly if one more would end after the wave
  few : (m.p1 + (a + b) + m.after) * w < m.p + suc entries_most * r → length R ≤ entries_most
  few h = few_reads reads entries_most (rw size h)

  ends_late : length R ≤ entries_most → (m.p1 + (a + b) + m.after) * w < m.p + suc entries_most * r
  ends_late h = rw size at (reads_few reads entries_most h)

  -- the witnesses are reads of the rules' line
  same_reads : length R ≡ length (unsettled g w r m.p l)
  same_reads = rw (over_the_line_lem g w r m.p l m.choices) (length_settle _ _)

module _ (a b g k w r : ℕ) (range : InRange a b g k (steady w r))
    (fits : (a + b) * w < w - 1 + suc entries_most * r) where
  -- one bit with no cycle after it, a lead and a phase that leave its reads within the limit
  within : (m : OneBit w) → m.after ≡ 0 → m.p1 ≤ pad_most → (m.p1 + (a + b)) * w < m.p + suc entries_most * r
      → length m.choices ≤ length (bit_reads a b g (steadily w r m.p) m)
      → WithinLimits a b g w r m
  within m none lead short chosen = record {
    lead = lead;
    cycles = omega (
      arith,
      followed_length a b m.p1 m.after (m.bit ∷ []),
      range.mark,
      range.code,
    );
    reads = all;
    chosen = omega (arith, all, chosen);
  }
    where
      all : length (bit_reads a b g (steadily w r m.p) m) ≤ entries_most
      all = few a b g w r range.clocks.r_least m (rw none (omega (arith, short)))

  abbrev Within : Type 0
  Within = (n : OneBit w) × (n.after ≡ 0) × WithinLimits a b g w r n × Lost a b g k (steadily w r n.p) n

  -- high choices
  high : (lead p x : ℕ) (below : p < w) (is : x ≤ 1) → lead ≤ pad_most → (lead + (a + b)) * w < p + suc entries_most * r
      → LosesHigh a b g k w r lead p x below is → Within
  high lead p x below is pad short loses = (
    m,
    refl,
    within m refl pad short (rw length-replicate (omega (arith, same_reads a b g w r range.clocks.r_least m))),
    loses_lost a b g k w r m loses,
  )
    where
      m : OneBit w
      m = high_bit w lead p x (many a b g w r lead p x) below is

  -- no choices
  low : (lead p : ℕ) (below : p < w) → lead ≤ pad_most → (lead + (a + b)) * w < p + suc entries_most * r
      → lead * w < p + r → p + k * r < (lead + (a + g)) * w → Within
  low lead p below pad short touches early = (
    low_bit w lead p below,
    refl,
    within (low_bit w lead p below) refl pad short (omega arith),
    loses_lost a b g k w r (low_bit w lead p below)
        (loses_2 a b g k w r range.clocks.r_least lead p below range.mark.0 range.settles.0
        range.sample.0 touches early),
  )

  last : w - 1 < w
  last = omega (arith, range.clocks)

  -- a lead that is shorter than a read is within its limit
  few_cycles : (n : ℕ) → n * w < r → n ≤ pad_most
  few_cycles n h = omega (arith, range.clocks, mul-le-mul_left n range.clocks.w_least)

  whole : (a + b) * w ≤ 510 * w
  whole = mul-le-mul_right w (omega (arith, range.mark, range.code))

  -- where a read starts one time unit before the mark has settled, the cell may have as many reads as fit but one
  started : (x : ℕ) (is : x ≤ 1) → (a + b) * w < w + entries_most * r
      → ((lead p : ℕ) (below : p < w) (read : ℕ) → p + read * r + 1 ≡ (lead + g) * w
      → LosesHigh a b g k w r lead p x below is)
      → Within
  started x is short loses =
      let at = start g w r range.settles.0 range.clocks.w_least range.clocks.r_least in
      high at.lead at.p x at.below is (few_cycles at.lead at.short)
      (omega (arith, short, at.lies, at.soon))
      (loses at.lead at.p at.below at.read at.lies)

  -- more cycles than g take a cycle more or longer
  one_more : (n : ℕ) → (n ≤ g → ⊥) → suc g * w ≤ n * w
  one_more n y = mul-le-mul_right w (omega (arith, y))

  -- M1: a mark that is longer than the settling count is shorter than two reads more, so the cell has few reads
  short_mark : a * w + 2 ≤ 2 * r + g * w → Within
  short_mark h =
      dite (dec_le a g)
      (λ y.
      high 0 (w - 1) 1 last (omega arith) (omega arith) (omega (arith, fits))
      (loses_mark a b g k w r range.clocks.r_least 0 (w - 1) last y))
      (λ y.
      started 1 (omega arith) (omega (arith, h, whole, one_more a y))
      (λ lead p below read lies. loses_1 a b g k w r range.clocks.r_least lead p below read lies h))

  -- M3: the same of a cell, which is shorter than k + 2 reads more
  late_sample : (a + b) * w + 2 ≤ (k + 2) * r + g * w → Within
  late_sample h =
      dite (dec_le (a + b) g)
      (λ y.
      high 0 (w - 1) 0 last (omega arith) (omega arith) (omega (arith, fits))
      (loses_cell a b g k w r range.clocks.r_least 0 (w - 1) last y))
      (λ y.
      started 0 (omega arith)
      (omega (arith, h, whole, mul-le-mul_right r range.sample.1, one_more (a + b) y))
      (λ lead p below read lies. loses_3 a b g k w r range.clocks.r_least lead p below read lies h))

  -- M2: with a lead of just under a read where that is within the limit, and with none where a cell is very long
  early : k * r + 2 ≤ (a + g) * w + r → Within
  early h =
      dite (dec_le ((a + b) * w) (entries_most * r))
      (λ y.
      let (n, u, v) = least w (r - 1) range.clocks.w_least in
      low n (n * w + 1 - r) (omega (arith, range.clocks))
      (small n w r range.clocks.w_least v range.clocks.r_most)
      (omega (arith, range.clocks))
      (omega (arith, range.clocks)) (omega (arith, range.clocks)))
      (λ y.
      low 0 (w - 1) last (omega arith) (omega (arith, fits))
      (omega (arith, range.clocks, range.clocks))
      (omega (
        arith,
        range.clocks,
        whole,
        mul-le-mul_right r range.sample.1,
        mul-le-mul_right w range.mark.0,
        mul-le-mul_right w range.settles.0,
      )))
    where
      small : (n w r : ℕ) → 0 < w → n * w < r - 1 + w → r ≤ 65535 → n ≤ pad_most
      small n zero r hw v h = elim hw [ ]
      small n (suc w) r hw v h =
          dite (dec_le n r) (λ z. omega arith) (λ z. absurd (omega (arith, mul-le-mul_right w (under n r z))))
        where
          under : (n r : ℕ) → (n ≤ r → ⊥) → 1 ≤ n
          under n r z = omega arith

  pub lose_within : almost_accepted a b g k (steady w r) ≡ false → Within
  lose_within refused =
      margins_or a b g k w w r r (λ ok. absurd (false≢true (sym refused ∙ margins_almost a b g k (steady w r) ok)))
      short_mark early late_sample

-- the message that fits says that a cell at the last phase does
pub lost_within_limits : LostWithinLimits
lost_within_limits a b g k w r ranges m limits =
    lose_within a b g k w r range
    (omega (
      arith,
      m.phase,
      mul-le-mul_right w (longer m.p1 (a + b) m.after),
      ends_late a b g w r range.clocks.r_least m limits.reads,
    ))
  where
    range : InRange a b g k (steady w r)
    range = in_range_lem a b g k (steady w r) ranges

    longer : (x y z : ℕ) → y ≤ x + y + z
    longer x y z = omega arith
