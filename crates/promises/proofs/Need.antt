-- The margins are needed: where one is minus two or less, a read of a message of one bit settles wrongly, since it
-- shares time with a cycle that is not known.
use mathlib.Core.Path.{◌≡◌, sym, ap, ◌∙◌}
use mathlib.Core.Logic.{◌≢◌, dite}
use mathlib.Core.List.{List, [], ◌∷◌}
use Prim.Native.Nat.{ℕ, suc, ◌+◌, ◌*◌, ◌-◌, ◌≤◌, ◌<◌}
use native.Mathlib.Nat.{zero-add, mul-le-mul_right, lt_of_mul-lt-mul_right}
use native.Mathlib.Decide.{ℕ_discrete, dec_le}
use native.Mathlib.Omega.{arith}
use lib.ListN.{length, get_or, replicate, get_or-eq_default}
use Rattle.measure.specs.Levels.{Levels}
use Rattle.measure.proofs.LevelLaws.{most_replicate}
use Rattle.sender.proofs.Waves.{followed_length, followed_levels, followed_carries, followed_leads, followed_high}
use Rattle.line.specs.Smooth.{smooth}
use Rattle.line.specs.Warp.{cycle_start, read_start, warp_by}
use Rattle.line.proofs.Clocks.{even_clocks}
use Rattle.line.proofs.ClockBounds.{cycle_of}
use Rattle.line.proofs.SmoothLaws.{length_smooth}
use Rattle.line.proofs.LineLaws.{line_by, Reads, line_reads}
use Rattle.line.proofs.KnownCycles.{Known, stays_high, stays_low}
use Rattle.counted.specs.Counted.{counted}
use Rattle.counted.proofs.Samples.{counted_step, counted_late}
use Rattle.promises.specs.CountedReturns.{followed}

-- all that is low of the wave of one bit is in its cell
low_in_cell : (a b p1 after x c : ℕ) → get_or (followed a b p1 after (x ∷ [])) c 2 ≡ 0 → c < p1 + (a + b)
low_in_cell a b p1 after x c e =
    dite (dec_le (suc c) (p1 + (a + b))) (λ h. h) λ h. absurd (
    dite (dec_le (suc c) (p1 + 1 * (a + b) + after))
    (λ t. omega (arith, followed_high a b p1 after (x ∷ []) c (omega arith) t))
    λ t. omega (
      arith,
      get_or-eq_default (followed a b p1 after (x ∷ [])) 2 {n = c}
          (omega (arith, followed_length a b p1 after (x ∷ []))),
    )
    )

-- and of a 1 in its mark
low_in_mark : (a b p1 after c : ℕ) → get_or (followed a b p1 after (1 ∷ [])) c 2 ≡ 0 → c < p1 + a
low_in_mark a b p1 after c e =
    dite (dec_le (suc c) (p1 + a)) (λ h. h) λ h. absurd
    (omega (
      arith,
      (followed_carries a b p1 after (1 ∷ [])).1 c (omega arith) (omega (arith, low_in_cell a b p1 after 1 c e)),
    ))

-- the reads of constant clocks over a wave with the settling count g, before they are settled
abbrev pub unsettled : (g w r p : ℕ) (l : List ℕ) → List ℕ
unsettled g w r p l = warp_by (cycle_start w) (read_start p r) (smooth g l)

-- settled by these choices, by m high ones alone, and by none
abbrev pub settled_by : (g w r p : ℕ) (l choices : List ℕ) → List ℕ
settled_by g w r p l choices = line_by (cycle_start w) (read_start p r) g l choices

abbrev pub settled_high : (g w r p m : ℕ) (l : List ℕ) → List ℕ
settled_high g w r p m l = settled_by g w r p l (replicate m 1)

abbrev pub settled_low : (g w r p : ℕ) (l : List ℕ) → List ℕ
settled_low g w r p l = settled_by g w r p l []

module _ (g w r p : ℕ) (l choices : List ℕ) (pos : 0 < r) (below : p < w) (levels : Levels l)
    (chosen : Levels choices) where
  reads : Reads (cycle_start w) (read_start p r) (smooth g l) (settled_by g w r p l choices)
  reads = line_reads (even_clocks w r p pos below) g l choices levels chosen

  ends_by : (q : ℕ) → q < length (settled_by g w r p l choices) → p + suc q * r ≤ length l * w
  ends_by q h = rw length_smooth at (reads.ends q h)

  is_level : (q : ℕ) → q < length (settled_by g w r p l choices) → get_or (settled_by g w r p l choices) q 2 ≤ 1
  is_level q h = reads.settled.level q (reads.ends q h)

-- All choices are high.
module _ (a b g k w r p p1 after x m : ℕ) (pos : 0 < r) (below : p < w)
    (enough : length (unsettled g w r p (followed a b p1 after (x ∷ []))) ≤ m) where
  abbrev l : List ℕ
  l = followed a b p1 after (x ∷ [])

  abbrev R : List ℕ
  R = settled_high g w r p m l

  ends : (q : ℕ) → q < length R → p + suc q * r ≤ (p1 + 1 * (a + b) + after) * w
  ends q h =
      rw (followed_length a b p1 after (x ∷ []))
      at (ends_by g w r p l (replicate m 1) pos below (followed_levels a b p1 after (x ∷ []))
      (most_replicate 1 m 1 (omega arith)) q h)

  -- a read that is not high: each cycle that it shares time with was low
  low : (q : ℕ) → q < length R → get_or R q 2 ≢ 1 → (c : ℕ) → c * w < p + suc q * r → p + q * r < suc c * w
      → Known g l c 0
  low q h d c begins ends =
      stays_low (even_clocks w r p pos below) g l q c
      (record { before_the_end = begins; after_the_start = ends }) m enough
      (omega (
        arith,
        d,
        is_level g w r p l (replicate m 1) pos below (followed_levels a b p1 after (x ∷ []))
            (most_replicate 1 m 1 (omega arith)) q h,
      ))

  -- the cycle in which a read starts that is not high
  start_low : (q : ℕ) → q < length R → get_or R q 2 ≢ 1
      → (c : ℕ) × (c * w ≤ p + q * r) × (p + q * r < suc c * w) × Known g l c 0
  start_low q h d =
      let (c, y, z, u, v) =
      cycle_of (cycle_start w) (p + q * r) (p1 + 1 * (a + b) + after) 0 (omega arith)
      (rw zero-add (omega (arith, ends q h))) in
      (c, u, v, low q h d c (omega arith) v)

  -- no cycle is known low before the mark has settled, so a read that starts in none but such is high
  high_in : (q : ℕ) → q < length R
      → ((c : ℕ) → c * w ≤ p + q * r → get_or l c 2 ≡ 0 → c < p1 + g) → get_or R q 2 ≡ 1
  high_in q h soon = dite (ℕ_discrete (get_or R q 2) 1) (λ e. e) (λ d. absurd (on (start_low q h d)))
    where
      on : (c : ℕ) × (c * w ≤ p + q * r) × (p + q * r < suc c * w) × Known g l c 0 → ⊥
      on (c, u, v, n) =
          dite (dec_le g c)
          (λ y. omega (
            arith,
            n.level (c - g) (omega arith) (omega arith),
            followed_leads a b p1 after (x ∷ []) (c - g)
                (omega (arith, soon c u (n.level c (omega arith) (omega arith)))),
          ))
          (λ y. omega (arith, n.before (omega arith)))

  -- the cell is low for no longer than a change takes to settle: every read is high
  pub never_settles : ((c : ℕ) → get_or l c 2 ≡ 0 → c < p1 + g) → counted k 1 1 R ≡ []
  never_settles soon =
      counted_late k 1 1 R (length R) 2 (λ q y h. high_in q h (λ c u e. soon c e)) (omega arith)

  -- read j starts one time unit before the mark has settled
  module _ (j : ℕ) (lies : p + j * r + 1 ≡ (p1 + g) * w) where
    -- the reads up to j are high
    high_to : (q : ℕ) → q ≤ j → q < length R → get_or R q 2 ≡ 1
    high_to q le h =
        high_in q h (λ c u e. lt_of_mul-lt-mul_right w (omega (arith, mul-le-mul_right r le)))

    -- M3 is minus two or less, and nothing follows the wave: the sample would be read past the wave's end
    pub late_sample : after ≡ 0 → (a + b) * w + 2 ≤ (k + 2) * r + g * w → counted k 1 1 R ≡ []
    late_sample none m3 =
        counted_late k 1 1 R (j + 1) 2 (λ i p q. high_to i (omega arith) q)
        (dite (dec_le (length R) (j + 1 + k)) (λ h. h)
        (λ h. absurd (omega (arith, rw shape at (ends (j + 1 + k) (omega arith))))))
      where
        shape : p1 + 1 * (a + b) + after ≡ p1 + (a + b)
        shape = omega arith

-- a mark, or a whole cell of a 0, that is no longer than the settling count never settles
pub short_for_mark : (a b g k w r p p1 after m : ℕ) → 0 < r → p < w
    → length (unsettled g w r p (followed a b p1 after (1 ∷ []))) ≤ m → a ≤ g
    → counted k 1 1 (settled_high g w r p m (followed a b p1 after (1 ∷ []))) ≡ []
short_for_mark a b g k w r p p1 after m pos below enough ag =
    never_settles a b g k w r p p1 after 1 m pos below enough (λ c e. omega (arith, low_in_mark a b p1 after c e))

pub short_for_cell : (a b g k w r p p1 after x m : ℕ) → 0 < r → p < w
    → length (unsettled g w r p (followed a b p1 after (x ∷ []))) ≤ m → a + b ≤ g
    → counted k 1 1 (settled_high g w r p m (followed a b p1 after (x ∷ []))) ≡ []
short_for_cell a b g k w r p p1 after x m pos below enough abg =
    never_settles a b g k w r p p1 after x m pos below enough (λ c e. omega (arith, low_in_cell a b p1 after x c e))

-- M1 is minus two or less: no read lies wholly within the settled mark of a 1, so every read is high
pub short_mark : (a b g k w r p p1 after j m : ℕ) → 0 < r → p < w → p + j * r + 1 ≡ (p1 + g) * w
    → length (unsettled g w r p (followed a b p1 after (1 ∷ []))) ≤ m → a * w + 2 ≤ 2 * r + g * w
    → counted k 1 1 (settled_high g w r p m (followed a b p1 after (1 ∷ []))) ≡ []
short_mark a b g k w r p p1 after j m pos below lies enough m1 =
    counted_late k 1 1 reads (length reads) 2
    (λ q y h. dite (dec_le q j) (λ le. high_to a b g k w r p p1 after 1 m pos below enough j lies q le h)
    (λ gt. high q h gt)) (omega arith)
  where
    reads : List ℕ
    reads = settled_high g w r p m (followed a b p1 after (1 ∷ []))

    high : (q : ℕ) → q < length reads → (q ≤ j → ⊥) → get_or reads q 2 ≡ 1
    high q h gt =
        dite (ℕ_discrete (get_or reads q 2) 1) (λ e. e)
        (λ d. absurd (on d (start_low a b g k w r p p1 after 1 m pos below enough q h d)))
      where
        on : get_or reads q 2 ≢ 1
            → (c : ℕ) × (c * w ≤ p + q * r) × (p + q * r < suc c * w) × Known g (followed a b p1 after (1 ∷ [])) c 0 → ⊥
        on d (c, u, v, n) =
            dite (dec_le (p + suc q * r) ((p1 + a) * w))
            (λ y. omega (arith, mul-le-mul_right r (wider q j gt)))
            (λ y.
            omega (
              arith,
              low_in_mark a b p1 after (p1 + a)
                  ((low a b g k w r p p1 after 1 m pos below enough q h d (p1 + a) (omega arith)
                  (omega (arith, mul-le-mul_right w within))).level
                  (p1 + a) (omega arith) (omega arith)),
            ))
          where
            within : c < p1 + a
            within = low_in_mark a b p1 after c (n.level c (omega arith) (omega arith))

            wider : (q j : ℕ) → (q ≤ j → ⊥) → suc (suc j) ≤ suc q
            wider q j gt = omega arith

-- M2 is minus two or less, and there are no choices: the first read touches the cell's start and settles low, and its
-- sample starts before the code has settled
pub early_sample : (a b g k w r p p1 after : ℕ) → 0 < a → 0 < g → 0 < k → 0 < r → p < w → p1 * w < p + r
    → p + k * r < (p1 + (a + g)) * w
    → counted k 1 1 (settled_low g w r p (followed a b p1 after (1 ∷ []))) ≢ 1 ∷ []
early_sample a b g k w r p p1 after ha hg hk pos below touches early same =
    dite (dec_le (suc k) (length reads)) sampled_low
    (λ h. let none : [] ≡ 1 ∷ [] = sym (counted_late k 1 1 reads 0 2 (λ i p q. absurd (omega arith)) (omega arith))
    ∙ same in omega (arith, ap length none))
  where
    sent : List ℕ
    sent = followed a b p1 after (1 ∷ [])

    reads : List ℕ
    reads = settled_low g w r p sent

    -- the cycles of the mark and the first g of the code are not known high
    unknown : (c : ℕ) → p1 ≤ c → c < p1 + (a + g) → Known g sent c 1 → ⊥
    unknown c x y h =
        dite (dec_le (suc c) (p1 + a))
        (λ z. omega (arith, h.level c (omega arith) (omega arith), (followed_carries a b p1 after (1 ∷ [])).0 c x z))
        (λ z.
        omega (
          arith,
          h.level (p1 + (a - 1)) (omega arith) (omega arith),
          (followed_carries a b p1 after (1 ∷ [])).0 (p1 + (a - 1)) (omega arith) (omega arith),
        ))

    -- so a read that shares time with one of them settles low
    low_read : (q c : ℕ) → q < length reads → p1 ≤ c → c < p1 + (a + g) → c * w < p + suc q * r → p + q * r < suc c * w
        → get_or reads q 2 ≡ 0
    low_read q c there x y u v =
        dite (ℕ_discrete (get_or reads q 2) 1)
        (λ e. absurd
        (unknown c x y
        (stays_high (even_clocks w r p pos below) g sent q c
        (record { before_the_end = u; after_the_start = v }) e)))
        (λ d. omega (arith, d, is_level g w r p sent [] pos below (followed_levels a b p1 after (1 ∷ [])) tt q there))

    sampled_low : k < length reads → ⊥
    sampled_low h =
        let (c, x, y, u, v) =
        cycle_of (cycle_start w) (p + k * r) (a + g) p1 (omega (arith, mul-le-mul_right r hk)) (omega arith) in
        let mark : get_or reads 0 2 ≡ 0 =
        low_read 0 p1 (omega arith) (omega arith) (omega arith) (omega arith) (omega arith) in
        let sample : get_or reads (0 + k) 2 ≡ 0 = rw zero-add (low_read k c h x y (omega arith) v) in
        let zero-found =
        counted_step k 0 1 reads 0 0 2 (omega arith) (omega arith) (λ i p q. absurd (omega arith))
        (omega (arith, mark)) in
        let wrong : ◌≡◌ {A = ℕ} 0 1 = cc (rw (mark, sample) at zero-found) in
        omega arith
