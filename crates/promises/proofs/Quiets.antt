-- The quiet before a row: after a row the receiver hunts in silence, and Q reads within a settled lead make it ready
-- whatever its state was. All of it is said of any level v that a quiet has.
use mathlib.Core.Path.{◌≡◌, subst}
use mathlib.Core.List.{List, []}
use Prim.Native.Nat.{ℕ, suc, ◌+◌, ◌*◌, ◌-◌, ◌≤◌, ◌<◌}
use native.Mathlib.Nat.{lt_of_mul-lt-mul_right, mul-le-mul_right}
use native.Mathlib.Decide.{dec_le}
use native.Mathlib.Omega.{arith}
use Rattle.line.proofs.ClockBounds.{Clock, mono, span_high, reach_low}
use Rattle.line.proofs.LineLaws.{Settled}
use Rattle.board.specs.Rows.{Run, State, hunting, ready}
use Rattle.board.specs.Feeding.{Report}
use Rattle.board.proofs.Goes.{Goes, join, one_way, hunt, rise, lift}
use Rattle.promises.proofs.Timing.{Waits, Margins, Crossing, quiet, cross}
use Rattle.promises.proofs.OneRow.{Ended, two}

-- The Q reads from i0 on are the first that lie wholly within a lead, from cycle c on, without its first g cycles.
pub record Lead (tw tr : ℕ → ℕ) (g Q c lead i0 : ℕ) : Type 0 where
  pub starts : tw (c + g) ≤ tr i0
  pub first : (i : ℕ) → i < i0 → tr i < tw (c + g)
  pub ends : tr (i0 + Q) ≤ tw (c + lead)

back : (i h : ℕ) → i ≤ h → i + (h - i) ≡ h
back i h p = omega arith

module _ {tw tr S D : ℕ → ℕ} {w1 w2 r1 r2 end : ℕ} (wclk : Clock tw w1 w2) (rclk : Clock tr r1 r2) (pos : 0 < r1)
    (see : Settled tw tr S D end) {a b g k : ℕ} (ok : Margins a b g k w1 w2 r1 r2)
    (n Q : ℕ) (m4 : (a + b + g) * w2 + 2 * r1 ≤ suc (Q * r1)) where
  -- M5 gives a lead Q such reads
  pub lead_reads : (c lead : ℕ) → tr 0 ≤ tw (c + g) → (Q + 1) * r2 + g * w1 ≤ suc (lead * w1)
      → (i0 : ℕ) × Lead tw tr g Q c lead i0
  lead_reads c lead start m5 = go (cross wclk rclk pos see (tw (c + g)) (tw (c + g) - tr 0) 0 start (omega arith))
    where
      fits : g < lead
      fits = lt_of_mul-lt-mul_right w1
          (omega (arith, m5, rclk.low 0, rclk.high 0, mul-le-mul_right r2 (two wclk rclk pos see ok n Q m4)))

      go : Crossing tr r2 (tw (c + g)) 0 → (i0 : ℕ) × Lead tw tr g Q c lead i0
      go (i, x, y, z, w) = (
        i,
        record {
          starts = y;
          first = λ h p. w h (omega arith) p;
          ends = omega (arith, span_high rclk i Q, reach_low wclk c g lead (omega (arith, fits)));
        },
      )

  -- The quiet cycles have the level v.
  module _ (v : ℕ) (lv : v ≤ 1) where
    -- cycles c0 up to L are settled at v, and read i0 starts within them: so are the reads from i0 on that end by then
    level_reads : (c0 L i0 h : ℕ) → tw L ≤ end → ((i : ℕ) → c0 ≤ i → i < L → S i ≡ v) → tw c0 ≤ tr i0 → tr h ≤ tw L
        → (i : ℕ) → i0 ≤ i → i < h → D i ≡ v
    level_reads c0 L i0 h e known lo hi i p q =
        quiet wclk rclk pos see c0 L i v lv (omega (arith, below)) known (omega (arith, mono rclk i0 i p)) below
      where
        below : tr (suc i) ≤ tw L
        below = omega (arith, mono rclk (suc i) h q)

    -- After a row nothing is reported up to any read h that starts within the quiet cycles that follow, c up to L: few
    -- reads start before they have settled, and the others are all v.
    pub silent : (c L j h : ℕ) (ρ : Run) → tw L ≤ end → Ended tw tr g Q c j ρ
        → ((i : ℕ) → c + g ≤ i → i < L → S i ≡ v) → j ≤ h → tr h ≤ tw L
        → (s : State) × Goes k n Q D j (hunting ρ) [] h s
    silent c L j h ρ e ended known le to =
        go (cross wclk rclk pos see (tw (c + g)) (tw (c + g) - tr j) j ended.ends (omega (arith, ended.ends)))
      where
        -- the run stays below Q up to a read before which all start early
        short : (i : ℕ) → j ≤ i → ((x : ℕ) → j ≤ x → x < i → tr x < tw (c + g)) → ρ.reads + (i - j) < Q
        short i p early = this (dec_le i j)
          where
            this : Dec (i ≤ j) → ρ.reads + (i - j) < Q
            this (yes y) = omega (arith, ended.runs)
            this (no y) =
                omega (arith, ended.few_more (i - 1) (omega arith) (early (i - 1) (omega arith) (omega arith)))

        go : Crossing tr r2 (tw (c + g)) j → (s : State) × Goes k n Q D j (hunting ρ) [] h s
        go (i, p, settled, soon, early) = on (dec_le h i)
          where
            on : Dec (h ≤ i) → (s : State) × Goes k n Q D j (hunting ρ) [] h s
            on (yes y) =
                let (σ, z, w) =
                hunt k n Q D (h - j) j ρ (short h le (λ x q r. early x q (omega arith))) in
                (hunting σ, rw (back j h le) at w)
            on (no y) = up (hunt k n Q D (i - j) j ρ (short i p early))
              where
                up : (σ : Run) × (σ.reads ≤ ρ.reads + (i - j))
                    × Goes k n Q D j (hunting ρ) [] (j + (i - j)) (hunting σ)
                    → (s : State) × Goes k n Q D j (hunting ρ) [] h s
                up (σ, z, w) =
                    let (s, w') =
                    rise k n Q D v (h - i) i σ (omega (arith, short i p early))
                    (λ x q r. level_reads (c + g) L i h e known settled to x q (omega arith)) in
                    (s, join k n Q D (rw (back j i p) at w) (rw (back i h (omega arith)) at w'))

    -- A lead from cycle c on, settled but for its first g cycles.
    module _ (c lead i0 : ℕ) (e : tw (c + lead) ≤ end) (known : (i : ℕ) → c + g ≤ i → i < c + lead → S i ≡ v)
        (reads : Lead tw tr g Q c lead i0) where
      -- from its first read on, all that end within it are v
      pub quiet_reads : (h : ℕ) → tr h ≤ tw (c + lead) → (i : ℕ) → i0 ≤ i → i < h → D i ≡ v
      quiet_reads h p = level_reads (c + g) (c + lead) i0 h e known reads.starts p

      -- from any state the receiver is ready once the lead has been heard
      pub from_any : (s : State) → (es : List Report) × Goes k n Q D i0 s es (i0 + Q) (ready Q v)
      from_any s =
          lift k n Q D v Q i0 s (two wclk rclk pos see ok n Q m4) (omega arith) (quiet_reads (i0 + Q) reads.ends)

      pub waits : Waits tw tr D g (c + lead) v (i0 + Q)
      waits = record {
        start = omega (arith, reads.ends, mono wclk (c + lead) (c + lead + g) (omega arith));
        calm = λ i p q. quiet_reads (suc i) q i (omega arith) (omega arith);
      }

    -- from hunting after a row, whose cells end at cycle c, before the next lead: in silence
    pub readied : (c lead j i0 : ℕ) (ρ : Run) → tw (c + lead) ≤ end → Ended tw tr g Q c j ρ
        → ((i : ℕ) → c + g ≤ i → i < c + lead → S i ≡ v) → Lead tw tr g Q c lead i0
        → Goes k n Q D j (hunting ρ) [] (i0 + Q) (ready Q v)
    readied c lead j i0 ρ e ended known reads =
        go (before i0 early mid) (before (i0 + Q) (omega (arith, early)) reads.ends)
      where
        mid : tr i0 ≤ tw (c + lead)
        mid = omega (arith, reads.ends, mono rclk i0 (i0 + Q) (omega arith))

        early : j ≤ i0
        early = this (dec_le j i0)
          where
            this : Dec (j ≤ i0) → j ≤ i0
            this (yes p) = p
            this (no p) =
                absurd (omega (arith, ended.ends, reads.starts, rclk.low i0, mono rclk (suc i0) j (omega arith)))

        before : (h : ℕ) → j ≤ h → tr h ≤ tw (c + lead) → (s : State) × Goes k n Q D j (hunting ρ) [] h s
        before h p q = silent c (c + lead) j h ρ e ended known p q

        go : (s : State) × Goes k n Q D j (hunting ρ) [] i0 s → (s : State) × Goes k n Q D j (hunting ρ) [] (i0 + Q) s
            → Goes k n Q D j (hunting ρ) [] (i0 + Q) (ready Q v)
        go (s, f) (z, f') =
            let (es, w) = from_any c lead i0 e known reads s in
            subst (λ (x : State). Goes k n Q D j (hunting ρ) [] (i0 + Q) x) (one_way k n Q D f' (join k n Q D f w)).1
            f'
