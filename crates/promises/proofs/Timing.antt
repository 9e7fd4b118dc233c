-- One cell of the line, read by another clock: the margins place its mark within its settled mark subcell and its
-- sample within its settled code subcell.
use mathlib.Core.Path.{◌≡◌, subst}
use mathlib.Core.Logic.{◌≢◌}
use Prim.Native.Nat.{ℕ, zero, suc, ◌+◌, ◌*◌, ◌-◌, ◌≤◌, ◌<◌, suc-le-suc}
use native.Mathlib.Nat.{add-zero, add-suc, lt_of_mul-lt-mul_right, mul-le-mul_left}
use native.Mathlib.Numerals.{add-one}
use native.Mathlib.Omega.{arith}
use native.Mathlib.Decide.{ℕ_discrete, dec_le}
use Rattle.line.proofs.ClockBounds.{Clock, span_high, reach_low, mono}
use Rattle.line.proofs.LineLaws.{Settled}

-- M1, M2 and M3 are -1 or more, with no difference written, for clocks from w1 to w2 and r1 to r2 and the settling
-- count g
pub record Margins (a b g k w1 w2 r1 r2 : ℕ) : Type 0 where
  pub m1 : 2 * r2 + g * w1 ≤ suc (a * w1)
  pub m2 : (a + g) * w2 + r1 ≤ suc (k * r1)
  pub m3 : (k + 2) * r2 + g * w1 ≤ suc ((a + b) * w1)

-- a cell at cycle c: what is settled of its mark, opposite to the level v before it, and of its code, at the level u
pub record Cell (S : ℕ → ℕ) (a b g c v u : ℕ) : Type 0 where
  pub mark : (i : ℕ) → c + g ≤ i → i < c + a → S i ≡ 1 - v
  pub code : (i : ℕ) → c + (a + g) ≤ i → i < c + (a + b) → S i ≡ u

-- from read j on the reads are v as long as they end before cycle c, and j itself starts in time for a mark there
pub record Waits (tw tr D : ℕ → ℕ) (g c v j : ℕ) : Type 0 where
  pub start : tr j ≤ tw (c + g)
  pub calm : (i : ℕ) → j ≤ i → tr (suc i) ≤ tw c → D i ≡ v

-- Read m is the mark of the cell at cycle c for a receiver that waits at v from read j on, and read m + k its sample,
-- at the level u
pub record Heard (tw tr D : ℕ → ℕ) (a b g k r2 c v u j m : ℕ) : Type 0 where
  pub from : j ≤ m
  pub before : (i : ℕ) → j ≤ i → i < m → D i ≡ v
  pub differs : D m ≡ 1 - v
  pub edge : tw c < tr (suc m)
  pub soon : tr m < tw (c + g) + r2
  pub touch : (i : ℕ) → j ≤ i → i < m → tr i < tw (c + g)
  pub late : tw (c + (a + g)) ≤ tr (m + k)
  pub ends : tr (suc (m + k)) ≤ tw (c + (a + b))
  pub sample : D (m + k) ≡ u
  pub next : Waits tw tr D g (c + (a + b)) u (m + k)

-- the first read from j on that is not v, where one at j + n is not
pub first : (D : ℕ → ℕ) (v n j : ℕ) → D (j + n) ≢ v
    → (m : ℕ) × (j ≤ m) × (m ≤ j + n) × (D m ≢ v) × ((i : ℕ) → j ≤ i → i < m → D i ≡ v)
first D v zero j h = (j, omega arith, omega arith, rw add-zero at h, λ i p q. absurd (omega arith))
first D v (suc n) j h = go (ℕ_discrete (D j) v) (first D v n (suc j) (subst (λ (i : ℕ). D i ≢ v) (shift j n) h))
  where
    shift : (j n : ℕ) → j + suc n ≡ suc j + n
    shift j n = omega arith

    go : Dec (D j ≡ v) → (m : ℕ) × (suc j ≤ m) × (m ≤ suc j + n) × (D m ≢ v) × ((i : ℕ) → suc j ≤ i → i < m → D i ≡ v)
        → (m : ℕ) × (j ≤ m) × (m ≤ j + suc n) × (D m ≢ v) × ((i : ℕ) → j ≤ i → i < m → D i ≡ v)
    go (yes e) (m, p, q, d, f) = (m, omega arith, omega arith, d, λ i x y. here i x y (ℕ_discrete j i))
      where
        here : (i : ℕ) → j ≤ i → i < m → Dec (j ≡ i) → D i ≡ v
        here i x y (yes z) = rw (← z) e
        here i x y (no z) = f i (omega arith) y
    go (no d) r = (j, omega arith, omega arith, d, λ i p q. absurd (omega arith))

-- a read m from j on that starts at x or after, less than r2 after, and is the first such
abbrev pub Crossing : (ℕ → ℕ) → ℕ → ℕ → ℕ → Type 0
Crossing tr r2 x j = (m : ℕ) × (j ≤ m) × (x ≤ tr m) × (tr m < x + r2) × ((i : ℕ) → j ≤ i → i < m → tr i < x)

module _ {tw tr S D : ℕ → ℕ} {w1 w2 r1 r2 end : ℕ} (wclk : Clock tw w1 w2) (rclk : Clock tr r1 r2) (pos : 0 < r1)
    (see : Settled tw tr S D end) where
  -- S is v on the cycles from c0 up to c1, and the read lies within them
  pub quiet : (c0 c1 j v : ℕ) → v ≤ 1 → tr (suc j) ≤ end → ((i : ℕ) → c0 ≤ i → i < c1 → S i ≡ v)
      → tw c0 ≤ tr j → tr (suc j) ≤ tw c1 → D j ≡ v
  quiet c0 c1 j v lv e s lo hi = see.agrees j v lv e λ i p q. s i (after i q) (before i p)
    where
      after : (i : ℕ) → tr j < tw (suc i) → c0 ≤ i
      after i q = go (dec_le c0 i)
        where
          go : Dec (c0 ≤ i) → c0 ≤ i
          go (yes h) = h
          go (no h) = absurd (omega (arith, mono wclk (suc i) c0 (omega arith)))

      before : (i : ℕ) → tw i < tr (suc j) → i < c1
      before i p = go (dec_le (suc i) c1)
        where
          go : Dec (i < c1) → i < c1
          go (yes h) = h
          go (no h) = absurd (omega (arith, mono wclk c1 i (omega arith)))

  -- a read that starts at x or after, and less than r2 after
  pub cross : (x n j : ℕ) → tr j ≤ x → x ≤ tr j + n → Crossing tr r2 x j
  cross x zero j lo hi =
      (j, omega arith, omega arith, omega (arith, rclk.low j, rclk.high j), λ i p q. absurd (omega arith))
  cross x (suc n) j lo hi = at (dec_le x (tr j)) (λ h. cross x n (suc j) h (omega (arith, rclk.low j)))
    where
      this : tr j < x → (i : ℕ) → Dec (j ≡ i) → (suc j ≤ i → tr i < x) → j ≤ i → tr i < x
      this q i (yes e) f y = subst (λ (n : ℕ). tr n < x) e q
      this q i (no e) f y = f (omega arith)

      go : tr j < x → Dec (tr (suc j) ≤ x) → (tr (suc j) ≤ x → Crossing tr r2 x (suc j)) → Crossing tr r2 x j
      go q (yes h) more = let (m, p, r, u, f) =
          more h in (m, omega arith, r, u, λ i y z. this q i (ℕ_discrete j i) (λ w. f i w z) y)
      go q (no h) more = (
        suc j,
        omega arith,
        omega arith,
        omega (arith, rclk.high j),
        λ i y z. this q i (ℕ_discrete j i) (λ w. absurd (omega arith)) y,
      )

      at : Dec (x ≤ tr j) → (tr (suc j) ≤ x → Crossing tr r2 x (suc j)) → Crossing tr r2 x j
      at (yes q) more = (j, omega arith, q, omega (arith, rclk.low j, rclk.high j), λ i p q. absurd (omega arith))
      at (no q) more = go (omega arith) (dec_le (tr (suc j)) x) more

  module _ {a b g k : ℕ} (ok : Margins a b g k w1 w2 r1 r2) where
    positive : 0 < r2
    positive = omega (arith, rclk.low 0, rclk.high 0)

    room : g < a
    room = lt_of_mul-lt-mul_right w1 (omega (arith, ok.m1, positive))

    pub takes_time : 0 < a * w2
    takes_time = omega (arith, ok.m1, positive, mul-le-mul_left a (wide wclk))
      where
        wide : Clock tw w1 w2 → w1 ≤ w2
        wide clk = omega (arith, clk.low 0, clk.high 0)

    pub counts : 0 < k
    counts = lt_of_mul-lt-mul_right r1 (omega (arith, ok.m2, takes_time))

    -- a read that starts within r2 after the mark has settled ends before the mark does
    within : (c n : ℕ) → tr n < tw (c + g) + r2 → tr (suc n) ≤ tw (c + a)
    within c n h = omega (arith, rclk.high n, reach_low wclk c g a (omega (arith, room)), ok.m1)

    module _ (c v u j : ℕ) (lv : v ≤ 1) (lu : u ≤ 1) (e : tw (c + (a + b)) ≤ end) (cell : Cell S a b g c v u)
        (wait : Waits tw tr D g c v j) where
      -- the sample of a mark that ends after the edge and starts soon after it
      sampled : (m : ℕ) → j ≤ m → ((i : ℕ) → j ≤ i → i < m → D i ≡ v) → D m ≡ 1 - v → tr m < tw (c + g) + r2
          → ((i : ℕ) → j ≤ i → i < m → tr i < tw (c + g)) → tw c < tr (suc m) → Heard tw tr D a b g k r2 c v u j m
      sampled m from before differs soon touch edge = record {
        from = from;
        before = before;
        differs = differs;
        edge = edge;
        soon = soon;
        touch = touch;
        late = late;
        ends = ends;
        sample = calm (m + k) (omega arith) ends;
        next = record {
          start =
              omega (arith, ends, rclk.low (m + k), mono wclk (c + (a + b)) (c + (a + b) + g) (omega arith));
          calm =
              calm;
        };
      }
        where
          late : tw (c + (a + g)) ≤ tr (m + k)
          late = omega (arith, span_high wclk c (a + g), ok.m2, rw add-one at (reach_low rclk m 1 k counts))

          ends : tr (suc (m + k)) ≤ tw (c + (a + b))
          ends = omega (
            arith,
            rw add-suc at (span_high rclk m (suc k)),
            ok.m3,
            reach_low wclk c g (a + b) (omega (arith, room)),
          )

          calm : (i : ℕ) → m + k ≤ i → tr (suc i) ≤ tw (c + (a + b)) → D i ≡ u
          calm i p q =
              quiet (c + (a + g)) (c + (a + b)) i u lu (omega arith) cell.code
              (omega (arith, late, mono rclk (m + k) i p)) q

      -- the first read that differs, where read n lies wholly within the settled mark
      marked : (n : ℕ) → j ≤ n → tw (c + g) ≤ tr n → tr n < tw (c + g) + r2
          → ((i : ℕ) → j ≤ i → i < n → tr i < tw (c + g)) → (m : ℕ) × Heard tw tr D a b g k r2 c v u j m
      marked n p q t f = go (first D v (n - j) j (subst (λ (i : ℕ). D i ≢ v) (there j n p) other))
        where
          in_time : (i : ℕ) → i ≤ n → tr (suc i) ≤ end
          in_time i h =
              omega (
                arith,
                within c n t,
                mono rclk (suc i) (suc n) (suc-le-suc h),
                mono wclk (c + a) (c + (a + b)) (omega arith),
              )

          there : (j n : ℕ) → j ≤ n → n ≡ j + (n - j)
          there j n p = omega arith

          other : D n ≢ v
          other = omega (
            arith,
            quiet (c + g) (c + a) n (1 - v) (omega arith) (in_time n (omega arith)) cell.mark q
                (within c n t),
          )

          go : (m : ℕ) × (j ≤ m) × (m ≤ j + (n - j)) × (D m ≢ v) × ((i : ℕ) → j ≤ i → i < m → D i ≡ v)
              → (m : ℕ) × Heard tw tr D a b g k r2 c v u j m
          go (m, from, le, d, before) = (
            m,
            sampled m from before (omega (arith, see.level m (in_time m (omega arith))))
                (omega (arith, mono rclk m n (omega arith)))
                (λ i x y. omega (arith, f i x (omega arith)))
                (edge (dec_le (tr (suc m)) (tw c))),
          )
            where
              edge : Dec (tr (suc m) ≤ tw c) → tw c < tr (suc m)
              edge (yes h) = absurd (d (wait.calm m from h))
              edge (no h) = omega arith

      -- Lemmas 1 and 2: the mark of the cell is heard, its sample is the code, and the receiver then waits for the next
      -- cell
      pub hear : (m : ℕ) × Heard tw tr D a b g k r2 c v u j m
      hear = go (cross (tw (c + g)) (tw (c + g) - tr j) j wait.start (omega (arith, wait.start)))
        where
          go : Crossing tr r2 (tw (c + g)) j → (m : ℕ) × Heard tw tr D a b g k r2 c v u j m
          go (n, p, q, t, f) = marked n p q t f
