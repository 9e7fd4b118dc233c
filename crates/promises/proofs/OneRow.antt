-- One row through the row receiver: each mark is heard and each sample is right, and M4 keeps every run of equal reads
-- below Q, up to the last sample and until the quiet after it has settled.
use mathlib.Core.Path.{◌≡◌, refl, subst, sym, ap, ◌∙◌}
use mathlib.Core.List.{List, [], ◌∷◌, ◌++◌, append_assoc}
use Prim.Native.Nat.{ℕ, suc, ◌+◌, ◌*◌, ◌-◌, ◌≤◌, ◌<◌}
use native.Mathlib.Nat.{add_assoc, lt_of_mul-lt-mul_right}
use native.Mathlib.Decide.{ℕ_discrete, dec_le}
use native.Mathlib.Omega.{arith}
use lib.ListN.{length, length-append}
use Rattle.measure.specs.Cells.{bit_of}
use Rattle.measure.specs.Levels.{Levels}
use Rattle.sender.specs.Sending.{code_level}
use Rattle.sender.proofs.Cells.{code_level_most}
use Rattle.sender.proofs.Waves.{bit_code}
use Rattle.line.proofs.ClockBounds.{Clock, mono, span_low, span_high}
use Rattle.line.proofs.LineLaws.{Settled}
use Rattle.board.specs.Rows.{Run, run_of, State, row, run_after, hunting, ready, counting, waiting, next}
use Rattle.board.specs.Feeding.{Report}
use Rattle.board.proofs.RowSteps.{rules, silently, run_grows, opened, sample_last, sample_more, marks}
use Rattle.board.proofs.Goes.{Goes, here, then, step, join, stay, linger, downto}
use Rattle.promises.proofs.Timing.{Waits, Heard, Margins, hear, counts, takes_time}
use Rattle.promises.proofs.Cells.{Holds}
use Rattle.promises.proofs.Sampling.{Samples, none, more}

-- a row that is delivered with a read
abbrev pub delivered_at : ℕ → List ℕ → Report
delivered_at place bits = record { place = place; event = row bits }

-- Before read j the receiver hunts with the run ρ, after a row whose cells end at cycle c. The reads from j on that
-- start before the quiet has settled are too few to make that run Q, whatever they are.
pub record Ended (tw tr : ℕ → ℕ) (g Q c j : ℕ) (ρ : Run) : Type 0 where
  pub runs : ρ.reads < Q
  pub few_more : (i : ℕ) → j ≤ i → tr i < tw (c + g) → ρ.reads + (suc i - j) < Q
  pub ends : tr j ≤ tw (c + g)
  pub inside : 0 < j → tr j ≤ tw c

-- Read s is the sample of a cell of d cycles that ends before cycle c: its mark touches the cell and starts soon after
-- the edge has settled.
pub record LastCell (tw tr : ℕ → ℕ) (d g k r2 c s : ℕ) : Type 0 where
  pub cell : ℕ
  pub mark : ℕ
  pub whole : cell + d ≡ c
  pub sample : mark + k ≡ s
  pub edge : tw cell < tr (suc mark)
  pub soon : tr mark < tw (cell + g) + r2

module _ {tw tr S D : ℕ → ℕ} {w1 w2 r1 r2 end : ℕ} (wclk : Clock tw w1 w2) (rclk : Clock tr r1 r2) (pos : 0 < r1)
    (see : Settled tw tr S D end) {a b g k : ℕ} (ok : Margins a b g k w1 w2 r1 r2)
    (n Q : ℕ) (m4 : (a + b + g) * w2 + 2 * r1 ≤ suc (Q * r1)) where
  pub two : 1 < Q
  two = lt_of_mul-lt-mul_right r1 (omega (arith, m4, takes_time wclk rclk pos see ok))

  -- from a read that touches cycle c on, few reads start before cycle c + (a + b + g)
  pub few : (c m i : ℕ) → tw c < tr (suc m) → tr i < tw (c + (a + b + g)) → i + 1 < m + Q
  few c m i p q = go (dec_le (suc m) i)
    where
      go : Dec (suc m ≤ i) → i + 1 < m + Q
      go (yes h) = omega (arith, less)
        where
          d : ℕ
          d = i - suc m

          far : tr (suc m) + d * r1 ≤ tr i
          far = subst (λ (x : ℕ). tr (suc m) + d * r1 ≤ tr x) (omega arith) (span_low rclk (suc m) d)

          less : d + 2 < Q
          less = lt_of_mul-lt-mul_right r1 (omega (arith, m4, far, span_high wclk c (a + b + g)))
      go (no h) = omega (arith, two)

  -- a mark after the level v begins a run
  abbrev marked : (v : ℕ) (bs : List ℕ) → State
  marked v bs = counting k (1 - v) (run_of 1 (1 - v)) bs

  -- The receiver counts after the mark m of the cell at c, for which it waited at v from read j on, and has the bits
  -- bs. It delivers those and the bits of the cells from c on, with the last sample that the counted rule finds from
  -- read j on.
  abbrev Delivered : (j m v : ℕ) (bs bits : List ℕ) (c : ℕ) → Type 0
  Delivered j m v bs bits c =
      (s : ℕ) × (σ : Run)
      × Goes k n Q D (suc m) (marked v bs) (delivered_at s (bs ++ bits) ∷ []) (suc s) (hunting σ)
      × Ended tw tr g Q (c + length bits * (a + b)) (suc s) σ
      × Samples k D (length bits) v j s
      × LastCell tw tr (a + b) g k r2 (c + length bits * (a + b)) s

  -- one cell: from its mark to its sample
  module _ (x c v j m : ℕ) (bs : List ℕ) (lv : v ≤ 1) (lx : x ≤ 1)
      (heard : Heard tw tr D a b g k r2 c v (code_level v x) j m) where
    short : k + 1 < Q
    short = omega (
      arith,
      few c m (m + k) heard.edge
          (omega (arith, heard.ends, rclk.low (m + k), mono wclk (c + (a + b)) (c + (a + b + g)) (omega arith))),
    )

    some_k : 0 < k
    some_k = counts wclk rclk pos see ok

    bit_is : bit_of (1 - v) (D (m + k)) ≡ x
    bit_is = rw heard.sample (bit_code v x lv lx)

    sampled : {d s : ℕ} → Samples k D d (code_level v x) (m + k) s → Samples k D (suc d) v j s
    sampled {d} {s} more' =
        more heard.from heard.before (omega (arith, heard.differs))
        (subst (λ (u : ℕ). Samples k D d u (m + k) s) (sym heard.sample) more')

    last : suc (length bs) ≡ n → Delivered j m v bs (x ∷ []) c
    last l = go (downto k n Q D m (1 - v) (run_of 1 (1 - v)) bs some_k (omega (arith, short)))
      where
        go : (σ : Run) × (σ.reads < 1 + k) × Goes k n Q D (suc m) (marked v bs) [] (m + k) (counting 1 (1 - v) σ bs)
            → Delivered j m v bs (x ∷ []) c
        go (σ, p, f) = (
          m + k,
          run_after Q σ (D (m + k)),
          join k n Q D f
              (then (sample_last k n Q (1 - v) σ bs (D (m + k)) x
              (omega (arith, run_grows Q σ (D (m + k)), short)) bit_is l) here),
          record {
            runs = omega (arith, run_grows Q σ (D (m + k)), short);
            few_more = λ i y z.
                omega (
                  arith,
                  run_grows Q σ (D (m + k)),
                  few c m i heard.edge
                      (omega (arith, mono wclk (c + 1 * (a + b) + g) (c + (a + b + g)) (omega arith))),
                );
            ends = omega (arith, heard.ends, mono wclk (c + (a + b)) (c + 1 * (a + b) + g) (omega arith));
            inside = λ y. omega (arith, heard.ends, mono wclk (c + (a + b)) (c + 1 * (a + b)) (omega arith));
          },
          sampled none,
          record {
            cell = c;
            mark = m;
            whole = omega arith;
            sample = refl;
            edge = heard.edge;
            soon = heard.soon;
          },
        )

    -- from the mark up to and with the mark m' of the next cell, which is heard from the sample on
    abbrev Onward : ℕ → Type 0
    Onward m' = Goes k n Q D (suc m) (marked v bs) [] (suc m') (marked (code_level v x) (bs ++ (x ∷ [])))

    onward : (u m' : ℕ) → suc (length bs) < n → Heard tw tr D a b g k r2 (c + (a + b)) (code_level v x) u (m + k) m'
        → Onward m'
    onward u m' l next' = wait (downto k n Q D m (1 - v) (run_of 1 (1 - v)) bs some_k (omega (arith, short)))
      where
        s : ℕ
        s = m + k

        later : s < m'
        later = go (ℕ_discrete s m')
          where
            go : Dec (s ≡ m') → s < m'
            go (yes e) = absurd (omega (arith, heard.sample, next'.differs, ap D e, code_level_most v x lv))
            go (no d) = omega (arith, next'.from)

        close : m' < m + Q
        close = omega (
          arith,
          few c m (m' - 1) heard.edge
              (subst (λ (i : ℕ). tr (m' - 1) < tw i) (add_assoc c (a + b) g)
              (next'.touch (m' - 1) (omega (arith, later)) (omega (arith, later)))),
        )

        place : suc s + (m' - suc s) ≡ m'
        place = omega (arith, later)

        -- the run after the sample, and the reads from the sample to the mark
        mark : (σ : Run) → (run_after Q σ (D s)).reads < Q
            → Goes k n Q D (suc m) (marked v bs) [] s (counting 1 (1 - v) σ bs)
            → (τ : Run) × (τ.reads ≤ (run_after Q σ (D s)).reads + (m' - suc s)) × (τ.level ≡ code_level v x)
            × Goes k n Q D (suc s) (waiting (code_level v x) (run_after Q σ (D s)) (bs ++ (x ∷ []))) []
            (suc s + (m' - suc s)) (waiting (code_level v x) τ (bs ++ (x ∷ [])))
            → Onward m'
        mark σ h f (τ, p, z, w) =
            join k n Q D f
            (then to_wait
            (join k n Q D (rw place at w)
            (step k n Q D next'.differs
            (marks k n Q (code_level v x) (1 - code_level v x) τ (bs ++ (x ∷ [])) two z
            (omega (arith, code_level_most v x lv))) here)))
          where
            to_wait : next (rules k n Q) (counting 1 (1 - v) σ bs) (D s)
                ≡ silently (waiting (code_level v x) (run_after Q σ (D s)) (bs ++ (x ∷ [])))
            to_wait =
                sample_more k n Q (1 - v) σ bs (D s) x h bit_is l
                ∙ ap (λ (y : ℕ). silently (waiting y (run_after Q σ (D s)) (bs ++ (x ∷ [])))) heard.sample

        wait : (σ : Run) × (σ.reads < 1 + k) × Goes k n Q D (suc m) (marked v bs) [] s (counting 1 (1 - v) σ bs)
            → Onward m'
        wait (σ, p, f) =
            mark σ (omega (arith, run_grows Q σ (D s), short)) f
            (linger k n Q D (m' - suc s) (suc s) (code_level v x) (run_after Q σ (D s)) (bs ++ (x ∷ []))
            (λ i y z. next'.before i (omega arith) (omega (arith, place)))
            (omega (arith, run_grows Q σ (D s), close, later)) heard.sample)

  body : (xs : List ℕ) (x c v j m : ℕ) (bs : List ℕ) → v ≤ 1 → x ≤ 1 → Levels xs
      → Heard tw tr D a b g k r2 c v (code_level v x) j m → Holds a b g S (c + (a + b)) (code_level v x) xs
      → length bs + suc (length xs) ≡ n
      → tw (c + suc (length xs) * (a + b)) ≤ end → Delivered j m v bs (x ∷ xs) c
  body [] x c v j m bs lv lx hb heard hs l e = last x c v j m bs lv lx heard (omega arith)
  body (y ∷ ys) x c v j m bs lv lx hb heard hs l e =
      go (hear wclk rclk pos see ok (c + (a + b)) (code_level v x) (code_level (code_level v x) y) (m + k) lu
      (code_level_most (code_level v x) y lu) inside hs.0 heard.next)
      λ m' h. body ys y (c + (a + b)) (code_level v x) (m + k) m' (bs ++ (x ∷ [])) lu hb.0 hb.1 h hs.1
      (rw length-append (omega arith)) (subst (λ (i : ℕ). tw i ≤ end) further e)
    where
      lu : code_level v x ≤ 1
      lu = code_level_most v x lv

      further : c + suc (suc (length ys)) * (a + b) ≡ c + (a + b) + suc (length ys) * (a + b)
      further = omega arith

      inside : tw (c + (a + b) + (a + b)) ≤ end
      inside = omega (arith, e, mono wclk (c + (a + b) + (a + b)) (c + suc (suc (length ys)) * (a + b)) (omega arith))

      Next : ℕ → Type 0
      Next m' = Heard tw tr D a b g k r2 (c + (a + b)) (code_level v x) (code_level (code_level v x) y) (m + k) m'

      go : (m' : ℕ) × Next m'
          → ((m' : ℕ) → Next m' → Delivered (m + k) m' (code_level v x) (bs ++ (x ∷ [])) (y ∷ ys) (c + (a + b)))
          → Delivered j m v bs (x ∷ y ∷ ys) c
      go (m', next') rest =
          let (s, σ, h, d, p, z) = rest m' next' in (
            s,
            σ,
            join k n Q D
                (onward x c v j m bs lv lx heard (code_level (code_level v x) y) m' (omega arith) next')
                (rw append_assoc at h),
            rw further d,
            sampled x c v j m bs lv lx heard p,
            rw further z,
          )

  -- a row from ready at the quiet level v on: exactly the row is reported, at its last sample
  abbrev pub RowFrom : (v : ℕ) → List ℕ → ℕ → ℕ → Type 0
  RowFrom v bits c j =
      (s : ℕ) × (σ : Run) × Goes k n Q D j (ready Q v) (delivered_at s bits ∷ []) (suc s) (hunting σ)
      × Ended tw tr g Q (c + length bits * (a + b)) (suc s) σ
      × Samples k D (length bits) v j s
      × LastCell tw tr (a + b) g k r2 (c + length bits * (a + b)) s

  pub one_row : (v : ℕ) (bits : List ℕ) (c j : ℕ) → v ≤ 1 → 0 < n → Levels bits → Holds a b g S c v bits
      → Waits tw tr D g c v j
      → length bits ≡ n
      → tw (c + length bits * (a + b)) ≤ end → RowFrom v bits c j
  one_row v [] c j lv some hb hs wait l e = absurd (omega arith)
  one_row v (x ∷ xs) c j lv some hb hs wait l e =
      go (hear wclk rclk pos see ok c v (code_level v x) j lv (code_level_most v x lv) inside hs.0 wait)
    where
      inside : tw (c + (a + b)) ≤ end
      inside = omega (arith, e, mono wclk (c + (a + b)) (c + suc (length xs) * (a + b)) (omega arith))

      go : (m : ℕ) × Heard tw tr D a b g k r2 c v (code_level v x) j m → RowFrom v (x ∷ xs) c j
      go (m, heard) =
          let (s, σ, f, d, p, z) =
          body xs x c v j m [] lv hb.0 hb.1 heard hs.1 (omega arith) e in (
            s,
            σ,
            join k n Q D (rw place at (stay k n Q D v (m - j) j (λ i y z. heard.before i y (omega (arith, place)))))
                (step k n Q D heard.differs (opened k n Q v (1 - v) two (omega arith)) f),
            d,
            p,
            z,
          )
        where
          place : j + (m - j) ≡ m
          place = omega (arith, heard.from)
