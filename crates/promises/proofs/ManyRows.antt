-- Rows one after another: from ready with the first lead heard, each row is delivered and the next lead heard, so the
-- reports are the rows at their last samples.
use mathlib.Core.Path.{◌≡◌, subst}
use mathlib.Core.List.{List, [], ◌∷◌, ◌++◌}
use Prim.Native.Nat.{ℕ, zero, suc, ◌+◌, ◌*◌, ◌≤◌, ◌<◌}
use native.Mathlib.Decide.{dec_le}
use native.Mathlib.Omega.{arith}
use lib.ListN.{length}
use Rattle.measure.specs.Levels.{Levels}
use Rattle.sender.specs.Sending.{Row}
use Rattle.sender.proofs.PlanWaves.{size}
use Rattle.line.proofs.ClockBounds.{Clock, mono}
use Rattle.line.proofs.LineLaws.{Settled}
use Rattle.board.specs.Rows.{Run, State, fresh, hunting, ready}
use Rattle.board.specs.Feeding.{Report}
use Rattle.board.proofs.Goes.{Goes, here, join}
use Rattle.promises.proofs.Timing.{Waits, Margins}
use Rattle.promises.proofs.Sent.{Line}
use Rattle.promises.proofs.Sampling.{Samples}
use Rattle.promises.proofs.OneRow.{delivered_at, Ended, LastCell, RowFrom, one_row, two, few}
use Rattle.promises.proofs.Quiets.{Lead, lead_reads, silent, waits, readied}

-- each row has n bits and a lead with M5 -1 or more
abbrev pub Fit : (n Q g w1 r2 : ℕ) → List Row → Type 0
Fit n Q g w1 r2 [] = Unit {0}
Fit n Q g w1 r2 (row ∷ rows) =
    Levels row.bits
    × (length row.bits ≡ n)
    × ((Q + 1) * r2 + g * w1 ≤ suc (row.lead * w1))
    × Fit n Q g w1 r2 rows

pub later_fit : (n Q g w1 r2 : ℕ) (qs rs : List Row) → Fit n Q g w1 r2 (qs ++ rs) → Fit n Q g w1 r2 rs
later_fit n Q g w1 r2 [] rs h = h
later_fit n Q g w1 r2 (q ∷ qs) rs h = later_fit n Q g w1 r2 qs rs h.3

-- Rows from cycle c on, each reported at its last sample: the n-th that the counted rule, started at the quiet level v,
-- finds from the read on after its lead has been heard, which is the sample of its last cell. Each is among the first N
-- reads.
pub data Placed (tw tr D : ℕ → ℕ) (g k Q v r2 d N : ℕ) : ℕ → List Row → List Report → Type 0 where
  no_row : {c : ℕ} → Placed tw tr D g k Q v r2 d N c [] []
  a_row : {c i0 s : ℕ} {row : Row} {rows : List Row} {fs : List Report} → Lead tw tr g Q c row.lead i0
      → Samples k D (length row.bits) v (i0 + Q) s → s < N
      → LastCell tw tr d g k r2 (c + (row.lead + length row.bits * d)) s
      → Placed tw tr D g k Q v r2 d N (c + (row.lead + length row.bits * d)) rows fs
      → Placed tw tr D g k Q v r2 d N c (row ∷ rows) (delivered_at s row.bits ∷ fs)

-- The rows end with cycle E, and those reads that end by then are among the first N. The wave ends with cycle L, and
-- the M reads end by then. A quiet has the level v.
module _ {tw tr S D : ℕ → ℕ} {w1 w2 r1 r2 : ℕ} (E L : ℕ) (EL : E ≤ L) (wclk : Clock tw w1 w2) (rclk : Clock tr r1 r2)
    (pos : 0 < r1)
    (see : Settled tw tr S D (tw L)) {a b g k : ℕ} (ok : Margins a b g k w1 w2 r1 r2)
    (n Q : ℕ) (m4 : (a + b + g) * w2 + 2 * r1 ≤ suc (Q * r1)) (some : 0 < n) (begun : tr 0 ≤ tw g) (N M : ℕ)
    (NM : N ≤ M) (there : (j : ℕ) → tr (suc j) ≤ tw E → j < N) (ends : (j : ℕ) → j < M → tr (suc j) ≤ tw L)
    (v : ℕ) (lv : v ≤ 1) where
  -- from the state s before read j on, up to the last read, the rows from cycle c on are reported, and nothing else
  abbrev pub Reports : ℕ → State → ℕ → List Row → Type 0
  Reports j s c rows =
      (fs : List Report) × (t : State) × Goes k n Q D j s fs M t × Placed tw tr D g k Q v r2 (a + b) N c rows fs

  -- a row's lead, which starts at cycle c, has Q such reads
  pub heard_lead : (row : Row) (rows : List Row) (c : ℕ) → Fit n Q g w1 r2 (row ∷ rows)
      → (i0 : ℕ) × Lead tw tr g Q c row.lead i0
  heard_lead row rows c fit =
      lead_reads wclk rclk pos see ok n Q m4 c row.lead (omega (arith, mono wclk g (c + g) (omega arith))) fit.2

  -- after the last row nothing is reported
  quiet : (c j : ℕ) (ρ : Run) → Line a b g v S L c [] → Ended tw tr g Q c j ρ → j ≤ M
      → (s : State) × Goes k n Q D j (hunting ρ) [] M s
  quiet c j ρ line ended jM = go (dec_le (suc j) M)
    where
      last : (j M : ℕ) → j < M → ((j : ℕ) → j < M → tr (suc j) ≤ tw L) → tr M ≤ tw L
      last j zero p f = absurd (omega arith)
      last j (suc M) p f = f M (omega arith)

      go : Dec (j < M) → (s : State) × Goes k n Q D j (hunting ρ) [] M s
      go (yes h) = silent wclk rclk pos see ok n Q m4 v lv c L j M ρ (omega arith) ended line jM (last j M h ends)
      go (no h) = (hunting ρ, subst (λ (x : ℕ). Goes k n Q D j (hunting ρ) [] x (hunting ρ)) (same j M jM h) here)
        where
          same : (j M : ℕ) → j ≤ M → (j < M → ⊥) → j ≡ M
          same j M p h = omega arith

  -- a row from cycle c on, whose lead has been heard; what follows it is given
  after_row : (row : Row) (rows : List Row) (c i0 : ℕ) → Line a b g v S L c (row ∷ rows)
      → Fit n Q g w1 r2 (row ∷ rows) → c + size (a + b) (row ∷ rows) ≡ E → Lead tw tr g Q c row.lead i0
      → ((s : ℕ) (σ : Run) → s < N → Ended tw tr g Q (c + row.lead + length row.bits * (a + b)) (suc s) σ
      → Reports (suc s) (hunting σ) (c + row.lead + length row.bits * (a + b)) rows)
      → Reports (i0 + Q) (ready Q v) c (row ∷ rows)
  after_row row rows c i0 line fit e reads more =
      go (one_row wclk rclk pos see ok n Q m4 v row.bits cells (i0 + Q) lv some fit.0 line.1 wait fit.1
      (mono wclk _ L (omega arith)))
    where
      cells : ℕ
      cells = c + row.lead

      wait : Waits tw tr D g cells v (i0 + Q)
      wait = waits wclk rclk pos see ok n Q m4 v lv c row.lead i0 (mono wclk _ L (omega arith)) line.0 reads

      next_lead : cells + length row.bits * (a + b) ≡ c + (row.lead + length row.bits * (a + b))
      next_lead = omega arith

      go : RowFrom wclk rclk pos see ok n Q m4 v row.bits cells (i0 + Q)
          → Reports (i0 + Q) (ready Q v) c (row ∷ rows)
      go (s, σ, f, ended, samples, last) = on (more s σ within ended)
        where
          within : s < N
          within =
              there s (omega
              (arith, ended.inside (omega arith), mono wclk (cells + length row.bits * (a + b)) E (omega arith)))

          on : Reports (suc s) (hunting σ) (cells + length row.bits * (a + b)) rows
              → Reports (i0 + Q) (ready Q v) c (row ∷ rows)
          on (fs, z, w, p) = (
            delivered_at s row.bits ∷ fs,
            z,
            join k n Q D f w,
            a_row reads samples within (rw next_lead at last) (rw next_lead at p),
          )

  -- from ready with a row's lead heard: exactly that row and those after it are reported
  pub heard_rows : (rows : List Row) (row : Row) (c i0 : ℕ) → Line a b g v S L c (row ∷ rows)
      → Fit n Q g w1 r2 (row ∷ rows) → c + size (a + b) (row ∷ rows) ≡ E → Lead tw tr g Q c row.lead i0
      → Reports (i0 + Q) (ready Q v) c (row ∷ rows)
  heard_rows [] row c i0 line fit e reads = after_row row [] c i0 line fit e reads λ s σ le ended.
      let (z, w) = quiet (c + row.lead + length row.bits * (a + b)) (suc s) σ line.2 ended (omega arith) in
      ([], z, w, no_row)
  heard_rows (row' ∷ rows) row c i0 line fit e reads = after_row row (row' ∷ rows) c i0 line fit e reads
      (onward (heard_lead row' rows cells fit.3)
      λ i1 reads'. heard_rows rows row' cells i1 line.2 fit.3 (omega arith) reads')
    where
      cells : ℕ
      cells = c + row.lead + length row.bits * (a + b)

      onward : (i1 : ℕ) × Lead tw tr g Q cells row'.lead i1
          → ((i1 : ℕ) → Lead tw tr g Q cells row'.lead i1 → Reports (i1 + Q) (ready Q v) cells (row' ∷ rows))
          → (s : ℕ) (σ : Run) → s < N → Ended tw tr g Q cells (suc s) σ
          → Reports (suc s) (hunting σ) cells (row' ∷ rows)
      onward (i1, reads') more s σ le ended = on (more i1 reads')
        where
          quietly : Goes k n Q D (suc s) (hunting σ) [] (i1 + Q) (ready Q v)
          quietly =
              readied wclk rclk pos see ok n Q m4 v lv cells row'.lead (suc s) i1 σ
              (mono wclk (cells + row'.lead) L (omega arith)) ended line.2.0 reads'

          on : Reports (i1 + Q) (ready Q v) cells (row' ∷ rows) → Reports (suc s) (hunting σ) cells (row' ∷ rows)
          on (fs, z, w, p) = (fs, z, join k n Q D quietly w, p)

  -- with nothing replaced, from fresh: exactly the rows
  pub delivered : (rows : List Row) → Line a b g v S L 0 rows → Fit n Q g w1 r2 rows → 0 + size (a + b) rows ≡ E
      → tw 0 ≤ tr 0 → Reports 0 fresh 0 rows
  delivered rows line fit e phase = from rows line fit e
    where
      -- few reads start before the first lead has settled
      start : Ended tw tr g Q 0 0 fresh.run
      start = record {
        runs = omega (arith, two wclk rclk pos see ok n Q m4);
        few_more = λ i p q.
            omega (
              arith,
              few wclk rclk pos see ok n Q m4 0 0 i (omega (arith, rclk.low 0))
                  (omega (arith, mono wclk (0 + g) (0 + (a + b + g)) (omega arith))),
            );
        ends = subst (λ (x : ℕ). tr 0 ≤ tw x) (zero_add_is g) begun;
        inside = λ p. absurd (omega arith);
      }
        where
          zero_add_is : (g : ℕ) → g ≡ 0 + g
          zero_add_is g = omega arith

      from : (rows : List Row) → Line a b g v S L 0 rows → Fit n Q g w1 r2 rows → 0 + size (a + b) rows ≡ E
          → Reports 0 fresh 0 rows
      from [] line fit e = let (z, w) = quiet 0 0 fresh.run line start (omega arith) in ([], z, w, no_row)
      from (row ∷ rows) line fit e = go (heard_lead row rows 0 fit)
        where
          go : (i0 : ℕ) × Lead tw tr g Q 0 row.lead i0 → Reports 0 fresh 0 (row ∷ rows)
          go (i0, reads) = on (heard_rows rows row 0 i0 line fit e reads)
            where
              quietly : Goes k n Q D 0 fresh [] (i0 + Q) (ready Q v)
              quietly =
                  readied wclk rclk pos see ok n Q m4 v lv 0 row.lead 0 i0 fresh.run
                  (mono wclk (0 + row.lead) L (omega arith)) start line.0 reads

              on : Reports (i0 + Q) (ready Q v) 0 (row ∷ rows) → Reports 0 fresh 0 (row ∷ rows)
              on (fs, z, w, p) = (fs, z, join k n Q D quietly w, p)
