-- Demand 3 holds of a scene whose clocks keep to their ends for good: the inner theorem, whose margins ask one time
-- unit less than the rules'. Clocks given by lists do so as far as the lists go (Scenes).
use mathlib.Core.Path.{◌≡◌, subst, sym, ap, ◌∙◌}
use mathlib.Core.Bool.{true}
use mathlib.Core.List.{List, [], ◌∷◌, ◌++◌}
use Prim.Native.Nat.{ℕ, suc, ◌+◌, ◌*◌, ◌-◌, ◌≤◌, ◌<◌}
use native.Mathlib.Nat.{mul-le-mul_right, lt_of_mul-lt-mul_left, lt_of_mul-lt-mul_right}
use native.Mathlib.Omega.{arith}
use lib.Dec.{ltb}
use lib.ListN.{length, get_or, take, drop}
use borrow.Author.Tests.{lt-ltb, leb-true}
use Rattle.settings.specs.Margins.{m5, zero_or_more}
use Rattle.settings.proofs.Inequalities.{m1_met, m2_met, m3_met, m4_met, m5_met}
use Rattle.measure.specs.Levels.{Levels}
use Rattle.sender.specs.Sending.{Row, pad, plan_wave}
use Rattle.line.specs.Smooth.{smooth}
use Rattle.line.proofs.ClockBounds.{Clock}
use Rattle.line.proofs.LineLaws.{Reads}
use Rattle.board.specs.Rows.{State, fresh, ready, next}
use Rattle.board.specs.Feeding.{Report, Step, after_by, reports_by, reports}
use Rattle.promises.specs.Places.{quiet_on, over, Scene, cycles_of, last_from, within_lead, heard, last_after}
use Rattle.promises.specs.Places.{last_sample, deliveries}
use Rattle.promises.specs.Replaced.{WhollyAfter, below, moved}
use Rattle.promises.specs.Demand3.{RowsFit, Asked, LongEnough, After, Demand3, UserWording, receiver_settings}
use Rattle.promises.specs.Demand3.{Grounds}
use Rattle.promises.proofs.Timing.{Margins}
use Rattle.promises.proofs.Sampling.{Samples, samples_on}
use Rattle.promises.proofs.ManyRows.{Fit, later_fit, Placed}
use Rattle.promises.proofs.Seams.{all_fed}
use Rattle.promises.proofs.Recovery.{before_stretch, after_stretch, reads_in_rows, undamaged}
use Rattle.promises.proofs.Recovery.{Recovered, recovered}
use Rattle.promises.proofs.Deliveries.{lead_enough, heard_is, last_after_lem, placed_is}

-- M2 leaves no room for a read that takes no time
pub takes_time : (x : Scene) → Asked x → 0 < x.ends.w2 → 0 < x.ends.r1
takes_time x asked some =
    lt_of_mul-lt-mul_left x.k
    (omega (arith, leb-true, rw m2_met at asked.m2, some, mul-le-mul_right x.ends.w2 asked.settles))

-- two clocks that keep to the ends for good, the first read within the first cycle, and the line's reads
pub record Clocked (x : Scene) (high : ℕ) : Type 0 where
  pub asked : Asked x
  pub writer : Clock x.starts x.ends.w1 x.ends.w2
  pub reader : Clock x.begins x.ends.r1 x.ends.r2
  pub timed : 0 < x.ends.r1
  pub begun : x.starts 0 ≤ x.begins 0
  pub unended : x.begins 0 < x.starts 1
  pub line : Reads x.starts x.begins
      (smooth x.g (over x.pair (plan_wave x.a x.b x.rows ++ pad high))) x.reads
  pub levels : Levels x.reads

module _ (x : Scene) (high : ℕ) (fits : Clocked x high) where
  abbrev G : Step
  G = next (receiver_settings x)

  abbrev asked : Asked x
  asked = fits.asked

  abbrev v : ℕ
  v = quiet_on x.pair

  pub ok : Margins x.a x.b x.g x.k x.ends.w1 x.ends.w2 x.ends.r1 x.ends.r2
  ok = record {
    m1 = omega (arith, leb-true, rw m1_met at asked.m1);
    m2 = omega (arith, leb-true, rw m2_met at asked.m2);
    m3 = omega (arith, leb-true, rw m3_met at asked.m3);
  }

  quiet : (x.a + x.b + x.g) * x.ends.w2 + 2 * x.ends.r1 ≤ suc (x.Q * x.ends.r1)
  quiet = omega (arith, leb-true, rw m4_met at asked.m4)

  rows_fit : (rows : List Row) → RowsFit x rows → Fit x.n x.Q x.g x.ends.w1 x.ends.r2 rows
  rows_fit [] all = tt
  rows_fit (row ∷ rows) all = (all.1, all.0, omega (arith, leb-true, rw m5_met at all.2), rows_fit rows all.3)

  fit : Fit x.n x.Q x.g x.ends.w1 x.ends.r2 x.rows
  fit = rows_fit x.rows asked.rows

  some_q : 0 < x.Q
  some_q = lt_of_mul-lt-mul_right x.ends.r1 (omega (arith, quiet, fits.timed))

  -- N is more than the place of each read that ends by the end of the last cell
  abbrev pub InRows : ℕ → Type 0
  InRows N = (j : ℕ) → x.begins (suc j) ≤ x.starts (cycles_of x x.rows) → j < N

  pub in_rows : InRows (length x.reads)
  in_rows =
      reads_in_rows fits.writer fits.reader fits.timed fits.begun fits.unended asked.settles ok
      x.n x.Q quiet asked.some_bits x.pair x.rows high fit x.reads fits.line

  -- with nothing replaced
  pub placed : (N : ℕ) → N ≤ length x.reads → InRows N
      → Placed x.starts x.begins (λ i. get_or x.reads i 2) x.g x.k x.Q v x.ends.r2
      (x.a + x.b) N 0 x.rows (reports_by G fresh 0 x.reads)
  placed =
      undamaged fits.writer fits.reader fits.timed fits.begun fits.unended asked.settles ok
      x.n x.Q quiet asked.some_bits x.pair x.rows high fit x.reads fits.line

  pub whole : reports_by G fresh 0 x.reads ≡ deliveries x 0 x.rows
  whole = placed_is x fits.reader some_q fit (placed (length x.reads) (omega arith) in_rows)

  -- a row the last m cycles of whose lead are long enough and are read wholly from read j on
  module _ (j : ℕ) (earlier : List Row) (row : Row) (later : List Row) (same : x.rows ≡ earlier ++ row ∷ later)
      (m : ℕ) (long : LongEnough x row m) (wholly : WhollyAfter x (last_from x earlier row m) m j) where
    abbrev c : ℕ
    c = last_from x earlier row m

    abbrev h : ℕ
    h = heard x c m

    pub record Heard : Type 0 where
      pub from : j ≤ h
      pub there : h < length x.reads
      pub enough : x.Q ≤ length (within_lead x c m)
      pub readies : (s : State) → after_by G s (take (suc h - j) (drop j x.reads)) ≡ ready x.Q v
      pub told : reports_by G (ready x.Q v) (suc h) (drop (suc h) x.reads)
          ≡ deliveries x (cycles_of x earlier) (row ∷ later)
      pub sample : last_after x h ≡ last_sample x (cycles_of x earlier) row

    pub heard_row : Heard
    unfolding last_sample
    heard_row = record {
      from = omega (arith, rec.from, eq, some_q);
      there = omega (arith, rec.there, eq);
      enough = lead_enough x fits.reader c m rec.i0 rec.lead rec.there;
      readies =
          λ s. subst (λ (e : ℕ). after_by G s (take (e - j) (drop j x.reads)) ≡ ready x.Q v)
          (sym eq) (rec.readies s);
      told =
          subst (λ (e : ℕ). reports_by G (ready x.Q v) e (drop e x.reads)
          ≡ deliveries x (cycles_of x earlier) (row ∷ later)) (sym eq)
          (placed_is x fits.reader some_q fit' rec.told);
      sample = last rec.sample.from_read eq ∙ sym whole_sample;
    }
      where
        fit' : Fit x.n x.Q x.g x.ends.w1 x.ends.r2 (row ∷ later)
        fit' =
            later_fit x.n x.Q x.g x.ends.w1 x.ends.r2 earlier (row ∷ later)
            (subst (λ (l : List Row). Fit x.n x.Q x.g x.ends.w1 x.ends.r2 l) same fit)

        rec : Recovered fits.writer fits.reader fits.timed fits.begun fits.unended asked.settles ok
            x.n x.Q quiet asked.some_bits x.pair x.rows high fit x.reads fits.line j
            (cycles_of x earlier) m row later
        rec = recovered fits.writer fits.reader fits.timed fits.begun fits.unended asked.settles ok
            x.n x.Q quiet asked.some_bits x.pair x.rows high fit x.reads fits.line j earlier
            row later same m long.within (omega (arith, leb-true, rw m5_met at long.m5)) wholly

        eq : suc h ≡ rec.i0 + x.Q
        eq = heard_is x fits.reader c m rec.i0 rec.lead rec.there some_q

        last : {read j : ℕ} → Samples x.k (λ i. get_or x.reads i 2) (length row.bits) v j rec.sample.s
            → suc read ≡ j → last_after x read ≡ rec.sample.s
        last {read} {j} samples e =
            last_after_lem x fits.reader read e
            (subst (λ (n : ℕ). Samples x.k (λ i. get_or x.reads i 2) n v j rec.sample.s) fit'.1 samples)
            rec.sample.there

        whole_sample : last_sample x (cycles_of x earlier) row ≡ rec.sample.s
        whole_sample =
            last rec.sample.from_lead
            (heard_is x fits.reader (cycles_of x earlier) row.lead rec.sample.i0 rec.sample.lead
            (omega (arith, samples_on rec.sample.from_lead, rec.sample.there)) some_q)

pub clocked_demand : (x : Scene) (high : ℕ) → Clocked x high → Demand3 x (reports (receiver_settings x) fresh 0)
clocked_demand x high fits = record {
  before = λ i j junk ij le.
      before_stretch (next (receiver_settings x)) x.reads i j junk (omega arith)
      ∙ ap (λ (l : List Report). below i l) (whole x high fits);
  after = λ earlier row later same m long i j junk ij le wholly.
      let at = heard_row x high fits j earlier row later same m long wholly in
      after_stretch (next (receiver_settings x)) x.reads i j junk (heard x (last_from x earlier row m) m)
      (ready x.Q (quiet_on x.pair)) (omega arith) at.from at.there at.readies
      ∙ ap (λ (l : List Report). moved i j junk l) at.told;
}

-- a row's whole lead is long enough, and begins with the row
pub user_wording : UserWording
user_wording x hear asked demand earlier row later same =
    subst (λ (c : ℕ). After x hear c row.lead earlier row later) begins
    (demand.after earlier row later same row.lead (record {
      within = omega arith;
      m5 = met earlier (subst (RowsFit x) same asked.rows);
    }))
  where
    begins : last_from x earlier row row.lead ≡ cycles_of x earlier
    begins = omega arith

    met : (earlier : List Row) → RowsFit x (earlier ++ row ∷ later)
        → zero_or_more (m5 x.g x.ends x.Q row.lead) ≡ true
    met [] all = all.2
    met (first ∷ earlier) all = met earlier all.3

pub clocked_grounds : (x : Scene) (high : ℕ) → Clocked x high → Grounds x
clocked_grounds x high fits = record {
  leads = λ earlier row later same m long. (any earlier row later same m long).enough;
  samples =
      rw (← whole x high fits)
      (all_fed (next (receiver_settings x)) (λ at. ltb at (length x.reads)) x.reads 0 fresh
      (λ at p q. lt-ltb at (length x.reads) (omega arith)));
  same_sample = λ earlier row later same m long. (any earlier row later same m long).sample;
  heard_after = λ earlier row later same m long j wholly.
      (heard_row x high fits j earlier row later same m long wholly).from;
  sampled_after = λ earlier row later same m long.
      let h : ℕ = heard x (last_from x earlier row m) m in
      rw (← (any earlier row later same m long).told)
      (all_fed (next (receiver_settings x)) (λ at. ltb h at) (drop (suc h) x.reads) (suc h)
      (ready x.Q (quiet_on x.pair)) λ at p q. lt-ltb h at p);
}
  where
    any : (earlier : List Row) (row : Row) (later : List Row) (same : x.rows ≡ earlier ++ row ∷ later)
        (m : ℕ) (long : LongEnough x row m)
        → Heard x high fits 0 earlier row later same m long (λ i q lo hi here shares. omega arith)
    any earlier row later same m long =
        heard_row x high fits 0 earlier row later same m long (λ i q lo hi here shares. omega arith)
