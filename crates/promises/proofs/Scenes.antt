-- Two scenes whose cycles start alike as far as the rows go, and whose reads start alike as far as there are reads, are
-- heard alike: so demand 3 holds of clocks that are given by lists of lengths, and steady clocks are a case of these.
use mathlib.Core.Path.{◌≡◌, refl, subst, sym, ap, ◌∙◌}
use mathlib.Core.Bool.{Bool, true}
use mathlib.Core.List.{List, [], ◌∷◌, ◌++◌}
use Prim.Native.Nat.{ℕ, zero, suc, ◌+◌, ◌*◌, ◌-◌, ◌≤◌, ◌<◌}
use native.Mathlib.Nat.{zero-add, lt_of_mul-lt-mul_right}
use native.Mathlib.Omega.{arith}
use lib.ListN.{length, length-append}
use borrow.Author.Tests.{leb-true}
use Rattle.settings.specs.Margins.{steady, m5, zero_or_more}
use Rattle.settings.proofs.Inequalities.{m5_met}
use Rattle.measure.specs.Levels.{Levels}
use Rattle.sender.specs.Sending.{Row}
use Rattle.sender.proofs.PlanWaves.{length_rows, size_append, plan_high_levels}
use Rattle.line.specs.Warp.{cycle_start, read_start}
use Rattle.line.specs.Running.{clock_of}
use Rattle.line.proofs.ClockBounds.{cycle_clock, read_clock}
use Rattle.line.proofs.LineLaws.{over_levels, over_reads}
use Rattle.line.proofs.WanderClocks.{clock_start}
use Rattle.line.proofs.WanderReads.{even_starts}
use Rattle.line.proofs.WanderBounds.{Wandering, writer, reader, wandering_clocks}
use Rattle.line.proofs.WanderLine.{lengths_levels, lengths_reads, few_by_lengths, over_few}
use Rattle.board.specs.Rows.{fresh}
use Rattle.board.specs.Feeding.{Report, reports}
use Rattle.promises.specs.Places.{Scene, Clocks, steadily, by_lengths, ends_of, starts_by, begins_by, Link}
use Rattle.promises.specs.Places.{line_wave, scene, cycles_of, last_from, places_where, numbered, wholly, within_lead}
use Rattle.promises.specs.Places.{heard, last_after, last_sample, deliveries}
use Rattle.promises.specs.Reaching.{Reaching, ClocksFit, SameByLengths}
use Rattle.promises.specs.Replaced.{damaged, WhollyAfter, below, above, moved}
use Rattle.promises.specs.Demand3.{RowsFit, Asked, Fitting, LongEnough, Demand3, Grounds}
use Rattle.promises.specs.Demand3.{receiver_settings, Demand3Holds, GroundsHold}
use Rattle.promises.specs.Demand3.{with_clocks, steadied, by_lists, SteadyClocksAreACase}
use Rattle.promises.proofs.Pairs.{length_over, levels_over}
use Rattle.promises.proofs.Demand3.{takes_time, Clocked, clocked_demand, clocked_grounds}
use Rattle.promises.proofs.Reaches.{cycle_takes, wandering, within_steady, steady_by_lengths}

-- a scene with other times, and reads that are to be the same
abbrev pub retimed : (x : Scene) (starts begins : ℕ → ℕ) (reads : List ℕ) → Scene
retimed x starts begins reads =
    record {
      a = x.a;
      b = x.b;
      g = x.g;
      k = x.k;
      ends = x.ends;
      n = x.n;
      Q = x.Q;
      pair = x.pair;
      rows = x.rows;
      starts = starts;
      begins = begins;
      reads = reads;
    }

-- what is asked does not speak of times
still : (x : Scene) (starts begins : ℕ → ℕ) (reads : List ℕ) → Asked x → Asked (retimed x starts begins reads)
still x starts begins reads asked = record {
  settles = asked.settles;
  some_bits = asked.some_bits;
  rows = rows_still x.rows asked.rows;
  m1 = asked.m1;
  m2 = asked.m2;
  m3 = asked.m3;
  m4 = asked.m4;
}
  where
    rows_still : (rows : List Row) → RowsFit x rows → RowsFit (retimed x starts begins reads) rows
    rows_still [] all = tt
    rows_still (row ∷ rows) all = (all.0, all.1, all.2, rows_still rows all.3)

places_same : (test other : ℕ → Bool) (many place : ℕ)
    → ((i : ℕ) → place ≤ i → i < place + many → test i ≡ other i)
    → places_where test place many ≡ places_where other place many
unfolding places_where
places_same test other zero place same = refl
places_same test other (suc many) place same =
    rw (
      same place (omega arith) (omega arith),
      places_same test other many (suc place) (λ i p q. same i (omega arith) (omega arith)),
    )

-- a lead with M5 zero or more is longer than a change takes to settle
settled_lead : (x : Scene) → 0 < x.ends.r2 → (lead : ℕ)
    → zero_or_more (m5 x.g x.ends x.Q lead) ≡ true → x.g ≤ lead
settled_lead x takes lead met =
    let less : x.g < lead =
    lt_of_mul-lt-mul_right x.ends.w1 (omega (arith, leb-true, rw m5_met at met, takes)) in
    omega arith

module _ (x : Scene) (asked : Asked x) (takes : 0 < x.ends.r2) (starts begins : ℕ → ℕ)
    (same_starts : (i : ℕ) → i ≤ cycles_of x x.rows → x.starts i ≡ starts i)
    (same_begins : (j : ℕ) → j ≤ length x.reads → x.begins j ≡ begins j) where
  abbrev y : Scene
  y = retimed x starts begins x.reads

  abbrev E : ℕ
  E = cycles_of x x.rows

  -- cycles of the plan are read wholly after the stretch alike
  wholly_back : (c m j : ℕ) → c + m ≤ E → WhollyAfter y c m j → WhollyAfter x c m j
  wholly_back c m j within after i q lo hi here shares =
      after i q lo hi here (record {
        before_the_end =
            omega (arith, shares.before_the_end, same_starts i (omega arith), same_begins (suc q) (omega arith));
        after_the_start =
            omega (arith, shares.after_the_start, same_starts (suc i) (omega arith), same_begins q (omega arith));
      })

  module _ (c m : ℕ) (settled : x.g ≤ m) (within : c + m ≤ E) where
    wholly_same : (i : ℕ) → i < length x.reads
        → wholly x (c + x.g) (c + m) i ≡ wholly y (c + x.g) (c + m) i
    wholly_same i here =
        rw (
          same_starts (c + x.g) (omega arith),
          same_starts (c + m) (omega arith),
          same_begins i (omega arith),
          same_begins (suc i) (omega arith),
        )

    within_same : within_lead x c m ≡ within_lead y c m
    unfolding within_lead
    within_same =
        places_same (wholly x (c + x.g) (c + m)) (wholly y (c + x.g) (c + m)) (length x.reads) 0
        (λ i p q. wholly_same i (omega arith))

    heard_same : heard x c m ≡ heard y c m
    unfolding heard
    heard_same = ap (λ (l : List ℕ). numbered x.Q l) within_same

  last_same : (c : ℕ) (row : Row) → x.g ≤ row.lead → c + row.lead ≤ E → last_sample x c row ≡ last_sample y c row
  unfolding last_sample
  last_same c row settled within =
      ap (λ (h : ℕ). last_after x h) (heard_same c row.lead settled within)

  deliveries_same : (rows : List Row) (c : ℕ) → RowsFit x rows → c + cycles_of x rows ≤ E
      → deliveries x c rows ≡ deliveries y c rows
  unfolding deliveries
  deliveries_same [] c fits within = refl
  deliveries_same (row ∷ rows) c fits within =
      let whole = length_rows x.a x.b (row ∷ rows) in
      rw (
        last_same c row (settled_lead x takes row.lead fits.2) (omega (arith, whole)),
        deliveries_same rows (c + cycles_of x (row ∷ [])) fits.3
            (omega (arith, whole, length_rows x.a x.b (row ∷ []), length_rows x.a x.b rows)),
      )

  module _ (earlier : List Row) (row : Row) (later : List Row) (same : x.rows ≡ earlier ++ row ∷ later) where
    -- where the row stands in the plan
    total : cycles_of x earlier + cycles_of x (row ∷ later) ≡ E
    total =
        subst (λ (l : List Row). cycles_of x earlier + cycles_of x (row ∷ later) ≡ cycles_of x l) (sym same)
        (omega (
          arith,
          length_rows x.a x.b earlier,
          length_rows x.a x.b (row ∷ later),
          length_rows x.a x.b (earlier ++ row ∷ later),
          size_append (x.a + x.b) earlier (row ∷ later),
        ))

    lead_within : cycles_of x earlier + row.lead ≤ E
    lead_within = omega (arith, total, length_rows x.a x.b (row ∷ later))

    fits_from : RowsFit x (row ∷ later)
    fits_from = go earlier (subst (RowsFit x) same asked.rows)
      where
        go : (earlier : List Row) → RowsFit x (earlier ++ row ∷ later) → RowsFit x (row ∷ later)
        go [] all = all
        go (first ∷ earlier) all = go earlier all.3

    told_same : deliveries x (cycles_of x earlier) (row ∷ later) ≡ deliveries y (cycles_of x earlier) (row ∷ later)
    told_same = deliveries_same (row ∷ later) (cycles_of x earlier) fits_from (omega (arith, total))

    sample_same : last_sample x (cycles_of x earlier) row ≡ last_sample y (cycles_of x earlier) row
    sample_same = last_same (cycles_of x earlier) row (settled_lead x takes row.lead fits_from.2) lead_within

    module _ (m : ℕ) (long' : LongEnough y row m) where
      pub long : LongEnough x row m
      long = record { within = long'.within; m5 = long'.m5 }

      in_plan : last_from x earlier row m + m ≤ E
      in_plan = omega (arith, lead_within, long.within)

      settled : x.g ≤ m
      settled = settled_lead x takes m long.m5

      heard_there : heard x (last_from x earlier row m) m ≡ heard y (last_from x earlier row m) m
      heard_there = heard_same (last_from x earlier row m) m settled in_plan

  pub all_same : deliveries x 0 x.rows ≡ deliveries y 0 x.rows
  all_same = deliveries_same x.rows 0 asked.rows (omega arith)

  pub demand_same : (hear : List ℕ → List Report) → Demand3 x hear → Demand3 y hear
  demand_same hear demand = record {
    before = λ i j junk ij le. demand.before i j junk ij le ∙ ap (λ (l : List Report). below i l) all_same;
    after = λ earlier row later same m long' i j junk ij le after.
        ap (λ (h : ℕ). above (i + length junk + (h - j)) (hear (damaged x i j junk)))
        (sym (heard_there earlier row later same m long'))
        ∙ demand.after earlier row later same m (long earlier row later same m long') i j junk ij le
        (wholly_back (last_from x earlier row m) m j (in_plan earlier row later same m long') after)
        ∙ ap (λ (l : List Report). moved i j junk l) (told_same earlier row later same);
  }

  pub grounds_same : Grounds x → Grounds y
  grounds_same grounds = record {
    leads = λ earlier row later same m long'.
        subst (λ (l : List ℕ). x.Q ≤ length l)
        (within_same (last_from x earlier row m) m (settled earlier row later same m long')
        (in_plan earlier row later same m long'))
        (grounds.leads earlier row later same m (long earlier row later same m long'));
    samples = subst (λ (l : List Report). below (length x.reads) l ≡ l) all_same grounds.samples;
    same_sample = λ earlier row later same m long'.
        ap (λ (h : ℕ). last_after x h) (sym (heard_there earlier row later same m long'))
        ∙ grounds.same_sample earlier row later same m (long earlier row later same m long')
        ∙ sample_same earlier row later same;
    heard_after = λ earlier row later same m long' j after.
        subst (λ (h : ℕ). j ≤ h) (heard_there earlier row later same m long')
        (grounds.heard_after earlier row later same m (long earlier row later same m long') j
        (wholly_back (last_from x earlier row m) m j (in_plan earlier row later same m long') after));
    sampled_after = λ earlier row later same m long'.
        subst (λ (l : List Report). above (heard y (last_from x earlier row m) m) l ≡ l)
        (told_same earlier row later same)
        (subst (λ (h : ℕ). above h (deliveries x (cycles_of x earlier) (row ∷ later))
        ≡ deliveries x (cycles_of x earlier) (row ∷ later)) (heard_there earlier row later same m long')
        (grounds.sampled_after earlier row later same m (long earlier row later same m long')));
  }

-- the plan's cycles are the first of its wave
in_wave : (x : Link) → cycles_of (scene x) x.rows ≤ length (line_wave x)
in_wave x = rw (length_over, length-append) (omega arith)

-- times that run on within the ends
abbrev run_starts : Clocks → ℕ → ℕ
run_starts (steadily w r p) = cycle_start w
run_starts (by_lengths e p cycles reads) = clock_of e.w1 0 cycles

abbrev run_begins : Clocks → ℕ → ℕ
run_begins (steadily w r p) = read_start p r
run_begins (by_lengths e p cycles reads) = clock_of e.r1 p reads

abbrev pub running : Link → Scene
running x = retimed (scene x) (run_starts x.clocks) (run_begins x.clocks) (scene x).reads

-- a writer cycle takes time, so a read does
cycles_take : (c : Clocks) (wave : List ℕ) → ClocksFit c wave → 0 < (ends_of c).w2
cycles_take (steadily w r p) wave below = omega arith
cycles_take (by_lengths e p cycles reads) wave reach = cycle_takes reach

pub reads_take : (x : Link) → Fitting x → 0 < (ends_of x.clocks).r1
reads_take x fits = takes_time (scene x) fits.asked (cycles_take x.clocks (line_wave x) fits.clocks)

running_asked : (x : Link) → Asked (scene x) → Asked (running x)
running_asked x asked =
    still (scene x) (run_starts x.clocks) (run_begins x.clocks) (scene x).reads asked

clocked_by : (x : Link) (c : Clocks) → Fitting (with_clocks x c) → Clocked (running (with_clocks x c)) x.high_after
clocked_by x (steadily w r p) fits = record {
  asked = fits.asked;
  writer = cycle_clock w;
  reader = read_clock p r;
  timed = takes;
  begun = omega arith;
  unended = omega (arith, fits.clocks);
  line = over_reads x.g w r p (line_wave x) x.choices takes fits.clocks sent fits.choices;
  levels = over_levels x.g w r p (line_wave x) x.choices takes fits.clocks sent fits.choices;
}
  where
    takes : 0 < r
    takes = reads_take (with_clocks x (steadily w r p)) fits

    sent : Levels (line_wave x)
    sent = levels_over x.pair _ (plan_high_levels x.a x.b x.high_after x.rows)
clocked_by x (by_lengths e p cycles reads) fits = record {
  asked = running_asked (with_clocks x (by_lengths e p cycles reads)) fits.asked;
  writer = writer wander;
  reader = reader wander;
  timed = takes;
  begun = (wandering_clocks wander).begun;
  unended = (wandering_clocks wander).unended;
  line = lengths_reads wander x.g (line_wave x) x.choices reach.lasting reach.reach sent fits.choices;
  levels = lengths_levels wander x.g (line_wave x) x.choices reach.lasting reach.reach sent fits.choices;
}
  where
    reach : Reaching e p cycles reads (line_wave x)
    reach = fits.clocks

    takes : 0 < e.r1
    takes = reads_take (with_clocks x (by_lengths e p cycles reads)) fits

    wander : Wandering e.w1 e.w2 e.r1 e.r2 p cycles reads
    wander = wandering reach takes

    sent : Levels (line_wave x)
    sent = levels_over x.pair _ (plan_high_levels x.a x.b x.high_after x.rows)

-- they run on from the link's own
on_time : (c : Clocks) (wave : List ℕ) → ClocksFit c wave → (i : ℕ) → i ≤ length wave → run_starts c i ≡ starts_by c i
on_time (steadily w r p) wave reach i within = refl
on_time (by_lengths e p cycles reads) wave reach i within =
    sym (clock_start e.w1 0 cycles i (omega (arith, reach.lasting)))

in_time : (x : Link) (c : Clocks) (j : ℕ) → j ≤ length (scene (with_clocks x c)).reads → run_begins c j ≡ begins_by c j
in_time x (steadily w r p) j within = refl
in_time x (by_lengths e p cycles reads) j within =
    sym (clock_start e.r1 p reads j
    (omega (arith, few_by_lengths x.g p cycles reads (line_wave x) x.choices)))

module _ (x : Link) (fits : Fitting x) where
  pub clocked : Clocked (running x) x.high_after
  clocked = clocked_by x x.clocks fits

  long_reads : 0 < (ends_of x.clocks).r2
  long_reads = omega (arith, reads_take x fits, clocked.reader.low 0, clocked.reader.high 0)

  pub on : (i : ℕ) → i ≤ cycles_of (running x) x.rows → run_starts x.clocks i ≡ starts_by x.clocks i
  on i within = on_time x.clocks (line_wave x) fits.clocks i (omega (arith, in_wave x))

  pub along : (j : ℕ) → j ≤ length (scene x).reads → run_begins x.clocks j ≡ begins_by x.clocks j
  along = in_time x x.clocks

  pub link_demand : (hear : List ℕ → List Report) → Demand3 (running x) hear → Demand3 (scene x) hear
  link_demand =
      demand_same (running x) clocked.asked long_reads (starts_by x.clocks) (begins_by x.clocks) on along

  pub link_grounds : Grounds (running x) → Grounds (scene x)
  link_grounds =
      grounds_same (running x) clocked.asked long_reads (starts_by x.clocks) (begins_by x.clocks) on along

  pub link_deliveries : deliveries (running x) 0 x.rows ≡ deliveries (scene x) 0 x.rows
  link_deliveries =
      all_same (running x) clocked.asked long_reads (starts_by x.clocks) (begins_by x.clocks) on along

pub demand_3 : Demand3Holds
demand_3 x fits =
    link_demand x fits (reports (receiver_settings (scene x)) fresh 0)
    (clocked_demand (running x) x.high_after (clocked x fits))

pub grounds : GroundsHold
grounds x fits = link_grounds x fits (clocked_grounds (running x) x.high_after (clocked x fits))

-- steady clocks are the case of lists of equal lengths
module _ (x : Link) (w r p : ℕ) (fits : Fitting (steadied x w r p)) where
  abbrev lists : Link
  lists = by_lists x w r p

  abbrev steadily_read : Scene
  steadily_read = scene (steadied x w r p)

  takes : 0 < r
  takes = reads_take (steadied x w r p) fits

  same : SameByLengths (steady w r) w r p (line_wave x)
  same = steady_by_lengths (steady w r) w r p (line_wave x) (within_steady w r) takes fits.clocks

  same_reads : (scene lists).reads ≡ steadily_read.reads
  same_reads = same.same_reads x.g x.choices

  same_starts : (i : ℕ) → i ≤ length (line_wave x) → starts_by lists.clocks i ≡ cycle_start w i
  same_starts i within = even_starts 0 (suc (length (line_wave x))) w i (omega arith) ∙ zero-add _

  same_begins : (j : ℕ) → j ≤ length steadily_read.reads → begins_by lists.clocks j ≡ read_start p r j
  same_begins j within =
      even_starts p (length (line_wave x) * w) r j
      (omega (arith, over_few x.g w r p (line_wave x) x.choices takes fits.clocks))

  lists_asked : Asked (scene lists)
  lists_asked =
      still steadily_read (starts_by lists.clocks) (begins_by lists.clocks) (scene lists).reads fits.asked

  steady_demand : (hear : List ℕ → List Report) → Demand3 (scene lists) hear → Demand3 steadily_read hear
  steady_demand hear demand =
      subst (λ (l : List ℕ). Demand3 (retimed (scene lists) (cycle_start w) (read_start p r) l) hear) same_reads
      (demand_same (scene lists) lists_asked takes (cycle_start w) (read_start p r)
      (λ i within. same_starts i (omega (arith, in_wave x)))
      (λ j within. same_begins j (rw same_reads at within)) hear demand)

pub steady_clocks : SteadyClocksAreACase
steady_clocks x w r p fits = record {
  fits = record {
    asked = lists_asked x w r p fits;
    choices = fits.choices;
    clocks = (same x w r p fits).fits;
  };
  same_reads = same_reads x w r p fits;
  same_starts = same_starts x w r p fits;
  same_begins = same_begins x w r p fits;
  demand = steady_demand x w r p fits;
}
