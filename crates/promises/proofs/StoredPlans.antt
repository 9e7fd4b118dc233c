-- A stored plan and the plan that it is read into. They have the same wave but for the dropped cycles, and each stored
-- lead pad is the end of a lead pad, at the same cycles: so all is a case of demand 3.
use Prim.Native.Nat.{ℕ, zero, suc, ◌+◌, ◌*◌, ◌-◌, ◌≤◌, ◌<◌}
use mathlib.Core.Path.{◌≡◌, refl, subst, sym, ap, ◌∙◌}
use mathlib.Core.Bool.{true}
use mathlib.Core.List.{List, [], ◌∷◌, ◌++◌, append_assoc}
use native.Mathlib.Nat.{zero-add, suc-add}
use native.Mathlib.Omega.{arith}
use lib.ListN.{length, get_or, take, drop, length-append}
use lib.Seq.{take-append_seam}
use Rattle.settings.specs.Margins.{m5 as M5, zero_or_more}
use Rattle.settings.proofs.Grows.{m5_grows, m5_stays}
use Rattle.sender.specs.Sending.{Row, pad, plan_wave, rows_of}
use Rattle.sender.proofs.PlanRows.{rows_none, rows_more}
use Rattle.sender.proofs.PlanWaves.{length_rows, plan_none}
use Rattle.stored.specs.Stored.{stored_wave, stored_rows_of, joined_leads, dropped}
use Rattle.stored.proofs.Joins.{joined_none, joined_more, stored_rows_more}
use Rattle.stored.proofs.Lengths.{stored_none, stored_length}
use Rattle.stored.proofs.ShownHolds.{same_wave, every_lead_grows}
use Rattle.line.proofs.WanderBounds.{Wandering, wandering_clocks}
use Rattle.line.proofs.WanderLine.{lengths_line}
use Rattle.line.proofs.Fronts.{GoesOn, line_front, over_front}
use Rattle.board.specs.Rows.{fresh, next}
use Rattle.board.specs.Feeding.{Step, reports_by}
use Rattle.promises.specs.Places.{over, Scene, Clocks, steadily, by_lengths, ends_of, reads_by, line_wave, scene}
use Rattle.promises.specs.Places.{cycles_of, heard, last_after, last_sample}
use Rattle.promises.specs.Reaching.{Reaching, ClocksFit}
use Rattle.promises.specs.Replaced.{below}
use Rattle.promises.specs.Demand3.{RowsFit, Asked, Fitting, LongEnough, After}
use Rattle.promises.specs.Demand3.{receiver_settings}
use Rattle.promises.specs.StoredPlans.{StoredLink, link_with, read_into, itself, alone, own_wave, stored_reads}
use Rattle.promises.specs.StoredPlans.{stored_from, stored_lead, EveryStoredPlan, StoredFits}
use Rattle.promises.specs.StoredPlans.{StoredPlansHold}
use Rattle.promises.proofs.Pairs.{over_append}
use Rattle.promises.proofs.Seams.{first_part}
use Rattle.promises.proofs.Deliveries.{placed_below}
use Rattle.promises.proofs.Demand3.{in_rows, placed}
use Rattle.promises.proofs.Reaches.{starts_rise, wandering}
use Rattle.promises.proofs.Scenes.{running, reads_take, clocked, demand_3, grounds}

pads_join : (one other : ℕ) → pad (one + other) ≡ pad one ++ pad other
pads_join zero other = ap (λ (m : ℕ). pad m) (zero-add other)
pads_join (suc one) other = rw suc-add (ap (λ (l : List ℕ). 1 ∷ l) (pads_join one other))

-- clocks that reach the end of a wave reach the end of its front, and the reads of that are the front of the wave's
module _ (wave more : List ℕ) where
  size : length wave ≤ length (wave ++ more)
  size = rw length-append (omega arith)

  reach_front : (c : Clocks) → 0 < (ends_of c).r1 → ClocksFit c (wave ++ more) → ClocksFit c wave
  reach_front (steadily w r p) takes below = below
  reach_front (by_lengths e p cycles reads) takes reach = record {
    w_order = reach.w_order;
    r_order = reach.r_order;
    written = reach.written;
    read = reach.read;
    phase = reach.phase;
    lasting = omega (arith, size, reach.lasting);
    reach =
        omega (
          arith,
          reach.reach,
          starts_rise reach takes (length wave) (length (wave ++ more)) size reach.lasting,
        );
  }

  reads_front : (c : Clocks) (g : ℕ) (choices : List ℕ) → 0 < (ends_of c).r1 → ClocksFit c (wave ++ more)
      → GoesOn (reads_by c g wave choices) (reads_by c g (wave ++ more) choices)
  reads_front (steadily w r p) g choices takes below = over_front g w r p wave more choices takes below
  reads_front (by_lengths e p cycles reads) g choices takes reach =
      let (rest, goes) = line_front (wandering_clocks x) g wave more choices in (
        rest,
        lengths_line x g (wave ++ more) choices reach.lasting reach.reach ∙ goes
            ∙ ap (λ (l : List ℕ). l ++ rest)
            (sym (lengths_line x g wave choices shorter.lasting shorter.reach)),
      )
    where
      x : Wandering e.w1 e.w2 e.r1 e.r2 p cycles reads
      x = wandering reach takes

      shorter : Reaching e p cycles reads wave
      shorter = reach_front (by_lengths e p cycles reads) takes reach

module _ (y : StoredLink) where
  -- the rows of lists from some row on, with so many cycles before the first lead pad
  abbrev rows_from : (before : ℕ) (leads trails bits : List ℕ) → List Row
  rows_from before leads trails bits = rows_of y.n (joined_leads before leads trails) bits

  abbrev StoredRowsFit : (leads bits : List ℕ) → Type 0
  StoredRowsFit leads bits = RowsFit (scene (link_with y y.leads 0)) (rows_of y.n leads bits)

  rows_fit : (high before : ℕ) (leads trails bits : List ℕ) → length trails ≡ length leads → StoredRowsFit leads bits
      → RowsFit (scene (read_into y high)) (rows_from before leads trails bits)
  rows_fit high before [] trails bits h all = rw (joined_none before trails, rows_none y.n bits) tt
  rows_fit high before (lead ∷ leads) [] bits h all = absurd (omega arith)
  rows_fit high before (lead ∷ leads) (trail ∷ trails) bits h all =
      let parts = rw (rows_more y.n lead leads bits) at all in
      rw (
        joined_more before lead trail leads trails,
        rows_more y.n (before + lead) (joined_leads trail leads trails) bits,
      ) (
        parts.0,
        parts.1,
        m5_stays y.g (ends_of y.clocks) y.Q lead (before + lead) (omega arith) parts.2,
        rows_fit high trail leads trails (drop y.n bits) (omega arith) parts.3,
      )

  -- a row and its lead pad as it is stored: the last cycles of the row's lead pad, where they stood
  pub record Kept (before : ℕ) (leads trails bits : List ℕ) (earlier : List Row) (row : Row) : Type 0 where
    pub within : get_or leads (length earlier) 0 ≤ row.lead
    pub m5 : zero_or_more (M5 y.g (ends_of y.clocks) y.Q (get_or leads (length earlier) 0)) ≡ true
    pub begins : length (plan_wave y.a y.b earlier) + (row.lead - get_or leads (length earlier) 0)
        ≡ before + length (stored_wave y.a y.b (take (length earlier) (stored_rows_of y.n leads trails bits)))

  kept : (before : ℕ) (leads trails bits : List ℕ) → length trails ≡ length leads → StoredRowsFit leads bits
      → (earlier : List Row) (row : Row) (later : List Row)
      → rows_from before leads trails bits ≡ earlier ++ row ∷ later → Kept before leads trails bits earlier row
  kept before [] trails bits h all earlier row later same =
      absurd (omega (arith, ap (λ (l : List Row). length l) none, length-append earlier (row ∷ later)))
    where
      none : [] ≡ earlier ++ row ∷ later
      none = rw (joined_none before trails, rows_none y.n bits) at same
  kept before (lead ∷ leads) [] bits h all earlier row later same = absurd (omega arith)
  kept before (lead ∷ leads) (trail ∷ trails) bits h all earlier row later same =
      go earlier
      (rw (
        joined_more before lead trail leads trails,
        rows_more y.n (before + lead) (joined_leads trail leads trails) bits,
      ) at same)
      (λ earlier rest. kept trail leads trails (drop y.n bits) (omega arith) parts.3 earlier row later rest)
    where
      parts : RowsFit (scene (link_with y y.leads 0))
          (record { lead = lead; bits = take y.n bits } ∷ rows_of y.n leads (drop y.n bits))
      parts = rw (rows_more y.n lead leads bits) at all

      this : Row
      this = record { lead = before + lead; bits = take y.n bits }

      go : (earlier : List Row)
          → this ∷ rows_from trail leads trails (drop y.n bits) ≡ earlier ++ row ∷ later
          → ((earlier : List Row) → rows_from trail leads trails (drop y.n bits) ≡ earlier ++ row ∷ later
          → Kept trail leads trails (drop y.n bits) earlier row)
          → Kept before (lead ∷ leads) (trail ∷ trails) bits earlier row
      go [] e more = record {
        within = omega (arith, lead_is);
        m5 = parts.2;
        begins = rw (plan_none y.a y.b, stored_none y.a y.b) (omega (arith, lead_is));
      }
        where
          lead_is : before + lead ≡ row.lead
          lead_is = ap (λ (l : List Row). (get_or l 0 row).lead) e
      go (first ∷ earlier) e more =
          let rest = more earlier (ap (λ (l : List Row). drop 1 l) e) in
          record {
            within = rest.within;
            m5 = rest.m5;
            begins =
                rw (stored_rows_more y.n lead trail leads trails bits)
                (omega (
                  arith,
                  rest.begins,
                  cycles,
                  length_rows y.a y.b (first ∷ earlier),
                  length_rows y.a y.b earlier,
                  stored_length y.a y.b (record { lead = lead; trail = trail; bits = take y.n bits })
                      (take (length earlier) (stored_rows_of y.n leads trails (drop y.n bits))),
                ));
          }
        where
          cycles : before + lead + length (take y.n bits) * (y.a + y.b)
              ≡ first.lead + length first.bits * (y.a + y.b)
          cycles = ap (λ (l : List Row). (get_or l 0 first).lead + length (get_or l 0 first).bits * (y.a + y.b)) e

  abbrev x : Scene
  x = itself y

  abbrev plan : List ℕ
  plan = plan_wave y.a y.b x.rows

  abbrev R : List ℕ
  R = (alone y).reads

  -- what the pair makes of the plan with so many high cycles after it
  abbrev followed : ℕ → List ℕ
  followed high = over y.pair (plan ++ pad high)

  own : length y.trails ≡ length y.leads → followed (dropped y.trails) ≡ own_wave y
  own lists = ap (over y.pair) (sym (same_wave y.a y.b y.n y.leads y.trails y.bits lists))

  -- more high cycles go on where fewer end
  longer : (high more : ℕ) → followed (high + more) ≡ followed high ++ over y.pair (pad more)
  longer high more =
      ap (λ (l : List ℕ). over y.pair (plan ++ l)) (pads_join high more)
      ∙ ap (over y.pair) (sym (append_assoc plan (pad high) (pad more)))
      ∙ over_append y.pair (plan ++ pad high) (pad more)

  all : length y.trails ≡ length y.leads → x.reads ≡ stored_reads y
  all lists = ap (λ (l : List ℕ). reads_by y.clocks y.g l y.choices) (own lists)

  goes_on : 0 < (ends_of y.clocks).r1 → ClocksFit y.clocks (followed (dropped y.trails)) → GoesOn R x.reads
  goes_on takes reach =
      let (rest, e) = reads_front (followed 0) (over y.pair (pad (dropped y.trails))) y.clocks y.g
      y.choices takes (subst (ClocksFit y.clocks) all_cycles reach) in
      (rest, ap (λ (l : List ℕ). reads_by y.clocks y.g l y.choices) all_cycles ∙ e)
    where
      all_cycles : followed (dropped y.trails) ≡ followed 0 ++ over y.pair (pad (dropped y.trails))
      all_cycles = ap followed (sym (zero-add (dropped y.trails))) ∙ longer 0 (dropped y.trails)

  front : length y.trails ≡ length y.leads → 0 < (ends_of y.clocks).r1 → ClocksFit y.clocks (own_wave y)
      → R ≡ take (length R) (stored_reads y)
  front lists takes reach =
      let (rest, e) = goes_on takes (rw (own lists) reach) in
      sym (take-append_seam R rest) ∙ ap (λ (l : List ℕ). take (length R) l) (sym e ∙ all lists)

  module _ (stored : StoredFits y) where
    abbrev asked : Asked (scene (link_with y y.leads 0))
    asked = stored.asked

    -- any number of high cycles after the plan
    plan_asked : (high : ℕ) → Asked (scene (read_into y high))
    plan_asked high = record {
      settles = asked.settles;
      some_bits = asked.some_bits;
      rows = rows_fit high 0 y.leads y.trails y.bits stored.lists asked.rows;
      m1 = asked.m1;
      m2 = asked.m2;
      m3 = asked.m3;
      m4 = asked.m4;
    }

    fits : (high : ℕ) → ClocksFit y.clocks (line_wave (read_into y high)) → Fitting (read_into y high)
    fits high reach = record { asked = plan_asked high; choices = stored.choices; clocks = reach }

    whole_reach : ClocksFit y.clocks (followed (dropped y.trails))
    whole_reach = rw (own stored.lists) stored.clocks

    itself_fits : Fitting (read_into y (dropped y.trails))
    itself_fits = fits (dropped y.trails) whole_reach

    takes : 0 < (ends_of y.clocks).r1
    takes = reads_take (read_into y (dropped y.trails)) itself_fits

    reached : (high : ℕ) → high ≤ dropped y.trails → ClocksFit y.clocks (line_wave (read_into y high))
    reached high few =
        reach_front (followed high) (over y.pair (pad (dropped y.trails - high))) y.clocks takes
        (subst (ClocksFit y.clocks) (ap followed rest ∙ longer high (dropped y.trails - high)) whole_reach)
      where
        rest : dropped y.trails ≡ high + (dropped y.trails - high)
        rest = omega arith

    alone_fits : Fitting (read_into y 0)
    alone_fits = fits 0 (reached 0 (omega arith))

    abbrev G : Step
    G = next (receiver_settings x)

    -- each report is of a read of the plan alone
    same_rows : reports_by G fresh 0 (stored_reads y) ≡ reports_by G fresh 0 R
    same_rows =
        let (rest, e) = goes_on takes whole_reach in
        let few : length R ≤ length x.reads = rw e (rw length-append (omega arith)) in
        ap (λ (l : List ℕ). reports_by G fresh 0 l) (sym (all stored.lists))
        ∙ sym (placed_below
        (placed (running (read_into y (dropped y.trails))) (dropped y.trails)
        (clocked (read_into y (dropped y.trails)) itself_fits) (length R) few
        (in_rows (running (read_into y 0)) 0 (clocked (read_into y 0) alone_fits))))
        ∙ ap (λ (l : List ℕ). below (length R) (reports_by G fresh 0 l)) e
        ∙ first_part G R rest fresh (length R) refl

    module _ (earlier : List Row) (row : Row) (later : List Row) (same : x.rows ≡ earlier ++ row ∷ later) where
      here : Kept 0 y.leads y.trails y.bits earlier row
      here =
          kept 0 y.leads y.trails y.bits stored.lists asked.rows earlier row later same

      long : LongEnough x row (stored_lead y (length earlier))
      long = record { within = here.within; m5 = here.m5 }

      begins : cycles_of x earlier + (row.lead - stored_lead y (length earlier)) ≡ stored_from y (length earlier)
      begins = here.begins ∙ zero-add _

pub every_stored_plan : EveryStoredPlan
every_stored_plan y lists = record {
  all = all y lists;
  front = front y lists;
  m5_no_smaller = λ number.
      m5_grows y.g (ends_of y.clocks) y.Q _ _ ((every_lead_grows y.leads y.trails lists).longer number);
}

pub stored_plans_hold : StoredPlansHold
stored_plans_hold y stored = record {
  same_rows = same_rows y stored;
  reached = reached y stored;
  fits = fits y stored;
  demand = λ high reach. demand_3 (read_into y high) (fits y stored high reach);
  same_cycles = begins y stored;
  as_it_was = λ hear demand earlier row later same.
      subst (λ (c : ℕ). After (itself y) hear c (stored_lead y (length earlier)) earlier row later)
      (begins y stored earlier row later same)
      (demand.after earlier row later same (stored_lead y (length earlier))
      (long y stored earlier row later same));
  same_samples = λ earlier row later same.
      subst (λ (c : ℕ). last_after (itself y) (heard (itself y) c (stored_lead y (length earlier)))
      ≡ last_sample (itself y) (cycles_of (itself y) earlier) row)
      (begins y stored earlier row later same)
      ((grounds (read_into y (dropped y.trails)) (itself_fits y stored)).same_sample earlier row later same
      (stored_lead y (length earlier)) (long y stored earlier row later same));
}
