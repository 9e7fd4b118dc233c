-- P10's two rows: the hypotheses are met by computation, and what demand 3 says of the replaced stretch is computed
-- beside it. For that the rooms' definitions are unfolded.
use Prim.Native.Nat.{ℕ, suc, ◌+◌, ◌-◌, ◌≤◌}
use mathlib.Core.Path.{◌≡◌, refl, subst, sym, ap, ◌∙◌}
use mathlib.Core.Logic.{dite}
use mathlib.Core.List.{List, [], ◌∷◌, ◌++◌}
use native.Mathlib.Decide.{dec_le}
use native.Mathlib.Omega.{arith}
use lib.ListN.{length, take, drop, replicate}
use Rattle.measure.specs.Lists.{first_above}
use Rattle.measure.proofs.LevelLaws.{most_append, most_replicate}
use Rattle.settings.specs.Margins.{m1, m2, m3, m4, m5, accepted, quiet_accepted}
use Rattle.settings.specs.Answers.{quiet_judgement}
use Rattle.sender.specs.Sending.{cells, wave, plan_wave, rows_of}
use Rattle.stored.specs.Stored.{stored_wave, stored_rows_of, joined_leads, last_trail}
use Rattle.line.specs.Smooth.{smooth_from}
use Rattle.line.specs.Warp.{look, dropped, warp_from, warp}
use Rattle.line.specs.Settle.{settle}
use Rattle.line.specs.Passes.{over_the_line}
use Rattle.line.specs.Wander.{start_of}
use Rattle.line.specs.Answers.{all_between}
use Rattle.line.specs.Running.{clock_of}
use Rattle.line.proofs.LineLaws.{line_by}
use Rattle.line.proofs.WanderLine.{lengths_line}
use Rattle.counted.specs.Counted.{from_mark}
use Rattle.board.specs.Rows.{row, broken, fresh, next}
use Rattle.board.specs.Feeding.{Report, reports, reports_by}
use Rattle.promises.specs.Places.{turned_over, line_wave, cycles_of, places_where, numbered, wholly}
use Rattle.promises.specs.Places.{within_lead, heard, mark_place, sample_place, last_sample, deliveries}
use Rattle.promises.specs.Replaced.{WhollyAfter, reports_at, below, above, moved}
use Rattle.promises.specs.Demand3.{Fitting, Demand3, receiver_settings}
use Rattle.promises.specs.StoredPlans.{itself, stored_from, stored_lead, StoredFits, AsStored}
use Rattle.promises.specs.Promised.{good}
use Rattle.promises.specs.WholeWay.{YesForEach, wave_of, warped_of, Within}
use Rattle.promises.specs.Tried.{first, second, p10, p10_read, p10_lent, false_high, Tried, p10_crossed}
use Rattle.promises.specs.Tried.{crossed_read, false_low, TriedCrossed, stored}
use Rattle.promises.specs.Tried.{TriedStored, slow_first, slow_link, slow, slow_reports, TriedSlow, TriedReady}
use Rattle.promises.specs.Tried.{wander_first, wander_second, wander_cycle_lengths, wander_read_lengths, wander_link}
use Rattle.promises.specs.Tried.{wander, wander_reports, wander_damaged}
use Rattle.promises.specs.Tried.{at, TriedWandering}
use Rattle.promises.proofs.Demand3.{user_wording}
use Rattle.promises.proofs.Scenes.{demand_3, grounds}
use Rattle.promises.proofs.Ready.{ready_holds}
use Rattle.promises.proofs.Reaches.{wandering, starts_rise, begins_rise}
use Rattle.promises.proofs.WholeWay.{accepted_fits, whole_way}
use Rattle.promises.proofs.StoredPlans.{stored_plans_hold}

fitting : Fitting p10
unfolding m1 m2 m3 m4 m5
fitting = record {
  asked = record {
    settles = omega arith;
    some_bits = omega arith;
    rows = (refl, (omega arith, (omega arith, tt)), refl, (refl, (omega arith, (omega arith, tt)), refl, tt));
    m1 = refl;
    m2 = refl;
    m3 = refl;
    m4 = refl;
  };
  choices = (omega arith, (omega arith, (omega arith, (omega arith, (omega arith, (omega arith, tt))))));
  clocks = omega arith;
}

wholly_after : WhollyAfter p10_read (cycles_of p10_read (first ∷ [])) second.lead 58
unfolding plan_wave wave cells
wholly_after i read lo hi here shares = omega (arith, shares.before_the_end)

just_room : (n : ℕ) (result output : List ℕ) → length result ≡ n → length output ≡ n → length result ≤ length output
just_room n result output e f = omega arith

within_limits : Within p10_lent
unfolding good first_above quiet_judgement accepted quiet_accepted m1 m2 m3 m4 m5 rows_of plan_wave wave cells smooth_from
    warp warp_from look dropped
within_limits = record {
  plan = refl;
  phase = omega arith;
  choices = (omega arith, (omega arith, (omega arith, (omega arith, (omega arith, (omega arith, tt))))));
  few_choices = omega arith;
  few_reads = let reads : length (warped_of p10_lent) ≡ 117 = refl in omega arith;
  smooth_room = just_room 118 (wave_of p10_lent) p10_lent.for_smooth refl refl;
  reads_room = just_room 117 (warped_of p10_lent) p10_lent.for_reads refl refl;
  settled_room = just_room 117 (warped_of p10_lent) p10_lent.for_settled refl refl;
  accepted = (refl, (refl, tt));
}

pub tried : Tried
unfolding rows_of over_the_line settle warp warp_from look dropped smooth_from plan_wave wave cells next reports_by
    from_mark places_where numbered within_lead heard mark_place sample_place last_sample deliveries reports_at moved
tried = record {
  fits = fitting;
  demand = demand_3 p10 fitting;
  wholly = wholly_after;
  samples = refl;
  hears = refl;
  reports = refl;
  before = (demand_3 p10 fitting).before 54 58 false_high (omega arith) (omega arith);
  after = user_wording p10_read (reports (receiver_settings p10_read) fresh 0) fitting.asked
      (demand_3 p10 fitting) (first ∷ []) second [] refl 54 58 false_high (omega arith) (omega arith)
      wholly_after;
  lent = refl;
  within = within_limits;
  whole_way = whole_way p10_lent within_limits;
}

crossed_fits : Fitting p10_crossed
unfolding m1 m2 m3 m4 m5
crossed_fits = record {
  asked = record {
    settles = omega arith;
    some_bits = omega arith;
    rows = fitting.asked.rows;
    m1 = refl;
    m2 = refl;
    m3 = refl;
    m4 = refl;
  };
  choices =
      most_append 1 (0 ∷ 0 ∷ 1 ∷ 1 ∷ 0 ∷ 0 ∷ []) (replicate 9 1)
      (omega arith, (omega arith, (omega arith, (omega arith, (omega arith, (omega arith, tt))))))
      (most_replicate 1 9 1 (omega arith));
  clocks = omega arith;
}

crossed_after : WhollyAfter crossed_read (cycles_of crossed_read (first ∷ [])) second.lead 58
unfolding plan_wave wave cells
crossed_after i read lo hi here shares = omega (arith, shares.before_the_end)

-- the reads, as runs of a level and of the other
abbrev p10_runs : (high low : ℕ) → List ℕ
p10_runs high low =
    replicate 23 high ++ replicate 5 low ++ replicate 13 high ++ replicate 19 low ++ replicate 21 high
    ++ replicate 20 low ++ replicate 3 high ++ replicate 13 low

straight_reads : p10_read.reads ≡ p10_runs 1 0
unfolding over_the_line settle warp warp_from look dropped smooth_from plan_wave wave cells
straight_reads = refl

crossed_reads : crossed_read.reads ≡ p10_runs 0 1
unfolding over_the_line settle warp warp_from look dropped smooth_from turned_over plan_wave wave cells
crossed_reads = refl

runs_turned : turned_over (p10_runs 1 0) ≡ p10_runs 0 1
unfolding turned_over
runs_turned = refl

pub tried_crossed : TriedCrossed
unfolding over_the_line settle warp warp_from look dropped smooth_from turned_over plan_wave wave cells next reports_by
    from_mark places_where numbered within_lead heard mark_place sample_place last_sample deliveries reports_at moved
tried_crossed = record {
  fits = crossed_fits;
  demand = demand_3 p10_crossed crossed_fits;
  wholly = crossed_after;
  turned = crossed_reads ∙ sym (ap turned_over straight_reads ∙ runs_turned);
  samples = refl;
  hears = refl;
  reports_low = refl;
  reports_high = refl;
  before = (demand_3 p10_crossed crossed_fits).before 54 58 false_low (omega arith) (omega arith);
  after = user_wording crossed_read (reports (receiver_settings crossed_read) fresh 0) crossed_fits.asked
      (demand_3 p10_crossed crossed_fits) (first ∷ []) second [] refl 54 58 false_low (omega arith) (omega arith)
      crossed_after;
}

stored_fits : StoredFits stored
unfolding m1 m2 m3 m4 m5 rows_of
stored_fits = record {
  lists = refl;
  asked = record {
    settles = omega arith;
    some_bits = omega arith;
    rows = fitting.asked.rows;
    m1 = refl;
    m2 = refl;
    m3 = refl;
    m4 = refl;
  };
  choices = fitting.choices;
  clocks = omega arith;
}

stored_after : WhollyAfter (itself stored) (stored_from stored 1) (stored_lead stored 1) 63
unfolding stored_wave stored_rows_of wave cells
stored_after i read lo hi here shares = omega (arith, shares.before_the_end)

pub tried_stored : TriedStored
unfolding over_the_line settle warp warp_from look dropped smooth_from plan_wave wave cells next reports_by from_mark
    places_where numbered within_lead heard mark_place sample_place last_sample deliveries reports_at moved rows_of stored_wave
    stored_rows_of joined_leads last_trail
tried_stored = record {
  fits = stored_fits;
  not_whole = λ wholly.
      omega (
        arith,
        wholly 59 58 (omega arith) (omega arith) (omega arith)
            (record { before_the_end = omega arith; after_the_start = omega arith }),
      );
  wholly = stored_after;
  hears = refl;
  after = shown.as_it_was (reports (receiver_settings p10_read) fresh 0) (shown.demand 3 (omega arith)) (first ∷ [])
      (record { lead = 28; bits = 0 ∷ 1 ∷ [] }) [] refl 54 63 false_high (omega arith) (omega arith) stored_after;
}
  where
    shown : AsStored stored
    shown = stored_plans_hold stored stored_fits

slow_judged : YesForEach (slow 2 18) (18 ∷ 18 ∷ [])
unfolding quiet_judgement accepted quiet_accepted m1 m2 m3 m4 m5
slow_judged = (refl, (refl, tt))

quick_judged : YesForEach (slow 1 17) (18 ∷ 17 ∷ [])
unfolding quiet_judgement accepted quiet_accepted m1 m2 m3 m4 m5
quick_judged = (refl, (refl, tt))

slow_fits : Fitting (slow_link 2 18)
slow_fits = record {
  asked =
      accepted_fits (slow 2 18) (omega arith) slow_judged (omega arith)
      (refl, (omega arith, (omega arith, tt)), (refl, (omega arith, (omega arith, tt)), tt));
  choices = tt;
  clocks = omega arith;
}

slow_after : WhollyAfter (slow 2 18) (cycles_of (slow 2 18) (slow_first ∷ [])) 18 39
unfolding plan_wave wave cells
slow_after i read lo hi here shares = omega (arith, shares.before_the_end)

pub tried_slow : TriedSlow
unfolding over_the_line settle warp warp_from look dropped smooth_from plan_wave wave cells next reports_by from_mark
    places_where numbered within_lead heard mark_place sample_place last_sample deliveries reports_at moved
tried_slow = record {
  judged = slow_judged;
  fits = slow_fits;
  demand = demand_3 (slow_link 2 18) slow_fits;
  wholly = slow_after;
  slow_edge = refl;
  quick_edge = refl;
  hears = refl;
  hears_sooner = refl;
  reports = refl;
  after = user_wording (slow 2 18) slow_reports slow_fits.asked (demand_3 (slow_link 2 18) slow_fits)
      (slow_first ∷ [])
      (record { lead = 18; bits = 0 ∷ 1 ∷ [] }) [] refl 36 39 (replicate 15 1 ++ replicate 3 0) (omega arith)
      (omega arith) slow_after;
  judged_quick = quick_judged;
  quick = refl;
  lost = refl;
}

pub tried_ready : TriedReady
unfolding over_the_line settle warp warp_from look dropped smooth_from plan_wave wave cells next reports_by
tried_ready = record {
  ready = ready_holds (slow_link 2 18) slow_fits;
  delivered = refl;
  ends = (refl, refl);
  earliest = refl;
  latest = refl;
}

wander_judged : YesForEach wander (20 ∷ 20 ∷ [])
unfolding quiet_judgement accepted quiet_accepted m1 m2 m3 m4 m5
wander_judged = (refl, (refl, tt))

wander_fits : Fitting wander_link
unfolding plan_wave wave cells start_of all_between
wander_fits = record {
  asked =
      accepted_fits wander (omega arith) wander_judged (omega arith)
      (refl, (omega arith, (omega arith, tt)), (refl, (omega arith, (omega arith, tt)), tt));
  choices = tt;
  clocks = record {
    w_order = omega arith;
    r_order = omega arith;
    written = refl;
    read = refl;
    phase = omega arith;
    lasting = omega arith;
    reach = at_most 812 844 (omega arith) refl refl;
  };
}
  where
    at_most : {x y : ℕ} (one other : ℕ) → one ≤ other → x ≡ one → y ≡ other → x ≤ y
    at_most one other h e f = omega arith

-- the reads, by the clocks that the lengths make
abbrev wander_read : List ℕ
wander_read =
    replicate 19 1 ++ replicate 6 0 ++ replicate 5 1 ++ replicate 13 0 ++ replicate 19 1 ++ replicate 13 0
    ++ replicate 2 1 ++ replicate 7 0

by_clocks : wander.reads ≡ line_by (clock_of 9 0 (wander_cycle_lengths)) (clock_of 9 8 (wander_read_lengths)) 1
    (line_wave wander_link) []
by_clocks =
    lengths_line (wandering wander_fits.clocks (omega arith)) 1 (line_wave wander_link) []
    wander_fits.clocks.lasting wander_fits.clocks.reach

by_reading : line_by (clock_of 9 0 (wander_cycle_lengths)) (clock_of 9 8 (wander_read_lengths)) 1 (line_wave wander_link) []
    ≡ wander_read
unfolding clock_of settle warp_from look dropped smooth_from plan_wave wave cells
by_reading = refl

wander_after : WhollyAfter wander (cycles_of wander (wander_first ∷ [])) 20 41
unfolding plan_wave wave cells start_of
wander_after i q lo hi here shares =
    dite (dec_le 41 q) (λ h. h)
    (λ h. absurd
    (omega (
      arith,
      shares.before_the_end,
      starts_rise wander_fits.clocks (omega arith) 42 i lo (omega arith),
      begins_rise wander_fits.clocks (omega arith) (suc q) 41 (omega arith) (omega arith),
      cycle_42,
      read_41,
    )))
  where
    cycle_42 : start_of 0 (wander_cycle_lengths) 42 ≡ 406
    cycle_42 = refl

    read_41 : start_of 8 (wander_read_lengths) 41 ≡ 398
    read_41 = refl

wander_reads : wander.reads ≡ wander_read
wander_reads = by_clocks ∙ by_reading

wander_hears : (many : ℕ) → length wander.reads ≡ many
    → numbered 16 (places_where (wholly wander 43 62) 0 many) ≡ 58
    → heard wander (cycles_of wander (wander_first ∷ [])) 20 ≡ 58
unfolding heard within_lead plan_wave wave cells
wander_hears many is counted = rw is counted

within_62 : numbered 16 (places_where (wholly wander 43 62) 0 84) ≡ 58
unfolding start_of places_where numbered
within_62 = refl

wander_demand : Demand3 wander wander_reports
wander_demand = demand_3 wander_link wander_fits

wander_samples : deliveries wander 0 (wander_first ∷ wander_second ∷ [])
    ≡ at 37 (row (1 ∷ 0 ∷ [])) ∷ at 82 (row (0 ∷ 1 ∷ [])) ∷ []
unfolding next reports_by reports_at
wander_samples =
    let N = length wander.reads in
    sym (grounds wander_link wander_fits).samples ∙ sym (wander_demand.before N N [] (omega arith) (omega arith))
    ∙ subst (λ (l : List ℕ). below (length l) (wander_reports (take (length l) l ++ [] ++ drop (length l) l))
    ≡ at 37 (row (1 ∷ 0 ∷ [])) ∷ at 82 (row (0 ∷ 1 ∷ [])) ∷ []) (sym wander_reads) refl

-- the second row by itself
wander_second_lem : deliveries wander (cycles_of wander (wander_first ∷ [])) (wander_second ∷ [])
    ≡ at 82 (row (0 ∷ 1 ∷ [])) ∷ []
unfolding deliveries plan_wave wave cells
wander_second_lem = ap (λ (l : List Report). drop 1 l) wander_samples

pub tried_wandering : TriedWandering
unfolding next reports_by moved
tried_wandering = record {
  judged = wander_judged;
  fits = wander_fits;
  demand = wander_demand;
  wholly = wander_after;
  samples = wander_samples;
  hears = hears;
  reports =
      subst (λ (l : List ℕ). wander_reports (take 39 l ++ junk ++ drop 41 l)
      ≡ at 37 (row (1 ∷ 0 ∷ [])) ∷ at 75 (broken 1) ∷ at 99 (row (0 ∷ 1 ∷ [])) ∷ []) (sym wander_reads) refl;
  after =
      subst (λ (h : ℕ). above (39 + 19 + (h - 41)) (wander_reports wander_damaged) ≡ at 99 (row (0 ∷ 1 ∷ [])) ∷ []) hears
      (user_wording wander wander_reports wander_fits.asked wander_demand (wander_first ∷ []) wander_second [] refl
      39 41 junk (omega arith) (rw wander_reads (omega arith)) wander_after
      ∙ ap (λ (l : List Report). moved 39 41 junk l) wander_second_lem);
}
  where
    junk : List ℕ
    junk = replicate 16 1 ++ replicate 3 0

    hears : heard wander (cycles_of wander (wander_first ∷ [])) 20 ≡ 58
    hears = wander_hears 84 (ap (λ (l : List ℕ). length l) wander_reads) within_62
