-- Each call's input is good because of what the call before left, so each gives its very result, and these results are
-- the lists that demand 3 speaks of; the judge's yes is its margins.
use Prim.Native.Nat.{ℕ, ◌*◌, ◌≤◌}
use mathlib.Core.Path.{◌≡◌, refl, sym, ap, ◌∙◌}
use mathlib.Core.Bool.{Bool, true, false, ◌&&◌, not}
use mathlib.Core.List.{List, [], ◌∷◌, append-nil}
use native.Mathlib.Omega.{arith}
use borrow.Author.Tests.{le-leb, le-ltb, lt-ltb, leb-true, eqb-true, ltb-false, not-false}
use lib.Dec.{eqb, leb}
use lib.ListN.{length, drop, length-take, length-drop}
use lib.Seq.{take-append_seam}
use Rattle.measure.specs.Ranges.{subcell, sampling, cycle_length, quiet, pad_most, bits_most, row_bits, entries_most}
use Rattle.measure.specs.Ranges.{settling as settling_count, row_settings_fit}
use Rattle.measure.specs.Lists.{onto}
use Rattle.measure.specs.Levels.{AtMost, Levels}
use Rattle.measure.specs.Refusals.{given}
use Rattle.measure.proofs.Both.{both, each, both_3}
use Rattle.measure.proofs.LevelLaws.{none_some, most_none_some, most_take, most_drop}
use Rattle.settings.specs.Margins.{Ends, steady, quiet_accepted}
use Rattle.settings.specs.Answers.{ends_fit, in_range, quiet_judgement}
use Rattle.settings.proofs.BothEnds.{in_range_lem as in-ranges}
use Rattle.settings.proofs.Inequalities.{Accepted, QuietAccepted, quiet_keeps, m1_met, m2_met, m3_met, m4_met, m5_met}
use Rattle.sender.specs.Sending.{Row, rows_of}
use Rattle.sender.specs.Answers.{fitting, padded}
use Rattle.sender.proofs.PlanRows.{rows_none, rows_more}
use Rattle.sender.proofs.PlanWaves.{plan_levels}
use Rattle.line.specs.Smooth.{smooth}
use Rattle.line.specs.Warp.{warp}
use Rattle.line.specs.Settle.{settle}
use Rattle.line.specs.Passes.{over_the_line}
use Rattle.line.specs.Answers.{smoothed, warped, settled, timed}
use Rattle.line.proofs.SmoothLaws.{length_smooth, smooth_most}
use Rattle.line.proofs.SettleLaws.{length_settle}
use Rattle.line.proofs.Clocks.{even_clocks}
use Rattle.line.proofs.ReadsThere.{reads_most}
use Rattle.line.proofs.WarpLaws.{warp_by_lem}
use Rattle.board.specs.Rows.{fresh}
use Rattle.promises.specs.Places.{Scene}
use Rattle.promises.specs.Demand3.{RowsFit, Asked, Fitting, receiver_settings}
use Rattle.promises.specs.Promised.{good, quiet_judged, Tells}
use Rattle.promises.specs.GoodInput as Good
use Rattle.promises.specs.Hearing.{hearing}
use Rattle.promises.specs.WholeWay.{SaysYes, YesForEach, BitsFit, leads_of, AcceptedFits, link_of, scene_of, wave_of}
use Rattle.promises.specs.WholeWay.{warped_of, front, sending, smoothing, warping, settling, WholeWayHolds}
use Rattle.promises.proofs.Demand3.{Clocked, whole}
use Rattle.promises.proofs.Scenes.{reads_take, clocked}
use Rattle.promises.proofs.Promised.{passes, passing, none_left}
use Rattle.promises.proofs.Hearing.{heeded_reports}
use Rattle.promises.proofs.HearingFromC.{every_caller}
use Rattle.promises.proofs.AnyHearing.{read_binary, any_hearing}
use Rattle.promises.proofs.SingleCalls.{answered}

-- a yes is that of settings in range, and of margins that are all zero or more
pub record Yes (a b g k : ℕ) (e : Ends) (Q p1 : ℕ) : Type 0 where
  pub range : in_range a b g k e ≡ true
  pub quiet_range : quiet Q ≡ true
  pub three : Accepted a b g k e
  pub two : QuietAccepted a b g e Q p1

pub yes_keeps : (a b g k : ℕ) (e : Ends) (Q p1 : ℕ) → SaysYes (quiet_judgement a b g k e Q p1) → Yes a b g k e Q p1
yes_keeps a b g k e Q p1 said = go (good (Good.judge_quiet a b g k e Q p1)) refl
  where
    line : Tells (Good.judge_quiet a b g k e Q p1) (quiet_judged a b g k e Q p1) (quiet_judgement a b g k e Q p1)
    line = answered.judge_quiet_says a b g k e Q p1

    go : (fits : Bool) → good (Good.judge_quiet a b g k e Q p1) ≡ fits → Yes a b g k e Q p1
    go true is =
        let accepts : quiet_accepted a b g k e Q p1 ≡ true = rw (line.gives is) at said in
        let keeps = quiet_keeps a b g k e Q p1 accepts in
        let ranges = both_3 (in_range a b g k e) (quiet Q) (leb p1 pad_most) (not-false _ (passes _ [] is).0) in
        record { range = ranges.0; quiet_range = ranges.1; three = keeps.0; two = keeps.1 }
    go false is = absurd (rw (line.refuses is) at said)

pub accepted_fits : AcceptedFits
accepted_fits x some all bits-some bits = go x.rows some all
  where
    rows_fit : (rows : List Row) → YesForEach x (leads_of rows) → BitsFit x rows → RowsFit x rows
    rows_fit [] each bits = tt
    rows_fit (row ∷ rows) each bits =
        let keeps = yes_keeps x.a x.b x.g x.k x.ends x.Q row.lead each.0 in (
          bits.0,
          bits.1,
          m5_met x.g x.ends x.Q row.lead ∙ le-leb _ _ keeps.two.M5,
          rows_fit rows each.1 bits.2,
        )

    go : (rows : List Row) → 1 ≤ length rows → YesForEach x (leads_of rows) → Asked x
    go [] some each = absurd (omega arith)
    go (row ∷ rows) some each =
        let keeps = yes_keeps x.a x.b x.g x.k x.ends x.Q row.lead each.0 in
        record {
          settles = (in-ranges x.a x.b x.g x.k x.ends keeps.range).settles.0;
          some_bits = bits-some;
          rows = rows_fit x.rows all bits;
          m1 = m1_met x.a x.g x.ends ∙ le-leb _ _ keeps.three.M1;
          m2 = m2_met x.a x.g x.k x.ends ∙ le-leb _ _ keeps.three.M2;
          m3 = m3_met x.a x.b x.g x.k x.ends ∙ le-leb _ _ keeps.three.M3;
          m4 = m4_met x.a x.b x.g x.ends x.Q ∙ le-leb _ _ keeps.two.M4;
        }

-- a plan's rows
pub record Plan (x : Scene) (leads : List ℕ) (rows : List Row) : Type 0 where
  pub bits : BitsFit x rows
  pub same : leads_of rows ≡ leads
  pub many : length rows ≡ length leads

plan_of : (x : Scene) (leads bits : List ℕ) → length bits ≡ length leads * x.n → Levels bits
    → Plan x leads (rows_of x.n leads bits)
plan_of x [] bits h levels = rw (rows_none x.n bits) (record { bits = tt; same = refl; many = refl })
plan_of x (p1 ∷ leads) bits h levels =
    let rest = plan_of x leads (drop x.n bits) (rw length-drop (omega arith)) (most_drop 1 x.n bits levels) in
    rw (rows_more x.n p1 leads bits)
    (record {
      bits = (omega (arith, length-take x.n bits), most_take 1 x.n bits levels, rest.bits);
      same = ap (λ (l : List ℕ). p1 ∷ l) rest.same;
      many = omega (arith, rest.many);
    })

-- what a call has given stands at the front of what it left
front_is : (result output : List ℕ) → front (given (length result), onto result output) ≡ result
front_is result output = take-append_seam result (drop (length result) output)

pub whole_way : WholeWayHolds
unfolding over_the_line
whole_way y within = record {
  sends = sends;
  smooths = smooths ∙ ap (λ (n : ℕ). (given n, onto (smooth y.g wave) y.for_smooth)) (length_smooth y.g wave);
  warps = warps;
  settles =
      settles
      ∙ ap (λ (n : ℕ). (given n, onto (settle reads y.choices) y.for_settled)) (length_settle reads y.choices)
      ∙ ap (λ (l : List ℕ). (given (length reads), onto l y.for_settled)) plain;
  fits = fits;
  reads = reads_front;
  delivers = λ caller.
      ap (hearing caller (receiver_settings x)) reads_front
      ∙ every_caller (receiver_settings x) range caller x.reads
      ∙ heeded_reports (receiver_settings x) fresh 0 x.reads (read_binary x 0 runs)
      ∙ whole x 0 runs;
  recovers = λ caller.
      any_hearing x 0 runs (hearing caller (receiver_settings x)) (every_caller (receiver_settings x) range caller);
}
  where
    x : Scene
    x = scene_of y

    wave : List ℕ
    wave = wave_of y

    reads : List ℕ
    reads = warped_of y

    -- no cycle follows the plan
    plain : settle reads y.choices ≡ x.reads
    plain =
        ap (λ (l : List ℕ). settle (warp y.w y.r y.p (smooth y.g l)) y.choices) (sym (append-nil wave))

    -- what the plan's tests say
    in_range_lem : (subcell y.a && subcell y.b && row_bits y.n && fitting y.n y.leads y.bits
        && padded y.leads) ≡ true
    in_range_lem = not-false _ (passes _ _ within.plan).0

    few : length wave ≤ entries_most
    few = ltb-false _ _ (passes _ _ (passes _ _ (passes _ _ within.plan).1).1).0

    bits : Levels y.bits
    bits =
        most_none_some 1 y.bits (passes _ _ (passes _ _ (passes _ _ (passes _ _ within.plan).1).1).1).0

    outer : (subcell y.a && subcell y.b && row_bits y.n && fitting y.n y.leads y.bits) ≡ true
    outer =
        (both (subcell y.a && subcell y.b && row_bits y.n && fitting y.n y.leads y.bits)
        (padded y.leads) in_range_lem).0

    row_bits_lem : row_bits y.n ≡ true
    row_bits_lem =
        (both_3 (subcell y.a) (subcell y.b) (row_bits y.n)
        (both (subcell y.a && subcell y.b && row_bits y.n) (fitting y.n y.leads y.bits) outer).0).2

    lists : (leb 1 (length y.leads) ≡ true) × (eqb (length y.bits) (length y.leads * y.n) ≡ true)
    lists =
        both (leb 1 (length y.leads)) (eqb (length y.bits) (length y.leads * y.n))
        (both (subcell y.a && subcell y.b && row_bits y.n) (fitting y.n y.leads y.bits) outer).1

    plan : Plan x y.leads x.rows
    plan = plan_of x y.leads y.bits (eqb-true _ _ lists.1) bits

    some_rows : 1 ≤ length x.rows
    some_rows = omega (arith, leb-true 1 (length y.leads) lists.0, plan.many)

    some_bits : 1 ≤ y.n
    some_bits = leb-true 1 y.n (both (leb 1 y.n) (leb y.n bits_most) row_bits_lem).0

    fits : Fitting (link_of y)
    fits = record {
      asked = accepted_fits x some_rows (rw plan.same within.accepted) some_bits plan.bits;
      choices = within.choices;
      clocks = within.phase;
    }

    runs : Clocked x 0
    runs = clocked (link_of y) fits

    -- what the judge's yes for the first lead says of the ranges
    judged : (in_range y.a y.b y.g y.k (steady y.w y.r) ≡ true) × (quiet y.Q ≡ true)
    judged = go y.leads (leb-true 1 (length y.leads) lists.0) within.accepted
      where
        go : (leads : List ℕ) → 1 ≤ length leads → YesForEach x leads
            → (in_range y.a y.b y.g y.k (steady y.w y.r) ≡ true) × (quiet y.Q ≡ true)
        go [] some each = absurd (omega arith)
        go (p1 ∷ leads) some each =
            let keeps = yes_keeps y.a y.b y.g y.k (steady y.w y.r) y.Q p1 each.0 in
            (keeps.range, keeps.quiet_range)

    ranges : (settling_count y.g ≡ true) × (sampling y.k ≡ true) × (cycle_length y.w ≡ true)
        × (cycle_length y.r ≡ true)
    ranges =
        let test = each (subcell y.a)
        (subcell y.b ∷ settling_count y.g ∷ sampling y.k ∷ ends_fit (steady y.w y.r) ∷ []) judged.0 in
        let ends = each (cycle_length y.w)
        (cycle_length y.w ∷ cycle_length y.r ∷ cycle_length y.r ∷ leb y.w y.w ∷ leb y.r y.r ∷ [])
        (test 4) in
        (test 2, test 3, ends 0, ends 2)

    range : row_settings_fit y.k y.n y.Q ≡ true
    range = rw (ranges.1, row_bits_lem, judged.1)

    times : timed y.w y.r y.p ≡ true
    times = rw (ranges.2, ranges.3, lt-ltb y.p y.w within.phase)

    -- the four calls
    sends : sending y ≡ (given (length wave), onto wave y.for_wave)
    sends = (answered.send_plan_says y.a y.b y.n y.leads y.bits y.for_wave).gives within.plan

    levels : AtMost 1 wave
    levels = plan_levels y.a y.b x.rows

    smooth_size : length (smooth y.g wave) ≡ length wave
    smooth_size = length_smooth y.g wave

    smooths : smoothing y ≡ (given (length (smooth y.g wave)), onto (smooth y.g wave) y.for_smooth)
    smooths =
        ap (λ (l : List ℕ). smoothed y.g l y.for_smooth) (ap front sends ∙ front_is wave y.for_wave)
        ∙ (answered.smooth y.g wave y.for_smooth).gives
        (passing _ _ (ap not ranges.0)
        (passing _ _ (le-ltb _ _ few)
        (passing _ _ (none_some 1 wave levels)
        (passing _ _
        (le-ltb (length y.for_smooth) (length (smooth y.g wave)) (omega (arith, smooth_size, within.smooth_room)))
        none_left))))

    smooth_levels : AtMost 2 (smooth y.g wave)
    smooth_levels = smooth_most y.g 0 1 wave levels

    warps : warping y ≡ (given (length reads), onto reads y.for_reads)
    warps =
        ap (λ (l : List ℕ). warped y.w y.r y.p l y.for_reads)
        (ap front smooths ∙ front_is (smooth y.g wave) y.for_smooth)
        ∙ (answered.warp y.w y.r y.p (smooth y.g wave) y.for_reads).gives
        (passing _ _ (ap not times)
        (passing _ _ (le-ltb entries_most (length (smooth y.g wave)) (omega (arith, smooth_size, few)))
        (passing _ _ (le-ltb _ _ within.few_reads)
        (passing _ _ (none_some 2 (smooth y.g wave) smooth_levels)
        (passing _ _ (le-ltb _ _ within.reads_room) none_left)))))

    read_kinds : AtMost 2 reads
    read_kinds =
        rw (warp_by_lem y.w y.r y.p (smooth y.g wave))
        (reads_most (even_clocks y.w y.r y.p (reads_take (link_of y) fits) within.phase) (smooth y.g wave)
        smooth_levels)

    settles : settling y
        ≡ (given (length (settle reads y.choices)), onto (settle reads y.choices) y.for_settled)
    settles =
        ap (λ (l : List ℕ). settled l y.choices y.for_settled) (ap front warps ∙ front_is reads y.for_reads)
        ∙ (answered.settle reads y.choices y.for_settled).gives
        (passing _ _ (le-ltb _ _ within.few_reads)
        (passing _ _ (le-ltb _ _ within.few_choices)
        (passing _ _ (none_some 2 reads read_kinds)
        (passing _ _ (none_some 1 y.choices within.choices)
        (passing _ _ (le-ltb (length y.for_settled) (length (settle reads y.choices))
        (omega (arith, length_settle reads y.choices, within.settled_room))) none_left)))))

    reads_front : front (settling y) ≡ x.reads
    reads_front = ap front settles ∙ front_is (settle reads y.choices) y.for_settled ∙ plain
