-- `warp_by_lengths` meets its contract: each test that led to a return is one of the definition's, in its order, and
-- the reads are as many as were counted.
use Rattle.std.proofs.Common.{◌≡◌, ◌∙◌, ◌<◌, ◌≤◌, ℕ, Bool, List, length, take, true, ap, arith, length-take, lt-ltb, le-ltb}
use Rattle.std.specs.Prelude.{Ok}
use Rattle.measure.specs.Ranges.{entries_most}
use Rattle.measure.specs.Refusals.{given, entered, lent, entries_answer}
use Rattle.measure.proofs.Checked.{good_entries, bad_entries}
use Rattle.line.specs.declared.wander.Bounds.{Bounds}
use Rattle.line.specs.Warp.{warp_by}
use Rattle.line.specs.Wander.{warp_by_lengths}
use Rattle.line.specs.Running.{clock_of, Lengths, Counts}
use Rattle.line.specs.Answers.{warped_by_lengths, lengths_fit, phase_fits}
use Rattle.line.proofs.LengthsFit.{cycles_judged, reads_judged, phase_fits_lem, phase_below}
use Rattle.line.proofs.WanderReads.{front_length, onto_none, lent_given}
use Rattle.line.proofs.WanderReads.{counted_reads, counted_some, counted_length}
use Rattle.line.proofs.wander.warp_by_lengths.Goals as goal

-- the lists have passed the judging
record Fit (w1 w2 r1 r2 p : ℕ) (cycles reads : List ℕ) : Type 0 where
  fits : lengths_fit w1 w2 r1 r2 p cycles reads ≡ true
  few : length cycles ≤ entries_most
  some : length reads ≤ entries_most

passes : (w r : Bounds) (p : ℕ) (cycles reads : List ℕ) {ok : Bool}
    → lengths_fit w.least.0 w.most.0 r.least.0 r.most.0 p cycles reads ≡ ok → ok ≡ true
    → length cycles ≤ entries_most → length reads ≤ entries_most
    → Fit w.least.0 w.most.0 r.least.0 r.most.0 p cycles reads
passes w r p cycles reads is fits few some = record { fits = is ∙ fits; few = few; some = some }

module _ {w1 w2 r1 r2 p : ℕ} {cycles reads : List ℕ} (fit : Fit w1 w2 r1 r2 p cycles reads) where
  written : Lengths cycles
  written = cycles_judged w1 w2 r1 r2 p cycles reads fit.fits fit.few

  read : Lengths reads
  read = reads_judged w1 w2 r1 r2 p cycles reads fit.fits fit.some

  phased : phase_fits p cycles ≡ true
  phased = phase_fits_lem w1 w2 r1 r2 p cycles reads fit.fits

  module _ (levels : List ℕ) where
    -- past the judging, the answer is that of the entries
    judged : (out : List ℕ) → length levels ≤ entries_most
        → warped_by_lengths w1 w2 r1 r2 p cycles reads levels out
        ≡ entered 2 levels out (lent (warp_by_lengths p cycles reads levels) out)
    unfolding warped_by_lengths
    judged out short = simp (fit.fits, le-ltb _ _ short, le-ltb _ _ fit.few, le-ltb _ _ fit.some)

    -- and past that of the entries, that of the lent output
    levelled : (out : List ℕ) (u : Unit {0}) → length levels ≤ entries_most → entries_answer 2 levels ≡ Ok u
        → warped_by_lengths w1 w2 r1 r2 p cycles reads levels out ≡ lent (warp_by_lengths p cycles reads levels) out
    levelled out u short good = judged out short ∙ simp (good_entries 2 levels u good)

    -- so many reads are counted
    module _ {both n : ℕ} (cut : length (take (length cycles) levels) ≡ both)
        (by : Counts (length (take both levels)) p cycles reads n) where
      -- what is passed on of the wave is what has both a level and a length
      passed_on : take both levels ≡ take (length cycles) levels
      passed_on = front_length (length cycles) both levels cut

      counts : Counts (length (take (length cycles) levels)) p cycles reads n
      counts = rw passed_on at by

      counted : length (warp_by_lengths p cycles reads levels) ≡ n
      counted = counted_length p cycles reads levels written read phased n counts

      module _ (is_read : n ≡ 0 → ⊥) where
        there : 0 < length (take (length cycles) levels)
        there = counted_some p cycles reads levels written read phased n counts (omega arith)

        below : p < clock_of 1 0 cycles 1
        below = phase_below p cycles phased (omega (arith, there, length-take (length cycles) levels))

        are : warp_by_lengths p cycles reads levels
            ≡ take n (warp_by (clock_of 1 0 cycles) (clock_of 1 p reads) (take (length cycles) levels))
        are = counted_reads p cycles reads levels written read phased n counts there

pub returns-in_err-check_entries : goal.returns-in_err-check_entries
returns-in_err-check_entries c =
    let fit =
    passes c.args.w c.args.r c.args.p.0 c.args.cycles.now c.args.reads.now c.lengths_fit.ensures
    c.if-not-lengths_fit.false c.if-cycles-gt-ENTRIES_MOST.false c.if-reads-gt-ENTRIES_MOST.false in
    judged fit c.args.wave.now c.args.out.now c.if-wave-gt-ENTRIES_MOST.false
    ∙ bad_entries _ _ _ _ c.from_residual.result _ _ c.in_err-check_entries.ensures c.from_residual.ensures.1

pub invariant_of-wandering : goal.invariant_of-wandering
invariant_of-wandering c =
    let fit =
    passes c.args.w c.args.r c.args.p.0 c.args.cycles.now c.args.reads.now c.lengths_fit.ensures
    c.if-not-lengths_fit.false c.if-cycles-gt-ENTRIES_MOST.false c.if-reads-gt-ENTRIES_MOST.false in
    record {
      judged = written fit;
      lasting = omega (
        arith,
        c.cycles_with_both-all.ensures,
        length-take (length c.args.cycles.now) c.args.wave.now,
        length-take c.cycles_with_both-all.result.0 c.args.wave.now,
      );
    }

pub invariant_of-taken : goal.invariant_of-taken
invariant_of-taken c =
    let fit =
    passes c.args.w c.args.r c.args.p.0 c.args.cycles.now c.args.reads.now c.lengths_fit.ensures
    c.if-not-lengths_fit.false c.if-cycles-gt-ENTRIES_MOST.false c.if-reads-gt-ENTRIES_MOST.false in
    record { judged = read fit }

pub returns-then-out-n : goal.returns-then-out-n
returns-then-out-n c =
    let fit =
    passes c.args.w c.args.r c.args.p.0 c.args.cycles.now c.args.reads.now c.lengths_fit.ensures
    c.if-not-lengths_fit.false c.if-cycles-gt-ENTRIES_MOST.false c.if-reads-gt-ENTRIES_MOST.false in
    levelled fit c.args.wave.now c.args.out.now _ c.if-wave-gt-ENTRIES_MOST.false c.in_ok-check_entries.ensures
    ∙ simp (counted fit c.args.wave.now c.cycles_with_both-all.ensures c.count-n.ensures, lt-ltb _ _ c.if-out-n.true)

pub returns-then-n-eq0 : goal.returns-then-n-eq0
returns-then-n-eq0 c =
    let fit =
    passes c.args.w c.args.r c.args.p.0 c.args.cycles.now c.args.reads.now c.lengths_fit.ensures
    c.if-not-lengths_fit.false c.if-cycles-gt-ENTRIES_MOST.false c.if-reads-gt-ENTRIES_MOST.false in
    let all = counted fit c.args.wave.now c.cycles_with_both-all.ensures c.count-n.ensures in
    levelled fit c.args.wave.now c.args.out.now _ c.if-wave-gt-ENTRIES_MOST.false c.in_ok-check_entries.ensures
    ∙ lent_given _ c.args.out.now c.count-n.result.0 all c.if-out-n.false
    ∙ ap (λ (out : List ℕ). (given c.count-n.result.0, out)) (onto_none _ c.args.out.now (all ∙ c.if-n-eq0.true))

pub warp_along-requires : goal.warp_along-requires
warp_along-requires c =
    let fit =
    passes c.args.w c.args.r c.args.p.0 c.args.cycles.now c.args.reads.now c.lengths_fit.ensures
    c.if-not-lengths_fit.false c.if-cycles-gt-ENTRIES_MOST.false c.if-reads-gt-ENTRIES_MOST.false in
    let cut = c.cycles_with_both-all.ensures in
    let by = c.count-n.ensures in (
      below fit c.args.wave.now cut by c.if-n-eq0.false,
      rw (passed_on fit c.args.wave.now cut by)
          ((counts fit c.args.wave.now cut by).some (there fit c.args.wave.now cut by c.if-n-eq0.false)),
      omega (arith, c.if-out-n.false),
    )

pub returns : goal.returns
returns c =
    let fit =
    passes c.args.w c.args.r c.args.p.0 c.args.cycles.now c.args.reads.now c.lengths_fit.ensures
    c.if-not-lengths_fit.false c.if-cycles-gt-ENTRIES_MOST.false c.if-reads-gt-ENTRIES_MOST.false in
    let wave = c.args.wave.now in
    let cut = c.cycles_with_both-all.ensures in
    let by = c.count-n.ensures in
    let left = rw (passed_on fit wave cut by, ← are fit wave cut by c.if-n-eq0.false) at c.warp_along.ensures in
    levelled fit wave c.args.out.now _ c.if-wave-gt-ENTRIES_MOST.false c.in_ok-check_entries.ensures
    ∙ lent_given _ c.args.out.now c.count-n.result.0 (counted fit wave cut by) c.if-out-n.false
    ∙ ap (λ (out : List ℕ). (given c.count-n.result.0, out)) left
