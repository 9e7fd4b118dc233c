-- `warp` meets its contract: each test that led to a return is one of the definition's, in its order, and the reads are
-- as many as were counted.
use Rattle.std.proofs.Common.{◌≡◌, ◌∙◌, ◌≤◌, ℕ, List, length, true, lt-ltb, le-ltb}
use Rattle.measure.specs.Ranges.{entries_most}
use Rattle.measure.specs.Refusals.{entered, lent}
use Rattle.measure.proofs.Checked.{good_entries, bad_entries}
use Rattle.line.specs.Warp.{warp as warping}
use Rattle.line.specs.Answers.{warped, timed}
use Rattle.line.specs.Sharing.{read_count}
use Rattle.line.proofs.Counted.{timed_count}
use Rattle.line.proofs.warp.Goals as goal

-- past the judging of the times and of how many, the answer is that of the entries
judged : (w r p : ℕ) (wave out : List ℕ) (n : ℕ) → timed w r p ≡ true → length wave ≤ entries_most
    → read_count w r p (length wave) ≡ n → n ≤ entries_most
    → warped w r p wave out ≡ entered 2 wave out (lent (warping w r p wave) out)
unfolding warped
judged w r p wave out n fits few count some =
    simp (fits, le-ltb _ _ few, timed_count w r p wave fits ∙ count, le-ltb _ _ some)

pub returns-then-n-gt-ENTRIES_MOST : goal.returns-then-n-gt-ENTRIES_MOST
unfolding warped
returns-then-n-gt-ENTRIES_MOST c =
    let t = c.args.timing in
    let fits = c.fits.ensures ∙ c.if-not-fits.false in
    simp (
      fits,
      le-ltb _ _ c.if-wave-gt-ENTRIES_MOST.false,
      timed_count t.w.0 t.r.0 t.p.0 c.args.wave.now fits ∙ c.count-n.ensures,
      lt-ltb _ _ c.if-n-gt-ENTRIES_MOST.true,
    )

pub returns-in_err-check_entries : goal.returns-in_err-check_entries
returns-in_err-check_entries c =
    let t = c.args.timing in
    judged t.w.0 t.r.0 t.p.0 c.args.wave.now c.args.out.now _ (c.fits.ensures ∙ c.if-not-fits.false)
    c.if-wave-gt-ENTRIES_MOST.false c.count-n.ensures c.if-n-gt-ENTRIES_MOST.false
    ∙ bad_entries _ _ _ _ c.from_residual.result _ _ c.in_err-check_entries.ensures c.from_residual.ensures.1

pub returns-then-out-n : goal.returns-then-out-n
returns-then-out-n c =
    let t = c.args.timing in
    let fits = c.fits.ensures ∙ c.if-not-fits.false in
    judged t.w.0 t.r.0 t.p.0 c.args.wave.now c.args.out.now _ fits c.if-wave-gt-ENTRIES_MOST.false c.count-n.ensures
    c.if-n-gt-ENTRIES_MOST.false
    ∙ simp (
      good_entries _ _ _ c.in_ok-check_entries.ensures,
      timed_count t.w.0 t.r.0 t.p.0 c.args.wave.now fits ∙ c.count-n.ensures,
      lt-ltb _ _ c.if-out-n.true,
    )

pub returns : goal.returns
returns c =
    let t = c.args.timing in
    let fits = c.fits.ensures ∙ c.if-not-fits.false in
    judged t.w.0 t.r.0 t.p.0 c.args.wave.now c.args.out.now _ fits c.if-wave-gt-ENTRIES_MOST.false c.count-n.ensures
    c.if-n-gt-ENTRIES_MOST.false
    ∙ simp (
      good_entries _ _ _ c.in_ok-check_entries.ensures,
      ← c.warp_into.ensures,
      timed_count t.w.0 t.r.0 t.p.0 c.args.wave.now fits ∙ c.count-n.ensures,
      le-ltb _ _ c.if-out-n.false,
    )
