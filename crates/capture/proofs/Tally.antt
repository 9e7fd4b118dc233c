-- The runs counted so far and those still to come give the whole capture's summary, whatever has been counted.
use Rattle.std.proofs.Common.{ℕ, suc, ◌+◌, ◌-◌, ◌≤◌, ◌<◌, ◌≡◌, refl, sym, ap, ◌∙◌, List, Bool, true, false, ◌&&◌}
use Rattle.std.proofs.Common.{arith, add-zero, eqb, length, eq-eqb, ne_eqb}
use Rattle.measure.specs.Choose.{choose, between}
use Rattle.measure.specs.Refusals.{Answer, given, refused, refused_after}
use Rattle.capture.specs.Numbers.{Numeral}
use Rattle.capture.specs.Capture.{Heading, then, fitting_at, fits_after, joined, runs_from, with_runs, total_most}
use Rattle.capture.specs.Capture.{reads_of_runs}
use Rattle.capture.specs.Answers.{summed_up}
use Rattle.capture.specs.declared.Summary.{Summary}
use Rattle.capture.proofs.Runs.{sum, length_reads, runs_end, runs_here, judged_run, Run, run_read}

-- a capture of so many reads and runs
abbrev counted : Heading → ℕ → ℕ → Summary
counted h reads runs =
    record {
      settings = record { k = record { 0 = h.k }; n = h.n; q = record { 0 = h.Q } };
      reads = record { 0 = reads };
      runs = runs;
    }

-- the same, unless its first level is 0 and it has no run
abbrev judged : Heading → ℕ → ℕ → Answer Summary
judged h reads runs = choose (eqb h.level 0 && eqb runs 0) (refused 8 h.level_at) (given (counted h reads runs))

-- so many reads and runs, and those still to come
abbrev tallied : Heading → ℕ → ℕ → Answer (List ℕ) → Answer Summary
tallied h reads runs answer = then answer (λ rest. judged h (reads + sum rest) (runs + length rest))

tallied_whole : (h : Heading) (answer : Answer (List ℕ)) → summed_up (then answer (with_runs h)) ≡ tallied h 0 0 answer
tallied_whole h (given runs) =
    let e : length (reads_of_runs h.level runs) ≡ 0 + sum runs = omega (arith, length_reads h.level runs) in
    let f : length runs ≡ 0 + length runs = omega arith in
    go (eqb h.level 0 && eqb (length runs) 0) ∙ rw e (ap (judged h (0 + sum runs)) f)
  where
    go : (test : Bool)
        → summed_up
        (choose test (refused 8 h.level_at)
        (given (record { k = h.k; n = h.n; Q = h.Q; level = h.level; runs = runs })))
        ≡ choose test (refused 8 h.level_at) (given (counted h (length (reads_of_runs h.level runs)) (length runs)))
    go true = refl
    go false = refl
tallied_whole h (refused number place) = refl
tallied_whole h (refused_after number place count) = refl

tallied_one : (h : Heading) (reads runs run : ℕ) (answer : Answer (List ℕ))
    → tallied h reads runs (joined run answer) ≡ tallied h (reads + run) (runs + 1) answer
tallied_one h reads runs run (given rest) =
    let e : reads + (run + sum rest) ≡ reads + run + sum rest = omega arith in
    let f : runs + suc (length rest) ≡ runs + 1 + length rest = omega arith in
    rw (e, f)
tallied_one h reads runs run (refused number place) = refl
tallied_one h reads runs run (refused_after number place count) = refl

-- what has been counted on the way to a place, and what is left there of the greatest total
pub record Tally (s : List ℕ) (h : Heading) (at left runs : ℕ) : Type 0 where
  pub whole : summed_up (then (runs_from 0 s h.after) (with_runs h))
      ≡ tallied h (total_most - left) runs (runs_from (total_most - left) s at)
  pub low : left ≤ total_most
  pub few : runs ≤ total_most - left

pub tally_none : (s : List ℕ) (h : Heading) → Tally s h h.after total_most 0
tally_none s h =
    record { whole = tallied_whole h (runs_from 0 s h.after); low = omega arith; few = omega arith }

module _ {s : List ℕ} {h : Heading} {at left runs : ℕ} (q : Tally s h at left runs) where
  abbrev pub Sums : Answer Summary → Type 0
  Sums answer = summed_up (then (runs_from 0 s h.after) (with_runs h)) ≡ answer

  -- what the code finds at the place
  abbrev pub Finds : Answer Numeral → Type 0
  Finds answer = fitting_at (between 1 left) s at ≡ answer

  fits : (answer : Answer Numeral) → Finds answer → fitting_at (fits_after (total_most - left)) s at ≡ answer
  fits answer e = sym (judged_run left s at q.low) ∙ e

  pub tally_one : (n : Numeral) → at < length s → Finds (given n) → Tally s h n.after (left - n.value) (runs + 1)
  tally_one n l e =
      let r : Run left at n = run_read left s at n e in
      let more : total_most - left + n.value ≡ total_most - (left - n.value) = omega (arith, q.low) in
      record {
        whole = q.whole
            ∙ ap (tallied h (total_most - left) runs)
            (runs_here (total_most - left) s at l ∙ rw (fits (given n) e))
            ∙ tallied_one h (total_most - left) runs n.value (runs_from (total_most - left + n.value) s n.after)
            ∙ ap (λ (reads : ℕ). tallied h reads (runs + 1) (runs_from reads s n.after)) more;
        low = omega (arith, q.low);
        few = omega (arith, q.few, q.low);
      }

  pub tally_refused : (number place : ℕ) → at < length s → Finds (refused number place) → Sums (refused number place)
  tally_refused number place l e =
      let found = fits (refused number place) e in
      let ends : runs_from (total_most - left) s at ≡ refused number place =
      runs_here (total_most - left) s at l ∙ rw found in
      q.whole ∙ ap (tallied h (total_most - left) runs) ends

  tally_end : length s ≤ at → Sums (judged h (total_most - left) runs)
  tally_end l =
      q.whole ∙ ap (tallied h (total_most - left) runs) (runs_end (total_most - left) s at l)
      ∙ rw (add-zero (total_most - left), add-zero runs)

  pub tally_low : length s ≤ at → h.level ≡ 0 → runs ≡ 0 → Sums (refused 8 h.level_at)
  tally_low l e f = tally_end l ∙ rw (eq-eqb h.level 0 e, eq-eqb runs 0 f)

  pub tally_some : length s ≤ at → h.level ≡ 0 → (runs ≡ 0 → ⊥) → Sums (given (counted h (total_most - left) runs))
  tally_some l e f = tally_end l ∙ rw (eq-eqb h.level 0 e, ne_eqb runs 0 f)

  pub tally_high : length s ≤ at → (h.level ≡ 0 → ⊥) → Sums (given (counted h (total_most - left) runs))
  tally_high l e = tally_end l ∙ rw (ne_eqb h.level 0 e)
