-- What reading a capture answers at each way out, from what checking its runs answered.
use Rattle.std.proofs.Common.{ℕ, ◌≤◌, ◌<◌, ◌≡◌, refl, sym, ap, ◌∙◌, List, Bool, true, false, ◌&&◌, arith, leb, ltb}
use Rattle.std.proofs.Common.{eqb, length, lt-ltb, le-ltb, le-leb}
use lib.Seq.{sets}
use Rattle.measure.specs.Choose.{choose}
use Rattle.measure.specs.Refusals.{Answer, given, refused, refused_after}
use Rattle.measure.specs.Lists.{onto}
use Rattle.capture.specs.Capture.{Heading, Capture, then, runs_from, with_runs, capture, reads_of_runs}
use Rattle.capture.specs.Answers.{summary, summed_up, unrolled, read_back}
use Rattle.capture.specs.declared.Summary.{Summary}
use Rattle.capture.proofs.Headings.{then_given}
use Rattle.measure.proofs.Laid.{laid_first}

-- a heading's capture with runs
abbrev pub captured : Heading → List ℕ → Capture
captured h runs = record { k = h.k; n = h.n; Q = h.Q; level = h.level; runs = runs }

pub with_given : (h : Heading) (runs : List ℕ) (c : Capture) → with_runs h runs ≡ given c
    → (c ≡ captured h runs) × ((eqb h.level 0 && eqb (length runs) 0) ≡ false)
with_given h runs c = go (eqb h.level 0 && eqb (length runs) 0)
  where
    go : (test : Bool) → choose test (refused 8 h.level_at) (given (captured h runs)) ≡ given c
        → (c ≡ captured h runs) × (test ≡ false)
    go true e = let z : ◌≡◌ {A = ℕ} 0 1 = cc in absurd (omega arith)
    go false e = (cc, refl)

summed_up_refused : (answer : Answer Capture) (number place : ℕ) → summed_up answer ≡ refused number place
    → answer ≡ refused number place
summed_up_refused (given c) number place e = let z : ◌≡◌ {A = ℕ} 0 1 = cc in absurd (omega arith)
summed_up_refused (refused a b) number place e = cc
summed_up_refused (refused_after a b d) number place e = let z : ◌≡◌ {A = ℕ} 0 1 = cc in absurd (omega arith)

module _ (s out : List ℕ) where
  pub read_refused : (number place : ℕ) → capture s ≡ refused number place
      → read_back s out ≡ (refused number place, out)
  unfolding read_back
  read_refused number place e = ap (λ answer. unrolled answer out) e

  pub read_refused_after : (number place count : ℕ) → capture s ≡ refused_after number place count
      → read_back s out ≡ (refused_after number place count, out)
  unfolding read_back
  read_refused_after number place count e = ap (λ answer. unrolled answer out) e

  pub read_given : (c : Capture) → capture s ≡ given c → length (reads_of_runs c.level c.runs) ≤ length out
      → read_back s out ≡ (given (summary c), onto (reads_of_runs c.level c.runs) out)
  unfolding read_back
  read_given c e h = rw (e, le-ltb (length out) (length (reads_of_runs c.level c.runs)) h)

  module _ (h : Heading) (found : capture s ≡ then (runs_from 0 s h.after) (with_runs h)) where
    pub read_runs_refused : (number place : ℕ)
        → summed_up (then (runs_from 0 s h.after) (with_runs h)) ≡ refused number place
        → read_back s out ≡ (refused number place, out)
    read_runs_refused number place e = read_refused number place (found ∙ summed_up_refused _ number place e)

    module _ (x : Summary)
        (e : summed_up (then (runs_from 0 s h.after) (with_runs h)) ≡ given x) where
      -- the runs of an accepted capture
      good : (runs : List ℕ)
          × ((runs_from 0 s h.after ≡ given runs)
          × ((capture s ≡ given (captured h runs)) × (summary (captured h runs) ≡ x)))
      good =
          let c = then_given (then (runs_from 0 s h.after) (with_runs h)) _ x e in
          let r = then_given (runs_from 0 s h.after) (with_runs h) c.0 c.1.0 in
          let w = (with_given h r.0 c.0 r.1.1).0 in
          (r.0, (r.1.0, (found ∙ c.1.0 ∙ ap given w, ap summary (sym w) ∙ cc c.1.1)))

      reads : List ℕ
      reads = reads_of_runs h.level good.0

      count : x.reads.0 ≡ length reads
      unfolding reads
      count = ap (λ (y : Summary). y.reads.0) (sym good.1.1.1)

      read_good : read_back s out ≡ choose (ltb (length out) (length reads)) (refused 4 0, out) (given x, onto reads out)
      unfolding read_back reads
      read_good =
          ap (λ answer. unrolled answer out) good.1.1.0
          ∙ ap (λ (y : Summary). choose (ltb (length out) (length reads)) (refused 4 0, out) (given y, onto reads out))
          good.1.1.1

      pub read_short : length out < x.reads.0 → read_back s out ≡ (refused 4 0, out)
      read_short l = read_good ∙ rw (lt-ltb (length out) (length reads) (omega (arith, count)))

      module _ (room : x.reads.0 ≤ length out) where
        pub read_roomy : then (runs_from 0 s h.after)
            (λ runs. given (leb (length (reads_of_runs h.level runs)) (length out))) ≡ given true
        unfolding reads
        read_roomy = rw (good.1.0, le-leb (length reads) (length out) (omega (arith, count)))

        pub read_whole : (out' : List ℕ)
            → then (runs_from 0 s h.after) (λ runs. given (sets out 0 (reads_of_runs h.level runs)))
            ≡ given out' → read_back s out ≡ (given x, out')
        unfolding reads
        read_whole out' o =
            let p : sets out 0 reads ≡ out' = cc (rw good.1.0 at o) in
            let q : length reads ≤ length out = omega (arith, count) in
            read_good
            ∙ rw (le-ltb (length out) (length reads) q)
            (ap (λ (l : List ℕ). (given x, l)) (sym (laid_first reads out q) ∙ p))
