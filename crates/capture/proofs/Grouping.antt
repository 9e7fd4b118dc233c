-- Reads become runs one run at a time: a run goes on while the reads are equal, and the runs after it are those of the
-- reads after it.
use Rattle.std.proofs.Common.{ℕ, suc, ◌+◌, ◌-◌, ◌*◌, ◌≤◌, ◌<◌, ◌≡◌, refl, ap, ◌∙◌, List, [], ◌∷◌, ◌++◌, arith}
use Rattle.std.proofs.Common.{add-zero, add-one, eqb, length, take, drop, length-append, Bool, true, false, eq-eqb}
use Rattle.std.proofs.Common.{ne_eqb, eqb-true}
use Rattle.std.proofs.lemmas.List.{take_rest}
use borrow.Author.Tests.{eqb-false}
use Rattle.measure.specs.Choose.{choose}
use Rattle.measure.specs.Ranges.{entries_most}
use Rattle.capture.specs.Numbers.{further, bound, spelled}
use Rattle.capture.specs.Writing.{runs_after, runs_of, numbers}
use Rattle.capture.proofs.Groups.{either}
use Rattle.capture.proofs.Runs.{sum}
use Rattle.capture.proofs.Sinks.{Taking, Lawful, taking_all, taking_next, taking_part}
use Rattle.capture.proofs.Spelling.{size_low}

after_same : (level count read : ℕ) (l : List ℕ) → read ≡ level
    → runs_after level count (read ∷ l) ≡ runs_after level (suc count) l
unfolding runs_after
after_same level count read l e = rw (eq-eqb read level e)

pub after_other : (level count read : ℕ) (l : List ℕ) → (read ≡ level → ⊥)
    → runs_after level count (read ∷ l) ≡ count ∷ runs_of (read ∷ l)
unfolding runs_after runs_of
after_other level count read l e = rw (ne_eqb read level e)

after_none : (level count : ℕ) → runs_after level count [] ≡ count ∷ runs_of []
unfolding runs_after runs_of
after_none level count = refl

-- how many reads at the front are of a level
abbrev pub alike : ℕ → List ℕ → ℕ
alike level [] = 0
alike level (read ∷ reads) = choose (eqb read level) (suc (alike level reads)) 0

pub alike_hit : (level read : ℕ) (reads : List ℕ) → (read ≡ level → ⊥) → alike level (read ∷ reads) ≡ 0
alike_hit level read reads h = rw (ne_eqb read level h)

pub alike_miss : (level read : ℕ) (reads : List ℕ) → read ≡ level
    → alike level (read ∷ reads) ≡ alike level reads + 1
alike_miss level read reads h = rw (eq-eqb read level h, add-one)

pub alike_within : (level : ℕ) (reads : List ℕ) → alike level reads ≤ length reads
alike_within level [] = omega arith
alike_within level (read ∷ reads) =
    either (λ n. n ≤ suc (length reads)) (eqb read level) (λ e. omega (arith, alike_within level reads))
    (λ e. omega arith)

-- a run goes on over those, and then the runs of the others follow
run_after : (level count : ℕ) (reads : List ℕ)
    → runs_after level count reads ≡ (count + alike level reads) ∷ runs_of (drop (alike level reads) reads)
run_after level count [] = rw add-zero (after_none level count)
run_after level count (read ∷ reads) = go (eqb read level) refl (run_after level (suc count) reads)
  where
    go : (test : Bool) → eqb read level ≡ test
        → runs_after level (suc count) reads
        ≡ (suc count + alike level reads) ∷ runs_of (drop (alike level reads) reads)
        → runs_after level count (read ∷ reads)
        ≡ (count + alike level (read ∷ reads)) ∷ runs_of (drop (alike level (read ∷ reads)) (read ∷ reads))
    go true e rest =
        let f : suc count + alike level reads ≡ count + suc (alike level reads) = omega arith in
        rw e (after_same level count read reads (eqb-true read level e) ∙ rest ∙ rw f)
    go false e rest = rw (e, add-zero) (after_other level count read reads (eqb-false read level e))

pub run_first : (level : ℕ) (reads : List ℕ)
    → runs_of (level ∷ reads) ≡ (1 + alike level reads) ∷ runs_of (drop (alike level reads) reads)
unfolding runs_of
run_first level reads = run_after level 1 reads

-- the same with the others as the code has them
pub next_run : (level : ℕ) (others : List ℕ) (more : ℕ) → more ≡ alike level others
    → runs_of (level ∷ others) ≡ (1 + more) ∷ runs_of (take (length others - more) (drop more others))
next_run level others more e = rw (take_rest, e) (run_first level others)

-- the runs have as many reads as there are, and few bytes
sum_after : (level count : ℕ) (reads : List ℕ) → sum (runs_after level count reads) ≡ count + length reads
unfolding runs_after
sum_after level count [] = refl
sum_after level count (read ∷ reads) =
    either (λ runs. sum runs ≡ count + suc (length reads)) (eqb read level)
    (λ e. omega (arith, sum_after level (suc count) reads)) (λ e. omega (arith, sum_after read 1 reads))

pub sum_runs : (reads : List ℕ) → sum (runs_of reads) ≡ length reads
unfolding runs_of
sum_runs [] = refl
sum_runs (read ∷ reads) = omega (arith, sum_after read 1 reads)

pub no_runs : (reads : List ℕ) → length reads ≡ 0 → runs_of reads ≡ []
unfolding runs_of
no_runs [] e = refl
no_runs (read ∷ reads) e = absurd (omega arith)

-- the bytes of runs
pub numbers_one : (v : ℕ) (vs : List ℕ) → numbers (v ∷ vs) ≡ spelled v ++ numbers vs
unfolding numbers
numbers_one v vs = refl

few_after : (level count : ℕ) (reads : List ℕ)
    → length (numbers (runs_after level count reads)) ≤ count + 2 * length reads + 1
unfolding runs_after numbers
few_after level count [] = omega (arith, size_low further count, length-append (spelled count) [])
few_after level count (read ∷ reads) =
    either (λ runs. length (numbers runs) ≤ count + 2 * suc (length reads) + 1) (eqb read level)
    (λ e. omega (arith, few_after level (suc count) reads))
    (λ e.
    omega (
      arith,
      size_low further count,
      length-append (spelled count) (numbers (runs_after read 1 reads)),
      few_after read 1 reads,
    ))

pub few_bytes : (reads : List ℕ) → length (numbers (runs_of reads)) ≤ 2 * length reads
unfolding runs_of numbers
few_bytes [] = omega arith
few_bytes (read ∷ reads) = omega (arith, few_after read 1 reads)

-- of `all`, what a sink took since it was s₀, where the runs of reads are still to come
pub record Coming {S : Type 0} (took : S → List ℕ → S → Type 0) (s₀ : S) (all : List ℕ) (s : S) (reads : List ℕ)
    : Type 0 where
  pub taking : Taking took s₀ all s (numbers (runs_of reads))
  pub low : sum (runs_of reads) ≤ entries_most

module _ {S : Type 0} {room : S → ℕ} {took : S → List ℕ → S → Type 0} (laws : Lawful room took) {s₀ s : S}
    {all reads : List ℕ} (q : Coming took s₀ all s reads) where
  pub coming_all : runs_of reads ≡ [] → took s₀ all s
  unfolding numbers
  coming_all e = taking_all laws (rw e at q.taking)

  module _ {run : ℕ} (others : List ℕ) (e : runs_of reads ≡ run ∷ runs_of others) where
    parts : numbers (runs_of reads) ≡ spelled run ++ numbers (runs_of others)
    parts = ap numbers e ∙ numbers_one run (runs_of others)

    pub coming_low : run < bound further
    coming_low = omega (arith, q.low, ap sum e)

    pub coming_room : length all ≤ room s₀ → length (spelled run) ≤ room s
    coming_room h = taking_next laws (spelled run) (numbers (runs_of others)) (rw parts at q.taking) h

    pub coming_one : (s' : S) → took s (spelled run) s' → Coming took s₀ all s' others
    coming_one s' t = record {
      taking = taking_part laws (spelled run) s' (rw parts at q.taking) t;
      low = omega (arith, q.low, ap sum e);
    }
