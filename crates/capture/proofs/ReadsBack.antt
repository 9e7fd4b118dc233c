-- Each number of a capture that was written is read back where it stands, so the whole is; and the reads are those of
-- their runs.
use Rattle.std.proofs.Common.{ℕ, suc, ◌+◌, ◌-◌, ◌≤◌, ◌<◌, ◌≡◌, refl, sym, ap, ◌∙◌, List, [], ◌∷◌, ◌++◌, append_assoc}
use Rattle.std.proofs.Common.{Bool, true, false, ◌&&◌, arith, eqb, length, drop, replicate, length-append}
use Rattle.std.proofs.Common.{length-drop, drop_at, drop-drop, eqb-true, le-leb}
use lib.ListN.{replicate-append-replicate}
use borrow.Author.Tests.{eqb-false}
use Rattle.measure.specs.Choose.{choose, between}
use Rattle.measure.specs.Ranges.{sampling, row_bits, quiet, entries_most, capture_most}
use Rattle.measure.specs.Levels.{Levels}
use Rattle.measure.specs.Refusals.{given, refused}
use Rattle.capture.specs.Numbers.{further, bound, spelled}
use Rattle.capture.specs.Capture.{Heading, four_numbers, fitting_at, joined, runs_from, total_most, with_runs, capture}
use Rattle.capture.specs.Capture.{reads_of_runs}
use Rattle.capture.specs.Writing.{runs_after, runs_of, first_level, numbers, capture_of}
use Rattle.capture.proofs.Groups.{either}
use Rattle.capture.proofs.Headings.{in_range_lem, fitting_in, heading_is}
use Rattle.capture.proofs.Captures.{capture_found, header_short}
use Rattle.capture.proofs.ReadLaws.{captured}
use Rattle.capture.proofs.Runs.{sum, runs_end, runs_one}
use Rattle.capture.proofs.Spelling.{size_some, size_run, size_groups}
use Rattle.capture.proofs.Respelling.{number_back}
use Rattle.capture.proofs.WriteLaws.{InRange, all_in, capture_length}

-- runs of at least one read each
abbrev pub Some : List ℕ → Type 0
Some [] = Unit {0}
Some (run ∷ runs) = (1 ≤ run) × Some runs

-- runs that are spelled from a place to the end are read back
pub runs_back : (runs : List ℕ) (total : ℕ) (s : List ℕ) (at : ℕ) → drop at s ≡ numbers runs → Some runs
    → total + sum runs ≤ total_most → runs_from total s at ≡ given runs
unfolding numbers
runs_back [] total s at e p h = runs_end total s at (omega (arith, ap length e, length-drop at s))
runs_back (run ∷ runs) total s at e p h =
    let size = length (spelled run) in
    let here : at < length s =
    omega
    (arith, ap length e, length-drop at s, length-append (spelled run) (numbers runs), size_some further run) in
    let rest : drop (at + size) s ≡ numbers runs =
    sym (drop-drop size at s) ∙ ap (drop size) e ∙ drop_at (spelled run) (numbers runs) size refl in
    runs_one total s at here _ (number_back s (numbers runs) at run e (omega arith)) p.0 (omega arith)
    ∙ ap (joined run) (runs_back runs (total + run) s (at + size) rest p.1 (omega arith))

-- the runs of reads: each has a read, and together they have as many as there are
after_some : (level count : ℕ) (reads : List ℕ) → 1 ≤ count → Some (runs_after level count reads)
unfolding runs_after
after_some level count [] h = (h, tt)
after_some level count (read ∷ reads) h =
    either Some (eqb read level) (λ e. after_some level (suc count) reads (omega arith))
    (λ e. (h, after_some read 1 reads (omega arith)))

after_sum : (level count : ℕ) (reads : List ℕ) → sum (runs_after level count reads) ≡ count + length reads
unfolding runs_after
after_sum level count [] = omega arith
after_sum level count (read ∷ reads) =
    either (λ (l : List ℕ). sum l ≡ count + length (read ∷ reads)) (eqb read level)
    (λ e. omega (arith, after_sum level (suc count) reads)) (λ e. omega (arith, after_sum read 1 reads))

pub runs_some : (reads : List ℕ) → Some (runs_of reads)
unfolding runs_of
runs_some [] = tt
runs_some (read ∷ reads) = after_some read 1 reads (omega arith)

pub runs_sum : (reads : List ℕ) → sum (runs_of reads) ≡ length reads
unfolding runs_of
runs_sum [] = refl
runs_sum (read ∷ reads) = omega (arith, after_sum read 1 reads)

-- reads, from their runs
turned : (x y : ℕ) → x ≤ 1 → y ≤ 1 → (y ≡ x → ⊥) → 1 - x ≡ y
turned x y a b n = omega arith

after_reads : (level count : ℕ) (reads : List ℕ) → level ≤ 1 → Levels reads
    → reads_of_runs level (runs_after level count reads) ≡ replicate count level ++ reads
unfolding runs_after reads_of_runs
after_reads level count [] h l = refl
after_reads level count (read ∷ reads) h l =
    go (after_reads level (suc count) reads h l.1) (after_reads read 1 reads l.0 l.1) (eqb read level) refl
  where
    go : reads_of_runs level (runs_after level (suc count) reads) ≡ replicate (suc count) level ++ reads
        → reads_of_runs read (runs_after read 1 reads) ≡ replicate 1 read ++ reads
        → (test : Bool) → eqb read level ≡ test
        → reads_of_runs level (runs_after level count (read ∷ reads)) ≡ replicate count level ++ (read ∷ reads)
    go same other true e =
        let f : suc count ≡ count + 1 = omega arith in
        rw (e, eqb-true read level e)
        (same ∙ ap (λ (i : ℕ). replicate i level ++ reads) f
        ∙ ap (λ (l : List ℕ). l ++ reads) (sym (replicate-append-replicate count 1 level))
        ∙ append_assoc (replicate count level) (level ∷ []) reads)
    go same other false e =
        let f : 1 - level ≡ read = turned level read h l.0 (eqb-false read level e) in
        rw e (ap (λ (i : ℕ). replicate count level ++ reads_of_runs i (runs_after read 1 reads)) f
        ∙ ap (λ (l : List ℕ). replicate count level ++ l) other)

pub reads_back : (reads : List ℕ) → Levels reads → reads_of_runs (first_level reads) (runs_of reads) ≡ reads
unfolding runs_of reads_of_runs
reads_back [] l = refl
reads_back (read ∷ reads) l = after_reads read 1 reads l.0 l.1

-- the first four numbers, each after those before it
fitting_back : (fits : ℕ → Bool) (s p l : List ℕ) (at v : ℕ) → s ≡ p ++ (spelled v ++ l) → length p ≡ at
    → fits v ≡ true → v < bound further
    → fitting_at fits s at ≡ given (record { value = v; after = at + length (spelled v) })
fitting_back fits s p l at v e f t h =
    fitting_in fits s at _ (number_back s l at v (rw e (drop_at p (spelled v ++ l) at f)) h) t

module _ (k n Q level : ℕ) (runs : List ℕ) where
  -- where the number after each begins
  abbrev n_at : ℕ
  n_at = 0 + length (spelled k)

  abbrev q_at : ℕ
  q_at = n_at + length (spelled n)

  abbrev level_at : ℕ
  level_at = q_at + length (spelled Q)

  abbrev runs_at : ℕ
  runs_at = level_at + length (spelled level)

  abbrev whole : List ℕ
  whole = spelled k ++ (spelled n ++ (spelled Q ++ (spelled level ++ numbers runs)))

  abbrev front : Heading
  front = record { k = k; n = n; Q = Q; level = level; level_at = level_at; after = runs_at }

  heading_back : InRange k n Q → level ≤ 1 → four_numbers whole ≡ given front
  heading_back r l =
      let f = all_in (sampling k) (row_bits n) (quiet Q) r in
      heading_is whole
      (fitting_back sampling whole [] (spelled n ++ (spelled Q ++ (spelled level ++ numbers runs))) 0 k refl refl
      f.0 (omega (arith, in_range_lem _ _ k f.0)))
      (fitting_back row_bits whole (spelled k) (spelled Q ++ (spelled level ++ numbers runs)) n_at n refl (omega arith)
      f.1.0 (omega (arith, in_range_lem _ _ n f.1.0)))
      (fitting_back quiet whole (spelled k ++ spelled n) (spelled level ++ numbers runs) q_at Q (simp append_assoc)
      (omega (arith, length-append (spelled k) (spelled n))) f.1.1 (omega (arith, in_range_lem _ _ Q f.1.1)))
      (fitting_back (between 0 1) whole (spelled k ++ (spelled n ++ spelled Q)) (numbers runs) level_at level
      (simp append_assoc)
      (omega (arith, length-append (spelled k) (spelled n ++ spelled Q), length-append (spelled n) (spelled Q)))
      (rw (le-leb 0 level (omega arith), le-leb level 1 l)) (omega arith))

  tail_back : drop runs_at whole ≡ numbers runs
  tail_back =
      let p : whole ≡ (spelled k ++ (spelled n ++ (spelled Q ++ spelled level))) ++ numbers runs = simp append_assoc in
      rw p (drop_at (spelled k ++ (spelled n ++ (spelled Q ++ spelled level))) (numbers runs) runs_at
      (omega (
        arith,
        length-append (spelled k) (spelled n ++ (spelled Q ++ spelled level)),
        length-append (spelled n) (spelled Q ++ spelled level),
        length-append (spelled Q) (spelled level),
      )))

  with_back : (length runs ≡ 0 → level ≡ 1) → with_runs front runs ≡ given (captured front runs)
  with_back e = go (eqb level 0) refl (eqb (length runs) 0) refl
    where
      go : (a : Bool) → eqb level 0 ≡ a → (b : Bool) → eqb (length runs) 0 ≡ b
          → choose (a && b) (refused 8 level_at) (given (captured front runs)) ≡ given (captured front runs)
      go true f true g = absurd (omega (arith, eqb-true level 0 f, e (eqb-true (length runs) 0 g)))
      go true f false g = refl
      go false f b g = refl

-- the bytes of runs are no more than the reads
pub size_runs : (runs : List ℕ) → Some runs → length (numbers runs) ≤ sum runs
unfolding numbers
size_runs [] p = omega arith
size_runs (run ∷ runs) p =
    omega (arith, length-append (spelled run) (numbers runs), size_run further run p.0, size_runs runs p.1)

first_low : (reads : List ℕ) → Levels reads → first_level reads ≤ 1
first_low [] l = omega arith
first_low (read ∷ reads) l = l.0

sum_none : (runs : List ℕ) → length runs ≡ 0 → sum runs ≡ 0
sum_none [] e = refl
sum_none (run ∷ runs) e = absurd (omega arith)

first_none : (reads : List ℕ) → length (runs_of reads) ≡ 0 → first_level reads ≡ 1
first_none [] e = refl
first_none (read ∷ reads) e = absurd (omega (arith, sum_none (runs_of (read ∷ reads)) e, runs_sum (read ∷ reads)))

-- A capture has no more bytes than it may: its settings need two groups each, its level one, its runs no more bytes
-- than reads.
capture_short : (k n Q : ℕ) (reads : List ℕ) → InRange k n Q → length reads ≤ entries_most → Levels reads
    → length (capture_of k n Q reads) ≤ capture_most
capture_short k n Q reads r h l =
    let f = all_in (sampling k) (row_bits n) (quiet Q) r in
    omega (
      arith,
      capture_length k n Q reads (first_level reads) refl,
      size_groups further 1 k (omega (arith, in_range_lem _ _ k f.0)),
      size_groups further 1 n (omega (arith, in_range_lem _ _ n f.1.0)),
      size_groups further 1 Q (omega (arith, in_range_lem _ _ Q f.1.1)),
      size_groups further 0 (first_level reads) (omega (arith, first_low reads l)),
      size_runs (runs_of reads) (runs_some reads),
      runs_sum reads,
    )

-- the capture of settings and reads is accepted, with its settings, its first level and its runs
pub capture_back : (k n Q : ℕ) (reads : List ℕ) → InRange k n Q → length reads ≤ entries_most → Levels reads
    → capture (capture_of k n Q reads)
    ≡ given (record { k = k; n = n; Q = Q; level = first_level reads; runs = runs_of reads })
unfolding capture_of numbers
capture_back k n Q reads r h l =
    let level = first_level reads in
    let runs = runs_of reads in
    capture_found (whole k n Q level runs) (front k n Q level runs)
    (header_short (whole k n Q level runs) (capture_short k n Q reads r h l)
    ∙ heading_back k n Q level runs r (first_low reads l))
    ∙ rw (runs_back runs 0 (whole k n Q level runs) (runs_at k n Q level runs) (tail_back k n Q level runs)
    (runs_some reads) (omega (arith, runs_sum reads)))
    (with_back k n Q level runs (first_none reads))
