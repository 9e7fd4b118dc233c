-- A capture is its four numbers and its runs, one after another; what writing answers goes by the tests in their
-- order.
use Rattle.std.proofs.Common.{ℕ, ◌+◌, ◌*◌, ◌≤◌, ◌<◌, ◌≡◌, refl, ap, ◌∙◌, List, ◌++◌, Bool, true, false, ◌&&◌, arith}
use Rattle.std.proofs.Common.{length, length-append, lt-ltb, le-ltb}
use Rattle.measure.specs.Ranges.{sampling, row_bits, quiet, entries_most, row_settings_fit}
use Rattle.std.specs.Prelude.{Result, Err, IsErrAnd}
use Rattle.measure.specs.Lists.{some_above, onto}
use Rattle.measure.specs.Refusals.{given, refused, entries_answer}
use Rattle.measure.specs.declared.Refusal.{Refusal}
use Rattle.measure.proofs.Checked.{bad_entries}
use Rattle.capture.specs.Numbers.{further, bound, spelled}
use Rattle.capture.specs.Writing.{first_level, runs_of, numbers, capture_of}
use Rattle.capture.specs.Answers.{written, written_says}
use Rattle.capture.proofs.Headings.{in_range_lem}
use Rattle.capture.proofs.Grouping.{few_bytes}
use Rattle.capture.proofs.Sinks.{Taking, Lawful, taking_none, taking_part}
use Rattle.capture.proofs.Spelling.{size_most}

-- settings that are in range
abbrev pub InRange : ℕ → ℕ → ℕ → Type 0
InRange k n Q = row_settings_fit k n Q ≡ true

pub all_in : (a b c : Bool) → (a && b && c) ≡ true → (a ≡ true) × ((b ≡ true) × (c ≡ true))
all_in true true true e = (refl, (refl, refl))
all_in true true false e = let z : ◌≡◌ {A = ℕ} 0 1 = cc in absurd (omega arith)
all_in true false c e = let z : ◌≡◌ {A = ℕ} 0 1 = cc in absurd (omega arith)
all_in false b c e = let z : ◌≡◌ {A = ℕ} 0 1 = cc in absurd (omega arith)

-- they can be spelled
pub settings_low : (k n Q : ℕ) → InRange k n Q → (k < bound further) × ((n < bound further) × (Q < bound further))
settings_low k n Q e =
    let f = all_in (sampling k) (row_bits n) (quiet Q) e in (
      omega (arith, in_range_lem _ _ k f.0),
      (omega (arith, in_range_lem _ _ n f.1.0), omega (arith, in_range_lem _ _ Q f.1.1)),
    )

module _ (k n Q : ℕ) (reads : List ℕ) (level : ℕ) (e : level ≡ first_level reads) where
  capture_parts : capture_of k n Q reads ≡ spelled k
      ++ (spelled n ++ (spelled Q ++ (spelled level ++ numbers (runs_of reads))))
  unfolding capture_of numbers
  capture_parts = rw e

  pub capture_length : length (capture_of k n Q reads)
      ≡ length (spelled k) +
      (length (spelled n) + (length (spelled Q) + (length (spelled level) + length (numbers (runs_of reads)))))
  capture_length = ap length capture_parts ∙ simp length-append

  -- it has few bytes
  pub capture_few : length (capture_of k n Q reads) ≤ 4 * (further + 1) + 2 * length reads
  capture_few =
      omega (
        arith,
        capture_length,
        size_most further k,
        size_most further n,
        size_most further Q,
        size_most further level,
        few_bytes reads,
      )

  -- what is still to come where nothing of it is put yet, and where k, n, Q and the level are
  module _ {S : Type 0} {room : S → ℕ} {took : S → List ℕ → S → Type 0} (laws : Lawful room took) (s : S) where
    abbrev Coming : S → List ℕ → Type 0
    Coming s' rest = Taking took s (capture_of k n Q reads) s' rest

    pub before_k : Coming s (spelled k ++ (spelled n ++ (spelled Q ++ (spelled level ++ numbers (runs_of reads)))))
    before_k = rw (← capture_parts) (taking_none laws s (capture_of k n Q reads))

    module _ {with_k : S} (put_k : took s (spelled k) with_k) where
      pub before_n : Coming with_k (spelled n ++ (spelled Q ++ (spelled level ++ numbers (runs_of reads))))
      before_n = taking_part laws (spelled k) with_k before_k put_k

      module _ {with_n : S} (put_n : took with_k (spelled n) with_n) where
        pub before_q : Coming with_n (spelled Q ++ (spelled level ++ numbers (runs_of reads)))
        before_q = taking_part laws (spelled n) with_n before_n put_n

        module _ {with_q : S} (put_q : took with_n (spelled Q) with_q) where
          pub before_level : Coming with_q (spelled level ++ numbers (runs_of reads))
          before_level = taking_part laws (spelled Q) with_q before_q put_q

          pub before_runs : (with_level : S) → took with_q (spelled level) with_level
              → Coming with_level (numbers (runs_of reads))
          before_runs with_level put_level = taking_part laws (spelled level) with_level before_level put_level

-- what writing answers at each way out
module _ (k n Q : ℕ) (reads out : List ℕ) where
  pub write_setting : row_settings_fit k n Q ≡ false → written k n Q reads out ≡ (refused 1 0, out)
  unfolding written
  write_setting e = rw e

  module _ (fit : InRange k n Q) where
    pub write_limit : entries_most < length reads → written k n Q reads out ≡ (refused 3 0, out)
    unfolding written
    write_limit h = rw (fit, lt-ltb entries_most (length reads) h)

    module _ (few : length reads ≤ entries_most) where
      -- the refusal of an entry that is no level, that `?` hands on
      pub write_entry : (e : Refusal) (r : Result ℕ Refusal) → entries_answer 1 reads ≡ Err e
          → IsErrAnd r (λ other. other ≡ e) → written k n Q reads out ≡ (written_says r, out)
      unfolding written
      write_entry e r h same =
          rw (fit, le-ltb entries_most (length reads) few) (bad_entries (λ size. size) 1 reads e r out _ h same)

      module _ (levels : some_above 1 reads ≡ false) where
        pub write_room : length out < length (capture_of k n Q reads) → written k n Q reads out ≡ (refused 4 0, out)
        unfolding written
        write_room h =
            rw (
              fit,
              le-ltb entries_most (length reads) few,
              levels,
              lt-ltb (length out) (length (capture_of k n Q reads)) h,
            )

        pub write_whole : length (capture_of k n Q reads) ≤ length out
            → written k n Q reads out ≡ (given (length (capture_of k n Q reads)), onto (capture_of k n Q reads) out)
        unfolding written
        write_whole h =
            rw (
              fit,
              le-ltb entries_most (length reads) few,
              levels,
              le-ltb (length out) (length (capture_of k n Q reads)) h,
            )
