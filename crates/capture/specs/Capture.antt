-- Rules F: what the numbers of a capture stand for. Four come first, the settings and a level; all others are run
-- lengths.
use Rattle.std.specs.Prelude.{ℕ, zero, suc, ◌+◌, ◌-◌, List, [], ◌∷◌, ◌++◌, Bool, ◌&&◌, length, replicate, leb, ltb, eqb}
use Rattle.measure.specs.Choose.{choose, between}
use Rattle.measure.specs.Ranges.{sampling, row_bits, quiet, entries_most, capture_most}
use Rattle.measure.specs.Refusals.{Answer, given, refused, refused_after}
use Rattle.capture.specs.Numbers.{Numeral, number_at}

-- F22: what follows, or the refusal handed on as it came
abbrev pub then : {A B : Type 0} → Answer A → (A → Answer B) → Answer B
then (given x) go = go x
then (refused number place) go = refused number place
then (refused_after number place count) go = refused_after number place count

-- R8: the number at a place, which has to pass a test: refusal 8 where it does not, and 6 or 7 before that
unfoldable pub fitting_at : (ℕ → Bool) → List ℕ → ℕ → Answer Numeral
fitting_at fits bytes at = then (number_at bytes at) (λ n. choose (fits n.value) (given n) (refused 8 at))

-- F24: the first four numbers, the level's place and the place after it
pub record Heading : Type 0 where
  pub k : ℕ
  pub n : ℕ
  pub Q : ℕ
  pub level : ℕ
  pub level_at : ℕ
  pub after : ℕ

-- F10, R8: k, n, Q and the first level, each in its range
unfoldable pub four_numbers : List ℕ → Answer Heading
four_numbers bytes =
    then (fitting_at sampling bytes 0) (λ k.
    then (fitting_at row_bits bytes k.after) (λ n.
    then (fitting_at quiet bytes n.after) (λ Q.
    then (fitting_at (between 0 1) bytes Q.after) (λ level.
    given
    (record {
      k = k.value;
      n = n.value;
      Q = Q.value;
      level = level.value;
      level_at = Q.after;
      after = level.after;
    })))))

-- R53: the header of bytes that are to be a capture: refusal 3 for too many bytes comes before any other
abbrev pub header : List ℕ → Answer Heading
header bytes = choose (ltb capture_most (length bytes)) (refused 3 0) (four_numbers bytes)

-- F12: the greatest total of the runs
abbrev pub total_most : ℕ
total_most = entries_most

-- R8, F12: a run after runs with a total: it is at least 1, and the total with it is not too large
abbrev pub fits_after : ℕ → ℕ → Bool
fits_after total run = leb 1 run && leb (total + run) total_most

-- F10: a run before those that follow
abbrev pub joined : ℕ → Answer (List ℕ) → Answer (List ℕ)
joined run answer = then answer (λ runs. given (run ∷ runs))

-- The runs from a place to the end of the bytes, so many at most, after runs with a total: the number at the place,
-- which has to fit as a run, and then the runs from the place after it.
unfoldable pub some_runs_from : ℕ → ℕ → List ℕ → ℕ → Answer (List ℕ)
some_runs_from zero total bytes at = given []
some_runs_from (suc most) total bytes at =
    choose (leb (length bytes) at) (given [])
    (then (fitting_at (fits_after total) bytes at) (λ run.
    joined run.value (some_runs_from most (total + run.value) bytes run.after)))

-- F10, F12, R21: all of them, since each has a byte at least
unfoldable pub runs_from : ℕ → List ℕ → ℕ → Answer (List ℕ)
runs_from total bytes at = some_runs_from (length bytes) total bytes at

-- F10: a capture that is accepted: its settings, first level and runs
pub record Capture : Type 0 where
  pub k : ℕ
  pub n : ℕ
  pub Q : ℕ
  pub level : ℕ
  pub runs : List ℕ

-- F13, R8, R28: no reads at all are written as first level 1 and no run; a first level of 0 with no run is refused with
-- 8 at the level's byte
abbrev pub with_runs : Heading → List ℕ → Answer Capture
with_runs h runs =
    choose (eqb h.level 0 && eqb (length runs) 0) (refused 8 h.level_at)
    (given (record { k = h.k; n = h.n; Q = h.Q; level = h.level; runs = runs }))

-- R54, R21: the capture that bytes spell out, or the first refusal from the left
unfoldable pub capture : List ℕ → Answer Capture
capture bytes = then (header bytes) (λ h. then (runs_from 0 bytes h.after) (with_runs h))

-- F11: the reads that runs stand for, levels alternating from the first on
unfoldable pub reads_of_runs : ℕ → List ℕ → List ℕ
reads_of_runs level [] = []
reads_of_runs level (run ∷ runs) = replicate run level ++ reads_of_runs (1 - level) runs
