-- A capture is judged one number after another, so its tests follow one another as its numbers do.
use Prim.Native.Nat.{ℕ, zero, suc, ◌+◌, ◌≤◌}
use mathlib.Core.Path.{◌≡◌, refl, sym}
use mathlib.Core.Bool.{Bool, true, false, ◌&&◌, not, false≢true}
use mathlib.Core.List.{List, [], ◌∷◌, ◌++◌}
use native.Mathlib.Omega.{arith}
use native.Mathlib.Decide.{dec_le}
use borrow.Author.Tests.{le-leb, lt-leb, ne_eqb}
use lib.Dec.{eqb, leb}
use lib.ListN.{length, drop}
use Rattle.measure.specs.Choose.{choose, between}
use Rattle.measure.specs.Ranges.{sampling, row_bits, quiet, capture_most}
use Rattle.measure.specs.Lists.{onto}
use Rattle.measure.specs.Refusals.{Answer, given, refused}
use Rattle.capture.specs.Numbers.{Group, value, cut, long, further, Numeral, placed, number_at}
use Rattle.capture.specs.Capture.{then, fitting_at, four_numbers, header, runs_from, fits_after, capture}
use Rattle.capture.specs.Answers.{summary, unrolled}
use Rattle.capture.proofs.Runs.{runs_end}
use Rattle.capture.proofs.Groups.{Ends, group_ends}
use Rattle.capture.proofs.Judging.{number_is, fitting_then, four_then, runs_then, capture_then}
use Rattle.promises.specs.Promised.{Test, good, first, Answered, Tells, limit, room}
use Rattle.promises.specs.GoodInput as Good
use Rattle.promises.proofs.Promised.{done, past, within, same, across, followed}

-- an answer after another, and one that is made of another
then_answered : {A B : Type 0} {tests more : List Test} {answer : Answer A} {x : A} {y : B} (go : A → Answer B)
    → Tells tests x answer → (good tests ≡ true → Tells more y (go x)) → Tells (tests ++ more) y (then answer go)
then_answered go one other = followed (λ answer. then answer go) one (λ number place. refl) other

then_made : {A B : Type 0} {tests : List Test} {answer : Answer A} {x : A} (make : A → B)
    → Tells tests x answer → Tells tests (make x) (then answer (λ x. given (make x)))
then_made make one = across (λ answer. then answer (λ x. given (make x))) one

module _ (bytes : List ℕ) (place : ℕ) where
  -- the number at a place
  abbrev numeral : Numeral
  numeral = record { value = Good.value_of (Good.at bytes place); after = Good.next bytes place }

  pub number_answered : Tells (Good.number bytes place) numeral (number_at bytes place)
  unfolding good first
  number_answered = same (number_is bytes place) (go (Good.at bytes place))
    where
      go : (g : Group)
          → Tells
          (record { number = 6; place = place; failed = Good.is_cut g }
          ∷ record { number = 7; place = place; failed = Good.is_long g }
          ∷ []) (record { value = Good.value_of g; after = place + Good.size_of g }) (placed place g)
      go (value v size) = record { gives = λ e. refl; refuses = λ e. absurd (false≢true (sym e)) }
      go cut = record { gives = λ e. absurd (false≢true e); refuses = λ e. refl }
      go long = record { gives = λ e. absurd (false≢true e); refuses = λ e. refl }

  fitting_answered : (fits : ℕ → Bool) → Tells (Good.in_range fits bytes place) numeral (fitting_at fits bytes place)
  fitting_answered fits =
      same (fitting_then fits bytes place)
      (followed
      (λ answer. then answer (λ n. choose (fits n.value) (given n) (refused 8 place))) number_answered
      (λ number place. refl) λ good.
      (within (fits (Good.value_of (Good.at bytes place))) 8 place (done refl)))

-- the first four numbers
four_answered : (bytes : List ℕ)
    → Tells
    (Good.in_range sampling bytes 0
    ++ (Good.in_range row_bits bytes (Good.second bytes)
    ++ (Good.in_range quiet bytes (Good.third bytes) ++ Good.in_range (between 0 1) bytes (Good.fourth bytes))))
    (Good.heading bytes) (four_numbers bytes)
four_answered bytes =
    same (four_then bytes)
    (then_answered _ (fitting_answered bytes 0 sampling) λ good.
    then_answered _ (fitting_answered bytes (Good.second bytes) row_bits) λ good.
    then_answered _ (fitting_answered bytes (Good.third bytes) quiet) λ good.
    then_made _ (fitting_answered bytes (Good.fourth bytes) (between 0 1)))

pub header_answered : (bytes : List ℕ) → Tells (Good.header bytes) (Good.heading bytes) (header bytes)
header_answered bytes = past (limit capture_most bytes) (four_answered bytes)

-- a number that is there has a byte
sized : (fits : ℕ → Bool) (bytes : List ℕ) (place : ℕ) → good (Good.in_range fits bytes place) ≡ true
    → 1 ≤ Good.size_of (Good.at bytes place)
unfolding good
sized fits bytes place = go (Good.at bytes place) (group_ends further (drop place bytes))
  where
    go : (g : Group) → Ends (length (drop place bytes)) g
        → (not (Good.is_cut g) && (not (Good.is_long g) && (not (not (fits (Good.value_of g))) && true))) ≡ true
        → 1 ≤ Good.size_of g
    go (value v size) ends e = ends.0
    go cut ends e = absurd (false≢true e)
    go long ends e = absurd (false≢true e)

-- the runs from a place on
runs_answered : (most total place : ℕ) (bytes : List ℕ) → length bytes ≤ most + place
    → Tells (Good.runs most total place bytes) (Good.runs_in most place bytes)
    (runs_from total bytes place)
unfolding Good.runs Good.runs_in
runs_answered zero total place bytes h = done (runs_end total bytes place (omega arith))
runs_answered (suc most) total place bytes h =
    go (dec_le (length bytes) place) (λ total place h. runs_answered most total place bytes h)
  where
    On : ℕ → ℕ → ℕ → Type 0
    On most total place =
        Tells (Good.runs most total place bytes) (Good.runs_in most place bytes)
        (runs_from total bytes place)

    go : Dec (length bytes ≤ place) → ((total place : ℕ) → length bytes ≤ most + place → On most total place)
        → On (suc most) total place
    go (yes over) more = rw (le-leb (length bytes) place over) (done (runs_end total bytes place over))
    go (no here) more =
        rw (lt-leb (length bytes) place (omega arith))
        (same (runs_then total bytes place (omega arith))
        (then_answered _ (fitting_answered bytes place (fits_after total)) λ good.
        then_made (λ runs. Good.value_of (Good.at bytes place) ∷ runs)
        (more (total + Good.value_of (Good.at bytes place)) (Good.next bytes place)
        (omega (arith, sized (fits_after total) bytes place good)))))

-- there is no run exactly where no byte is left for one
no_run : (bytes : List ℕ) (place : ℕ)
    → eqb (length (Good.runs_in (length bytes) place bytes)) 0 ≡ leb (length bytes) place
unfolding Good.runs_in
no_run [] place = rw (le-leb 0 place (omega arith))
no_run (byte ∷ bytes) place = go (leb (suc (length bytes)) place)
  where
    go : (over : Bool)
        → eqb
        (length (choose over [] (Good.value_of (Good.at (byte ∷ bytes) place)
        ∷ Good.runs_in (length bytes) (Good.next (byte ∷ bytes) place) (byte ∷ bytes)))) 0 ≡ over
    go true = refl
    go false = ne_eqb (suc (length (Good.runs_in (length bytes) (Good.next (byte ∷ bytes) place) (byte ∷ bytes)))) 0
        (λ e. omega arith)

pub capture_answered : (bytes : List ℕ) → Tells (Good.capture bytes) (Good.captured bytes) (capture bytes)
capture_answered bytes =
    same (capture_then bytes)
    (then_answered _ (header_answered bytes) λ good.
    then_answered _ (runs_answered (length bytes) 0 (Good.first_run bytes) bytes (omega arith)) λ good.
    same (rw (no_run bytes (Good.first_run bytes))) (past (Good.some_run bytes) (done refl)))

-- reading one puts its reads in a lent output, for which there has to be room
pub read_answered : (bytes output : List ℕ)
    → Answered (Good.read_capture bytes output) (unrolled (capture bytes) output)
    (given (summary (Good.captured bytes)), onto (Good.reads_in bytes) output)
    (λ number place. (refused number place, output))
read_answered bytes output =
    followed (λ c. unrolled c output) (capture_answered bytes) (λ number place. refl) λ good.
    (past (room (length (Good.reads_in bytes)) output) (done refl))
