-- The runs from a place on are the run there and the runs from the place after it; so they can be walked one at a time.
use Rattle.std.proofs.Common.{ℕ, zero, suc, ◌+◌, ◌-◌, ◌≤◌, ◌<◌, ◌≡◌, refl, sym, ap, ◌∙◌, List, [], ◌∷◌, Bool, true}
use Rattle.std.proofs.Common.{false, ◌&&◌, arith, leb, length, replicate, length-append, le-leb, leb-true}
use native.Mathlib.Decide.{dec_le}
use lib.ListN.{length-replicate}
use borrow.Author.Tests.{lt-leb}
use Rattle.measure.specs.Choose.{choose, between}
use Rattle.measure.specs.Levels.{Levels}
use Rattle.measure.specs.Refusals.{Answer, given, refused, refused_after}
use Rattle.measure.proofs.Both.{both}
use Rattle.measure.proofs.LevelLaws.{most_append, most_replicate}
use Rattle.capture.specs.Numbers.{Numeral, number_at}
use Rattle.capture.specs.Capture.{then, fitting_at, joined, fits_after, some_runs_from, runs_from, total_most}
use Rattle.capture.specs.Capture.{reads_of_runs}
use Rattle.capture.proofs.Places.{number_on}
use Rattle.capture.proofs.Headings.{then_given, then_same, fitting_refused, fitting_in, fitting_out}
use Rattle.capture.proofs.Headings.{fitting_given, in_range_lem}

-- the runs from a place before the end go by the number there
module _ (most total : ℕ) (s : List ℕ) (at : ℕ) where
  runs_there : at < length s
      → some_runs_from (suc most) total s at
      ≡ then (fitting_at (fits_after total) s at)
      (λ run. joined run.value (some_runs_from most (total + run.value) s run.after))
  unfolding some_runs_from
  runs_there h = rw (lt-leb (length s) at h)

runs_done : (most total : ℕ) (s : List ℕ) (at : ℕ) → length s ≤ at → some_runs_from most total s at ≡ given []
unfolding some_runs_from
runs_done zero total s at h = refl
runs_done (suc most) total s at h = rw (le-leb (length s) at h)

-- a number that fits ends further on
fitting_on : (fits : ℕ → Bool) (s : List ℕ) (at : ℕ) (n : Numeral) → fitting_at fits s at ≡ given n → at < n.after
fitting_on fits s at n e = number_on s at n (fitting_given fits s at n e).0

-- how many runs there may be does not matter, where there may be one for each byte that is left
runs_enough : (most others total : ℕ) (s : List ℕ) (at : ℕ) → length s - at ≤ most → length s - at ≤ others
    → some_runs_from most total s at ≡ some_runs_from others total s at
runs_enough zero others total s at h k =
    runs_done zero total s at (omega arith) ∙ sym (runs_done others total s at (omega arith))
runs_enough (suc most) zero total s at h k =
    runs_done (suc most) total s at (omega arith) ∙ sym (runs_done zero total s at (omega arith))
runs_enough (suc most) (suc others) total s at h k =
    go (dec_le (length s) at) (λ total at. runs_enough most others total s at)
  where
    go : Dec (length s ≤ at)
        → ((total at : ℕ) → length s - at ≤ most → length s - at ≤ others
        → some_runs_from most total s at ≡ some_runs_from others total s at)
        → some_runs_from (suc most) total s at ≡ some_runs_from (suc others) total s at
    go (yes l) rest = runs_done (suc most) total s at l ∙ sym (runs_done (suc others) total s at l)
    go (no l) rest =
        runs_there most total s at (omega arith)
        ∙ then_same (fitting_at (fits_after total) s at) _ _
        (λ run e. let on : at < run.after = fitting_on (fits_after total) s at run e in
        ap (joined run.value) (rest (total + run.value) run.after (omega arith) (omega arith)))
        ∙ sym (runs_there others total s at (omega arith))

pub runs_end : (total : ℕ) (s : List ℕ) (at : ℕ) → length s ≤ at → runs_from total s at ≡ given []
unfolding runs_from
runs_end total s at h = runs_done (length s) total s at h

-- the runs from a place before the end: the number there as a run, and those from the place after it
pub runs_here : (total : ℕ) (s : List ℕ) (at : ℕ) → at < length s
    → runs_from total s at
    ≡ then (fitting_at (fits_after total) s at)
    (λ run. joined run.value (runs_from (total + run.value) s run.after))
unfolding runs_from
runs_here total s at h =
    let one_more : length s ≡ suc (length s - 1) = omega arith in
    ap (λ (most : ℕ). some_runs_from most total s at) one_more
    ∙ runs_there (length s - 1) total s at h
    ∙ then_same (fitting_at (fits_after total) s at) _ _
    (λ run e. let on : at < run.after = fitting_on (fits_after total) s at run e in
    ap (joined run.value)
    (runs_enough (length s - 1) (length s) (total + run.value) s run.after (omega arith) (omega arith)))

-- a run, as the code asks it: from 1 to what is left of the greatest total
pub judged_run : (left : ℕ) (s : List ℕ) (at : ℕ) → left ≤ total_most
    → fitting_at (between 1 left) s at ≡ fitting_at (fits_after (total_most - left)) s at
unfolding fitting_at
judged_run left s at h =
    then_same (number_at s at) _ _ (λ n e. ap (λ (fits : Bool). choose fits (given n) (refused 8 at)) (same n.value))
  where
    most : (v : ℕ) → Dec (v ≤ left) → leb v left ≡ leb (total_most - left + v) total_most
    most v (yes l) = le-leb v left l ∙ sym (le-leb (total_most - left + v) total_most (omega arith))
    most v (no l) = lt-leb v left (omega arith) ∙ sym (lt-leb (total_most - left + v) total_most (omega arith))

    same : (v : ℕ) → between 1 left v ≡ fits_after (total_most - left) v
    same v = ap (λ (test : Bool). leb 1 v && test) (most v (dec_le v left))

-- one that was read
pub record Run (left : ℕ) (at : ℕ) (n : Numeral) : Type 0 where
  pub some : 1 ≤ n.value
  pub low : n.value ≤ left
  pub on : at < n.after

pub run_read : (left : ℕ) (s : List ℕ) (at : ℕ) (n : Numeral) → fitting_at (between 1 left) s at ≡ given n
    → Run left at n
run_read left s at n e =
    let f = fitting_given (between 1 left) s at n e in
    let g = in_range_lem 1 left n.value f.1 in
    record { some = g.0; low = g.1; on = number_on s at n f.0 }

module _ (total : ℕ) (s : List ℕ) (at : ℕ) (h : at < length s) where
  pub runs_refused : (number place : ℕ) → number_at s at ≡ refused number place
      → runs_from total s at ≡ refused number place
  runs_refused number place e =
      runs_here total s at h ∙ rw (fitting_refused (fits_after total) s at number place e)

  module _ (n : Numeral) (e : number_at s at ≡ given n) where
    runs_out : fits_after total n.value ≡ false → runs_from total s at ≡ refused 8 at
    runs_out f = runs_here total s at h ∙ rw (fitting_out (fits_after total) s at n e f)

    pub runs_none : n.value < 1 → runs_from total s at ≡ refused 8 at
    runs_none z = runs_out (rw (lt-leb 1 n.value z))

    pub runs_over : 1 ≤ n.value → total_most < total + n.value → runs_from total s at ≡ refused 8 at
    runs_over z o = runs_out (rw (le-leb 1 n.value z, lt-leb (total + n.value) total_most o))

    pub runs_one : 1 ≤ n.value → total + n.value ≤ total_most
        → runs_from total s at ≡ joined n.value (runs_from (total + n.value) s n.after)
    runs_one z o =
        let fits : fits_after total n.value ≡ true =
        rw (le-leb 1 n.value z, le-leb (total + n.value) total_most o) in
        runs_here total s at h ∙ rw (fitting_in (fits_after total) s at n e fits)

-- where all the runs can be read, the one at a place can, and so can those after it
pub record Next (total : ℕ) (s : List ℕ) (n : Numeral) (runs : List ℕ) : Type 0 where
  pub some : 1 ≤ n.value
  pub low : total + n.value ≤ total_most
  pub others : List ℕ
  pub is : runs ≡ n.value ∷ others
  pub spelt : runs_from (total + n.value) s n.after ≡ given others

never : {A : Type 0} {number place : ℕ} {x : A} → refused number place ≡ given x → ⊥
never e = let z : ◌≡◌ {A = ℕ} 0 1 = cc in omega arith

joined_given : (run : ℕ) (answer : Answer (List ℕ)) (runs : List ℕ) → joined run answer ≡ given runs
    → (others : List ℕ) × ((runs ≡ run ∷ others) × (answer ≡ given others))
joined_given run (given others) runs e = (others, (cc, refl))
joined_given run (refused number place) runs e = let z : ◌≡◌ {A = ℕ} 0 1 = cc in absurd (omega arith)
joined_given run (refused_after number place count) runs e = let z : ◌≡◌ {A = ℕ} 0 1 = cc in absurd (omega arith)

module _ (total : ℕ) (s : List ℕ) (at : ℕ) (h : at < length s) (runs : List ℕ)
    (g : runs_from total s at ≡ given runs) where
  pub next_refused : (number place : ℕ) → number_at s at ≡ refused number place → ⊥
  next_refused number place e = never (sym (runs_refused total s at h number place e) ∙ g)

  pub next_is : (n : Numeral) → number_at s at ≡ given n → Next total s n runs
  next_is n e = some (dec_le 1 n.value)
    where
      low : 1 ≤ n.value → Dec (total + n.value ≤ total_most) → Next total s n runs
      low z (yes o) =
          let j = joined_given n.value (runs_from (total + n.value) s n.after) runs
          (sym (runs_one total s at h n e z o) ∙ g) in
          record { some = z; low = o; others = j.0; is = j.1.0; spelt = j.1.1 }
      low z (no o) = absurd (never (sym (runs_over total s at h n e z (omega arith)) ∙ g))

      some : Dec (1 ≤ n.value) → Next total s n runs
      some (yes z) = low z (dec_le (total + n.value) total_most)
      some (no z) = absurd (never (sym (runs_none total s at h n e (omega arith)) ∙ g))

-- how many reads runs stand for
abbrev pub sum : List ℕ → ℕ
sum [] = 0
sum (run ∷ runs) = run + sum runs

pub length_reads : (level : ℕ) (runs : List ℕ) → length (reads_of_runs level runs) ≡ sum runs
unfolding reads_of_runs
length_reads level [] = refl
length_reads level (run ∷ runs) =
    omega (
      arith,
      length-append (replicate run level) (reads_of_runs (1 - level) runs),
      length-replicate run level,
      length_reads (1 - level) runs,
    )

-- they are levels
pub reads_levels : (level : ℕ) (runs : List ℕ) → level ≤ 1 → Levels (reads_of_runs level runs)
unfolding reads_of_runs
reads_levels level [] h = tt
reads_levels level (run ∷ runs) h =
    most_append 1 (replicate run level) (reads_of_runs (1 - level) runs) (most_replicate 1 run level h)
    (reads_levels (1 - level) runs (omega arith))

-- the runs' total, since each is judged with the total before it
some_total : (most total : ℕ) (s : List ℕ) (at : ℕ) (runs : List ℕ) → total ≤ total_most
    → some_runs_from most total s at ≡ given runs → total + sum runs ≤ total_most
unfolding some_runs_from
some_total zero total s at runs h e = let none : [] ≡ runs = cc in rw (← none) (omega arith)
some_total (suc most) total s at runs h e =
    go (dec_le (length s) at) (λ total at runs. some_total most total s at runs)
  where
    go : Dec (length s ≤ at)
        → ((total at : ℕ) (runs : List ℕ) → total ≤ total_most → some_runs_from most total s at ≡ given runs
        → total + sum runs ≤ total_most)
        → total + sum runs ≤ total_most
    go (yes l) rest = let none : [] ≡ runs = cc (runs_done (suc most) total s at l, e) in rw (← none) (omega arith)
    go (no l) rest =
        let run = then_given (fitting_at (fits_after total) s at) _ runs
        (sym (runs_there most total s at (omega arith)) ∙ e) in
        let fits = fitting_given (fits_after total) s at run.0 run.1.0 in
        let low : total + run.0.value ≤ total_most =
        leb-true (total + run.0.value) total_most
        (both (leb 1 run.0.value) (leb (total + run.0.value) total_most) fits.1).1 in
        let others = joined_given run.0.value (some_runs_from most (total + run.0.value) s run.0.after) runs
        run.1.1 in
        rw others.1.0
        (omega (arith, rest (total + run.0.value) run.0.after others.0 low others.1.1))

pub runs_total : (total : ℕ) (s : List ℕ) (at : ℕ) (runs : List ℕ) → total ≤ total_most
    → runs_from total s at ≡ given runs → total + sum runs ≤ total_most
unfolding runs_from
runs_total total s at runs h e = some_total (length s) total s at runs h e
