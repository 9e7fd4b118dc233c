-- Lists of lengths that pass the judging keep to their bounds, and a judging that goes from place to place.
use Rattle.std.proofs.Common.{◌≡◌, refl, Bool, true, false, ◌&&◌, List, [], ◌∷◌, ℕ, zero, suc, ◌<◌, ◌≤◌, arith, leb, length, get_or, replicate, le-leb, ltb-true}
use Rattle.std.specs.Bool.{MatchBool}
use Rattle.std.specs.List.{AllWithin, HoldsAt}
use Rattle.measure.specs.Choose.{between}
use Rattle.measure.specs.Ranges.{cycle_length, entries_most}
use Rattle.measure.proofs.Both.{both, both_3, each, range_ends}
use Rattle.line.specs.Answers.{bounds_fit, all_between, phase_fits, lengths_fit}
use Rattle.line.specs.Running.{clock_of, Lengths}
use Rattle.line.proofs.WanderClocks.{clock_first, clock_next}

-- lengths of which each keeps to the bounds, and of which one does not
all_in : (least most : ℕ) (lengths : List ℕ)
    → AllWithin (λ one. between least most one ≡ true) lengths 0 (length lengths)
    → all_between least most lengths ≡ true
unfolding all_between
all_in least most [] all = refl
all_in least most (one ∷ lengths) all =
    rw (all 0 0 (omega arith) (omega arith))
    (all_in least most lengths λ k d low high. all (suc k) d (omega arith) (omega arith))

one_out : (least most : ℕ) (lengths : List ℕ) (k : ℕ) → k < length lengths
    → HoldsAt (λ one. between least most one ≡ false) lengths k → all_between least most lengths ≡ false
unfolding all_between
one_out least most [] k here out = absurd (omega arith)
one_out least most (one ∷ lengths) zero here out = rw (out 0)
one_out least most (one ∷ lengths) (suc k) here out =
    rw (one_out least most lengths k (omega arith) (λ d. out d)) (none (between least most one))
  where
    none : (b : Bool) → (b && false) ≡ false
    none true = refl
    none false = refl

-- what tells whether each does tells what the judging does
pub judges : (least most : ℕ) (lengths : List ℕ) (r : Bool)
    → MatchBool r (AllWithin (λ one. between least most one ≡ true) lengths 0 (length lengths))
    ((k : ℕ) × (k < length lengths) × HoldsAt (λ one. between least most one ≡ false) lengths k)
    → all_between least most lengths ≡ r
judges least most lengths true all = all_in least most lengths all
judges least most lengths false (k, here, out) = one_out least most lengths k here out

-- each length of a list that has passed keeps to the bounds
pub between_at : (least most : ℕ) (lengths : List ℕ) → all_between least most lengths ≡ true
    → (i : ℕ) → i < length lengths → (least ≤ get_or lengths i 0) × (get_or lengths i 0 ≤ most)
unfolding all_between
between_at least most [] fits i within = absurd (omega arith)
between_at least most (one ∷ lengths) fits zero within =
    range_ends least most one (both (between least most one) (all_between least most lengths) fits).0
between_at least most (one ∷ lengths) fits (suc i) within =
    between_at least most lengths (both (between least most one) (all_between least most lengths) fits).1 i
    (omega arith)

-- bounds that fit are from 1 to 65,535
bounds : (least most : ℕ) → bounds_fit least most ≡ true → (1 ≤ least) × (most ≤ 65535)
bounds least most fits =
    let (low, high, order) = both_3 (cycle_length least) (cycle_length most) (leb least most) fits in
    ((range_ends 1 65535 least low).0, (range_ends 1 65535 most high).1)

judged : (least most : ℕ) (lengths : List ℕ) → bounds_fit least most ≡ true → all_between least most lengths ≡ true
    → length lengths ≤ entries_most → Lengths lengths
judged least most lengths fits all few =
    let (low, high) = bounds least most fits in
    record {
      few = few;
      least = λ i h. omega (arith, (between_at least most lengths all i h).0);
      most = λ i h. omega (arith, (between_at least most lengths all i h).1);
    }

-- a length within the bounds, so many times
pub between_equal : (least most x n : ℕ) → least ≤ x → x ≤ most → all_between least most (replicate n x) ≡ true
unfolding all_between
between_equal least most x zero low high = refl
between_equal least most x (suc n) low high =
    rw (le-leb least x low, le-leb x most high) (between_equal least most x n low high)

-- p is below the first cycle's end, where there is a cycle
pub phase_below : (p : ℕ) (cycles : List ℕ) → phase_fits p cycles ≡ true → 0 < length cycles
    → p < clock_of 1 0 cycles 1
phase_below p [] fits some = absurd (omega arith)
phase_below p (first ∷ cycles) fits some =
    omega (
      arith,
      ltb-true p first fits,
      clock_first 1 0 (first ∷ cycles),
      clock_next 1 0 (first ∷ cycles) 0 (omega arith),
    )

-- what the judging of warp by lengths says
module _ (w1 w2 r1 r2 p : ℕ) (cycles reads : List ℕ) (fits : lengths_fit w1 w2 r1 r2 p cycles reads ≡ true) where
  test : (i : ℕ)
      → get_or (bounds_fit w1 w2 ∷ bounds_fit r1 r2 ∷ all_between w1 w2 cycles ∷ all_between r1 r2 reads
      ∷ phase_fits p cycles ∷ []) i true ≡ true
  test =
      each (bounds_fit w1 w2)
      (bounds_fit r1 r2 ∷ all_between w1 w2 cycles ∷ all_between r1 r2 reads ∷ phase_fits p cycles ∷ []) fits

  pub cycles_judged : length cycles ≤ entries_most → Lengths cycles
  cycles_judged = judged w1 w2 cycles (test 0) (test 2)

  pub reads_judged : length reads ≤ entries_most → Lengths reads
  reads_judged = judged r1 r2 reads (test 1) (test 3)

  pub phase_fits_lem : phase_fits p cycles ≡ true
  phase_fits_lem = test 4
