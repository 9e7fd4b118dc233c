-- A heading is four numbers that fit their places, one after another; the first that does not is its refusal.
use Rattle.std.proofs.Common.{ℕ, ◌≤◌, ◌≡◌, refl, sym, ap, ◌∙◌, List, Bool, true, false, ◌&&◌, arith, leb, leb-true}
use Rattle.measure.specs.Choose.{choose, between}
use Rattle.measure.specs.Ranges.{sampling, row_bits, quiet}
use Rattle.measure.specs.Refusals.{Answer, given, refused, refused_after}
use Rattle.capture.specs.Numbers.{Numeral, number_at}
use Rattle.capture.specs.Capture.{Heading, then, fitting_at, four_numbers}

-- what was given after an answer was given after that answer
pub then_given : {A B : Type 0} (answer : Answer A) (go : A → Answer B) (y : B) → then answer go ≡ given y
    → (x : A) × ((answer ≡ given x) × (go x ≡ given y))
then_given (given x) go y e = (x, (refl, e))
then_given (refused number place) go y e = let z : ◌≡◌ {A = ℕ} 0 1 = cc in absurd (omega arith)
then_given (refused_after number place count) go y e = let z : ◌≡◌ {A = ℕ} 0 1 = cc in absurd (omega arith)

-- what follows an answer matters only where the answer was given
pub then_same : {A B : Type 0} (answer : Answer A) (go other : A → Answer B)
    → ((x : A) → answer ≡ given x → go x ≡ other x) → then answer go ≡ then answer other
then_same (given x) go other same = same x refl
then_same (refused number place) go other same = refl
then_same (refused_after number place count) go other same = refl

-- what lies in a range is neither below nor above it
pub in_range_lem : (least most x : ℕ) → between least most x ≡ true → (least ≤ x) × (x ≤ most)
in_range_lem least most x = go (leb least x) refl
  where
    go : (test : Bool) → leb least x ≡ test → (test && leb x most) ≡ true → (least ≤ x) × (x ≤ most)
    go true e f = (leb-true least x e, leb-true x most f)
    go false e f = let z : ◌≡◌ {A = ℕ} 0 1 = cc in absurd (omega arith)

-- a number that has to pass a test
module _ (fits : ℕ → Bool) (s : List ℕ) (at : ℕ) where
  pub fitting_refused : (number place : ℕ) → number_at s at ≡ refused number place
      → fitting_at fits s at ≡ refused number place
  unfolding fitting_at
  fitting_refused number place e = rw e

  pub fitting_in : (n : Numeral) → number_at s at ≡ given n → fits n.value ≡ true → fitting_at fits s at ≡ given n
  unfolding fitting_at
  fitting_in n e f = rw (e, f)

  pub fitting_out : (n : Numeral) → number_at s at ≡ given n → fits n.value ≡ false
      → fitting_at fits s at ≡ refused 8 at
  unfolding fitting_at
  fitting_out n e f = rw (e, f)

-- a number that was read, and passed its test
pub fitting_given : (fits : ℕ → Bool) (s : List ℕ) (at : ℕ) (n : Numeral) → fitting_at fits s at ≡ given n
    → (number_at s at ≡ given n) × (fits n.value ≡ true)
unfolding fitting_at
fitting_given fits s at n e =
    let f = then_given (number_at s at) _ n e in
    let g = chosen (fits f.0.value) f.0 f.1.1 in
    (f.1.0 ∙ ap given g.1, ap (λ (m : Numeral). fits m.value) (sym g.1) ∙ g.0)
  where
    chosen : (test : Bool) (m : Numeral) → choose test (given m) (refused 8 at) ≡ given n → (test ≡ true) × (m ≡ n)
    chosen true m e = (refl, cc)
    chosen false m e = let z : ◌≡◌ {A = ℕ} 0 1 = cc in absurd (omega arith)

-- the first of the four that cannot be read
module _ (s : List ℕ) (number place : ℕ) where
  pub heading_no_k : fitting_at sampling s 0 ≡ refused number place → four_numbers s ≡ refused number place
  unfolding four_numbers
  heading_no_k e = simp e

  module _ {k : Numeral} (e : fitting_at sampling s 0 ≡ given k) where
    pub heading_no_n : fitting_at row_bits s k.after ≡ refused number place → four_numbers s ≡ refused number place
    unfolding four_numbers
    heading_no_n f = simp (e, f)

    module _ {n : Numeral} (f : fitting_at row_bits s k.after ≡ given n) where
      pub heading_no_q : fitting_at quiet s n.after ≡ refused number place → four_numbers s ≡ refused number place
      unfolding four_numbers
      heading_no_q g = simp (e, f, g)

      pub heading_no_level : {Q : Numeral} → fitting_at quiet s n.after ≡ given Q
          → fitting_at (between 0 1) s Q.after ≡ refused number place → four_numbers s ≡ refused number place
      unfolding four_numbers
      heading_no_level g h = simp (e, f, g, h)

-- all four
pub heading_is : (s : List ℕ) {k n Q level : Numeral} → fitting_at sampling s 0 ≡ given k
    → fitting_at row_bits s k.after ≡ given n → fitting_at quiet s n.after ≡ given Q
    → fitting_at (between 0 1) s Q.after ≡ given level
    → four_numbers s
    ≡ given (record {
      k = k.value;
      n = n.value;
      Q = Q.value;
      level = level.value;
      level_at = Q.after;
      after = level.after;
    })
unfolding four_numbers
heading_is s e f g h = simp (e, f, g, h)

-- a heading that was read, by its four numbers
pub record Four (s : List ℕ) (h : Heading) : Type 0 where
  pub k : Numeral
  pub n : Numeral
  pub Q : Numeral
  pub level : Numeral
  pub k_fits : fitting_at sampling s 0 ≡ given k
  pub n_fits : fitting_at row_bits s k.after ≡ given n
  pub q_fits : fitting_at quiet s n.after ≡ given Q
  pub level_fits : fitting_at (between 0 1) s Q.after ≡ given level
  pub is : h
      ≡ record {
        k = k.value;
        n = n.value;
        Q = Q.value;
        level = level.value;
        level_at = Q.after;
        after = level.after;
      }

pub heading_given : (s : List ℕ) (h : Heading) → four_numbers s ≡ given h → Four s h
unfolding four_numbers
heading_given s h e =
    let k = then_given (fitting_at sampling s 0) _ h e in
    let n = then_given (fitting_at row_bits s k.0.after) _ h k.1.1 in
    let Q = then_given (fitting_at quiet s n.0.after) _ h n.1.1 in
    let level = then_given (fitting_at (between 0 1) s Q.0.after) _ h Q.1.1 in
    record {
      k = k.0;
      n = n.0;
      Q = Q.0;
      level = level.0;
      k_fits = k.1.0;
      n_fits = n.1.0;
      q_fits = Q.1.0;
      level_fits = level.1.0;
      is = cc level.1.1;
    }

pub heading_level : (s : List ℕ) (h : Heading) → four_numbers s ≡ given h → h.level ≤ 1
heading_level s h e =
    let four = heading_given s h e in
    rw four.is
    (in_range_lem 0 1 four.level.value
    (fitting_given (between 0 1) s four.Q.after four.level four.level_fits).1).1
