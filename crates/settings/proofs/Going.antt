-- What is known of a region after its first boards: none of them has a setting out of range, and what the code has
-- found is what is told of them. After the last board that is what is told of the region.
use Rattle.std.proofs.Common.{◌≡◌, refl, sym, ap, ◌∙◌, Bool, true, false, not, ℕ, ◌+◌, ◌^◌}
use Rattle.std.proofs.Common.{◌<◌, ◌≤◌, arith, get_or, Option, Some, None, lt-ltb, le-ltb, eq-eqb}
use Rattle.std.proofs.Common.{ne_eqb}
use Rattle.std.proofs.Common.{add-zero}
use mir.Val.{bool_byte as from_bool}
use Rattle.std.specs.Int.Signed.{mag}
use native.Mathlib.Decide.{dec_le}
use Rattle.measure.specs.Choose.{choose}
use Rattle.measure.specs.Refusals.{given, refused}
use Rattle.settings.specs.Margins.{accepted}
use Rattle.settings.specs.Answers.{cell_margins, cell_met}
use Rattle.settings.specs.Survey.{Region, boards, boards_most, clocks_at, fits_at, accepted_at}
use Rattle.settings.specs.Survey.{m1_at, m2_at, m3_at, first_unfit, how_many, judged_boards, none, told}
use Rattle.settings.specs.declared.Margins.{Margins}
use Rattle.settings.specs.declared.surveying.Figures.{Figures}
use Rattle.settings.specs.Sifting.{with_board, margins_at}
use Rattle.settings.proofs.Places.{first_found, first_none, one_more, no_more}
use Rattle.settings.proofs.LeastMargin.{unfound, Found, found_none, found_one, found_all}

pub record Going (s : Region) (f : Figures) (i : ℕ) : Type 0 where
  pub within : i ≤ boards s
  pub fit : (j : ℕ) → j < i → fits_at s j ≡ true
  pub few : f.accepted ≤ i
  pub counts : f.accepted ≡ how_many i (accepted_at s)
  pub first : Found (m1_at s) f.m1 i
  pub second : Found (m2_at s) f.m2 i
  pub third : Found (m3_at s) f.m3 i

-- the figures of no boards
abbrev pub of_none : Figures
of_none = record { accepted = 0; m1 = unfound; m2 = unfound; m3 = unfound }

pub going_none : (s : Region) → Going s of_none 0
unfolding how_many
going_none s = record {
  within = omega arith;
  fit = λ j h. absurd (omega arith);
  few = omega arith;
  counts = refl;
  first = found_none (m1_at s);
  second = found_none (m2_at s);
  third = found_none (m3_at s);
}

-- what a board's margins tell of its settings
in_some : {X : Type 0} (test : Bool) (x y : X) → choose test (Some x) None ≡ Some y → (test ≡ true) × (y ≡ x)
in_some true x y e = (refl, grind arith)
in_some false x y e = absurd (grind arith)

in_none : {X : Type 0} (test : Bool) (x : X) → choose test (Some x) None ≡ None → test ≡ false
in_none true x e = absurd (grind arith)
in_none false x e = refl

at_some : (s : Region) (i : ℕ) (m : Margins) → margins_at s i ≡ Some m
    → (fits_at s i ≡ true)
    × (m ≡ cell_margins (get_or s.a i 0) (get_or s.b i 0) (get_or s.g i 0) (get_or s.k i 0) (clocks_at s i))
at_some s i m e = in_some (fits_at s i) _ m e

at_none : (s : Region) (i : ℕ) → margins_at s i ≡ None → fits_at s i ≡ false
at_none s i e = in_none (fits_at s i) _ e

module _ {s : Region} {f : Figures} {i : ℕ} (q : Going s f i) where
  -- the board at the place is in range too
  pub going_one : {o : Option Margins} {m : Margins} {next : Figures} → i < boards s → o ≡ margins_at s i → o ≡ Some m
      → (mag m.m1 < 2 ^ 63) × (mag m.m2 < 2 ^ 63) × (mag m.m3 < 2 ^ 63)
      → next ≡ with_board f m i → Going s next (i + 1)
  unfolding accepted
  going_one {o} {m} {next} l found there sizes e =
      let (fits, is) = at_some s i m (sym found ∙ there) in
      rw e record {
        within = omega arith;
        fit = λ j h. fit_to fits j h (dec_le i j);
        few = fewer (cell_met m);
        counts = goes_on (cell_met m) (rw is);
        first = found_one (m1_at s) f.m1 i q.first (rw is at sizes.0) (rw is);
        second = found_one (m2_at s) f.m2 i q.second (rw is at sizes.1) (rw is);
        third = found_one (m3_at s) f.m3 i q.third (rw is at sizes.2) (rw is);
      }
    where
      fit_to : fits_at s i ≡ true → (j : ℕ) → j < i + 1 → Dec (i ≤ j) → fits_at s j ≡ true
      fit_to fits j h (no p) = q.fit j (omega arith)
      fit_to fits j h (yes p) =
          let e : j ≡ i = omega arith in
          rw e fits

      fewer : (answer : Bool) → f.accepted + from_bool answer ≤ i + 1
      fewer true = omega (arith, q.few)
      fewer false = omega (arith, q.few)

      goes_on : (answer : Bool) → accepted_at s i ≡ answer
          → f.accepted + from_bool answer ≡ how_many (i + 1) (accepted_at s)
      goes_on true passes = ap (λ (n : ℕ). n + 1) q.counts ∙ sym (one_more i (accepted_at s) passes)
      goes_on false fails = add-zero f.accepted ∙ q.counts ∙ sym (no_more i (accepted_at s) fails)

  -- it is not, and is the first
  pub going_unfit : {o : Option Margins} → i < boards s → o ≡ margins_at s i → o ≡ None → judged_boards s ≡ refused 1 i
  unfolding judged_boards
  going_unfit l found there =
      let unfit = at_none s i (sym found ∙ there) in
      let e = first_found (boards s) (λ j. not (fits_at s j)) i l (λ j h. rw (q.fit j h)) (rw unfit) in
      rw (e, lt-ltb i (boards s) l)

  module _ (all : boards s ≤ i) where
    reached : i ≡ boards s
    reached = omega (arith, q.within)

    all_fit : first_unfit s ≡ boards s
    all_fit = first_none (boards s) (λ j. not (fits_at s j)) (λ j h. rw (q.fit j (omega arith)))

    pub going_limit : 4096 < boards s → judged_boards s ≡ refused 3 0
    unfolding judged_boards
    going_limit l = rw (all_fit, le-ltb (boards s) (boards s) (omega arith), lt-ltb boards_most (boards s) l)

    pub going_empty : boards s ≤ 4096 → boards s ≡ 0 → judged_boards s ≡ given none
    unfolding judged_boards
    going_empty l z =
        rw (
          all_fit,
          le-ltb (boards s) (boards s) (omega arith),
          le-ltb boards_most (boards s) l,
          eq-eqb (boards s) 0 z,
        )

    pub going_all : boards s ≤ 4096 → 0 < boards s → judged_boards s ≡ given (told f)
    unfolding judged_boards
    going_all l p =
        let some : 0 < i = omega (arith, reached) in
        rw (
          all_fit,
          le-ltb (boards s) (boards s) (omega arith),
          le-ltb boards_most (boards s) l,
          ne_eqb (boards s) 0 (λ z. omega arith),
          ← reached,
          ← q.counts,
          ← found_all (m1_at s) f.m1 i q.first some,
          ← found_all (m2_at s) f.m2 i q.second some,
          ← found_all (m3_at s) f.m3 i q.third some,
        )
