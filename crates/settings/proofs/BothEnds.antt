-- Settings in range keep to both ends of each range: each test of a chain holds where the whole does.
use Rattle.std.proofs.Common.{◌≡◌, true, [], ◌∷◌, ℕ, ◌≤◌, leb, leb-true}
use Rattle.measure.specs.Ranges.{subcell, sampling, settling, cycle_length, quiet, pad_most}
use Rattle.measure.proofs.Both.{each, range_ends}
use Rattle.settings.specs.Margins.{Ends}
use Rattle.settings.specs.Answers.{ends_fit, in_range, quiet_in_range}
use Rattle.settings.specs.Pick.{pickable}

-- the least length is at least 1, the greatest is no lesser, and neither is over its range
pub record EndsFit (e : Ends) : Type 0 where
  pub w_least : 1 ≤ e.w1
  pub w_order : e.w1 ≤ e.w2
  pub w_most : e.w2 ≤ 65535
  pub r_least : 1 ≤ e.r1
  pub r_order : e.r1 ≤ e.r2
  pub r_most : e.r2 ≤ 65535

pub ends_fit_lem : (e : Ends) → ends_fit e ≡ true → EndsFit e
ends_fit_lem e fits =
    let test =
    each (cycle_length e.w1)
    (cycle_length e.w2 ∷ cycle_length e.r1 ∷ cycle_length e.r2 ∷ leb e.w1 e.w2 ∷ leb e.r1 e.r2 ∷ [])
    fits in
    record {
      w_least = (range_ends 1 65535 e.w1 (test 0)).0;
      w_order = leb-true e.w1 e.w2 (test 4);
      w_most = (range_ends 1 65535 e.w2 (test 1)).1;
      r_least = (range_ends 1 65535 e.r1 (test 2)).0;
      r_order = leb-true e.r1 e.r2 (test 5);
      r_most = (range_ends 1 65535 e.r2 (test 3)).1;
    }

pub record Pickable (a b g : ℕ) (e : Ends) : Type 0 where
  pub mark : (1 ≤ a) × (a ≤ 255)
  pub code : (1 ≤ b) × (b ≤ 255)
  pub settles : (1 ≤ g) × (g ≤ 64)
  pub clocks : EndsFit e

pub pick_in_range : (a b g : ℕ) (e : Ends) → pickable a b g e ≡ true → Pickable a b g e
pick_in_range a b g e fits =
    let test = each (subcell a) (subcell b ∷ settling g ∷ ends_fit e ∷ []) fits in
    record {
      mark = range_ends 1 255 a (test 0);
      code = range_ends 1 255 b (test 1);
      settles = range_ends 1 64 g (test 2);
      clocks = ends_fit_lem e (test 3);
    }

pub record InRange (a b g k : ℕ) (e : Ends) : Type 0 where
  pub mark : (1 ≤ a) × (a ≤ 255)
  pub code : (1 ≤ b) × (b ≤ 255)
  pub settles : (1 ≤ g) × (g ≤ 64)
  pub sample : (1 ≤ k) × (k ≤ 511)
  pub clocks : EndsFit e

pub in_range_lem : (a b g k : ℕ) (e : Ends) → in_range a b g k e ≡ true → InRange a b g k e
in_range_lem a b g k e fits =
    let test = each (subcell a) (subcell b ∷ settling g ∷ sampling k ∷ ends_fit e ∷ []) fits in
    record {
      mark = range_ends 1 255 a (test 0);
      code = range_ends 1 255 b (test 1);
      settles = range_ends 1 64 g (test 2);
      sample = range_ends 1 511 k (test 3);
      clocks = ends_fit_lem e (test 4);
    }

pub quiet_in_range_lem : (a b g k : ℕ) (e : Ends) (Q p1 : ℕ) → quiet_in_range a b g k e Q p1 ≡ true
    → InRange a b g k e × (Q ≤ 8191) × (p1 ≤ 65535)
quiet_in_range_lem a b g k e Q p1 fits =
    let test = each (in_range a b g k e) (quiet Q ∷ leb p1 pad_most ∷ []) fits in
    (in_range_lem a b g k e (test 0), (range_ends 2 8191 Q (test 1)).1, leb-true p1 65535 (test 2))
