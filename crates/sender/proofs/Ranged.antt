-- Settings in range keep to the bounds that the code's arithmetic needs: each range is one test of a chain that holds.
use Rattle.std.proofs.Common.{◌≡◌, refl, Bool, true, false, not, ◌&&◌, List, [], ◌∷◌, ℕ, suc, ◌*◌, ◌≤◌, ◌<◌, leb, ltb}
use Rattle.std.proofs.Common.{eqb, length, get_or, arith, ltb-false, eqb-true, lt-ltb}
use Rattle.std.specs.List.{list_all}
use Rattle.measure.specs.Choose.{choose}
use Prim.Native.Nat.compare
use borrow.Author.Tests.{not-true}
use Rattle.measure.specs.Ranges.{subcell, pad_most, row_bits}
use Rattle.measure.specs.Lists.{first_above, some_above}
use Rattle.measure.proofs.Above.{above_none}
use Rattle.measure.proofs.Both.{both, each, range_ends}
use Rattle.sender.specs.Answers.{fitting, padded, plan_in_range}

-- the pads of a list are in range where each passes the test
pub padded_all : (pads : List ℕ) → padded pads ≡ list_all (λ pad. leb pad pad_most) pads
unfolding first_above
padded_all [] = refl
padded_all (pad ∷ pads) = go (leb pad pad_most) (padded_all pads)
  where
    go : (test : Bool) → padded pads ≡ list_all (λ pad. leb pad pad_most) pads
        → not (ltb (choose test (suc (first_above pad_most pads)) 0) (suc (length pads)))
        ≡ test && list_all (λ pad. leb pad pad_most) pads
    go true e = rw compare.suc-suc e
    go false e = rw (lt-ltb 0 (suc (length pads)) (omega arith))

-- each pad of a list that is in range
pub pads_most : (pads : List ℕ) → padded pads ≡ true → (i : ℕ) → i < length pads → get_or pads i 0 ≤ 65535
pads_most pads e =
    above_none pad_most pads
    (ltb-false (first_above pad_most pads) (length pads) (not-true (some_above pad_most pads) e))

pub record Plan (a b n : ℕ) (leads bits : List ℕ) : Type 0 where
  pub a_most : a ≤ 255
  pub b_most : b ≤ 255
  pub n_least : 0 < n
  pub n_most : n ≤ 1024
  pub bits_fit : length bits ≡ length leads * n
  pub leads_padded : padded leads ≡ true

pub plan_bounded : (a b n : ℕ) (leads bits : List ℕ) → plan_in_range a b n leads bits ≡ true → Plan a b n leads bits
plan_bounded a b n leads bits e =
    let test = each (subcell a) (subcell b ∷ row_bits n ∷ fitting n leads bits ∷ padded leads ∷ []) e in
    let lists = both (leb 1 (length leads)) (eqb (length bits) (length leads * n)) (test 3) in
    record {
      a_most = (range_ends 1 255 a (test 0)).1;
      b_most = (range_ends 1 255 b (test 1)).1;
      n_least = (range_ends 1 1024 n (test 2)).0;
      n_most = (range_ends 1 1024 n (test 2)).1;
      bits_fit = eqb-true (length bits) (length leads * n) lists.1;
      leads_padded = test 4;
    }
