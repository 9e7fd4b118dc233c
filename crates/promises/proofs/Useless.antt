-- Each useless sender answers or leaves something else at one small input. Each useless receiver reports fewer than two
-- rows over P10's reads as they are, on a straight pair or on a crossed one, and demand 3 asks two.
use mathlib.Core.Path.{◌≡◌, refl, sym, ap, ◌∙◌}
use mathlib.Core.Bool.{Bool, true, false}
use mathlib.Core.List.{List, [], ◌∷◌}
use Prim.Native.Nat.{ℕ, ◌<◌}
use native.Mathlib.Omega.{arith}
use lib.ListN.{length, get_or}
use Rattle.measure.specs.Lists.{first_above}
use Rattle.measure.specs.Refusals.{Answer, given, refused}
use Rattle.sender.specs.Sending.{cells, wave, plan_wave}
use Rattle.sender.specs.Answers.{sent_message}
use Rattle.line.specs.Smooth.{smooth_from}
use Rattle.line.specs.Warp.{look, dropped, warp_from, warp}
use Rattle.line.specs.Settle.{settle}
use Rattle.line.specs.Passes.{over_the_line}
use Rattle.counted.specs.Counted.{from_mark}
use Rattle.board.specs.Rows.{next}
use Rattle.board.specs.Feeding.{Report, reports_by}
use Rattle.promises.specs.Places.{turned_over, places_where, numbered, within_lead, heard, mark_place, sample_place}
use Rattle.promises.specs.Places.{last_sample, deliveries}
use Rattle.promises.specs.Replaced.{damaged, reports_at, below}
use Rattle.promises.specs.Demand3.{Demand3}
use Rattle.promises.specs.Tried.{p10_read, crossed_read}
use Rattle.promises.specs.Promised.{Test, good, first, Answered, Fills}
use Rattle.promises.specs.GoodInput as Good
use Rattle.promises.specs.Useless.{Sender, Line, ShutOut1, ShutOut}

too_few : (hear : List ℕ → List Report) → length (below 117 (hear (damaged p10_read 117 117 []))) < 2
    → Demand3 p10_read hear → ⊥
unfolding over_the_line settle warp warp_from look dropped smooth_from plan_wave wave cells from_mark
    places_where numbered within_lead heard mark_place sample_place last_sample deliveries reports_at
too_few hear few demand =
    let two = ap (λ (l : List Report). length l) (demand.before 117 117 [] (omega arith) (omega arith)) in
    omega arith

too_few_crossed : (hear : List ℕ → List Report) → length (below 117 (hear (damaged crossed_read 117 117 []))) < 2
    → Demand3 crossed_read hear → ⊥
unfolding over_the_line settle warp warp_from look dropped smooth_from turned_over plan_wave wave cells from_mark
    places_where numbered within_lead heard mark_place sample_place last_sample deliveries reports_at
too_few_crossed hear few demand =
    let two = ap (λ (l : List Report). length l) (demand.before 117 117 [] (omega arith) (omega arith)) in
    omega arith

pub shut_out : ShutOut
unfolding over_the_line settle warp warp_from look dropped smooth_from turned_over plan_wave wave cells next reports_by
    reports_at
shut_out = record {
  refusing = too_few _ (omega arith);
  leaving = too_few _ (omega arith);
  once = too_few _ (omega arith);
  once_is = refl;
  high = too_few_crossed _ (omega arith);
  high_is = refl;
  high_is_not = refl;
}

-- an answer that is given is no refusal
never : {count number place : ℕ} → ◌≡◌ {A = Answer ℕ} (given count) (refused number place) → ⊥
never e = let absurdity : ◌≡◌ {A = ℕ} 0 1 = cc in omega arith

pub shut_out_1 : ShutOut1
unfolding good first sent_message wave cells first_above
shut_out_1 = record {
  refusing = λ line. never (sym (ap (λ (p : Answer ℕ × List ℕ). p.0) ((one line).gives refl)));
  accepting = λ line. never (ap (λ (p : Answer ℕ × List ℕ). p.0) ((line 0 1 0 (0 ∷ []) lent).refuses refl));
  counting = λ line.
      let e : ◌≡◌ {A = Answer ℕ} (given 3) (given 2) = ap (λ (p : Answer ℕ × List ℕ). p.0) ((one line).gives refl) in
      let absurdity : ◌≡◌ {A = ℕ} 3 2 = cc in
      omega arith;
  repeating = λ line.
      let e : ◌≡◌ {A = ℕ} 1 0 = ap (λ (p : Answer ℕ × List ℕ). get_or p.1 1 5) ((one line).gives refl) in omega arith;
  spoiling = λ line.
      let e : ◌≡◌ {A = ℕ} 2 5 = ap (λ (p : Answer ℕ × List ℕ). get_or p.1 2 0) ((one line).gives refl) in omega arith;
  misplacing = λ line.
      let e : ◌≡◌ {A = Answer ℕ} (refused 2 0) (refused 2 1) =
      ap (λ (p : Answer ℕ × List ℕ). p.0) ((line 1 1 0 (0 ∷ 2 ∷ []) lent).refuses refl) in
      let absurdity : ◌≡◌ {A = ℕ} 0 1 = cc in
      omega arith;
  no_choice = λ tests x y result refusal this that. chosen (good tests) refl this that;
}
  where
    lent : List ℕ
    lent = 5 ∷ 5 ∷ 5 ∷ []

    one : {sender : Sender} → Line sender
        → Fills (Good.send 1 1 0 (0 ∷ []) lent) (wave 1 1 0 (0 ∷ [])) lent (sender 1 1 0 (0 ∷ []) lent)
    one line = line 1 1 0 (0 ∷ []) lent

    chosen : {O : Type 0} {tests : List Test} {x y result : O} {refusal : ℕ → ℕ → O} (passed : Bool)
        → good tests ≡ passed → Answered tests x result refusal → Answered tests y result refusal → x ≡ y
    chosen true e this that = this.gives e ∙ sym (that.gives e)
    chosen false e this that = this.refuses e ∙ sym (that.refuses e)
