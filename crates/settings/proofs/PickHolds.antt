-- Exactly one answer fits: two best sampling counts would each have to be the smaller, and where the best one's least
-- margin is negative, so is that of every other.
use Rattle.std.proofs.Common.{ℕ, ◌+◌, ◌≤◌, ◌≡◌, refl, sym, ap, subst, ◌∙◌, Bool, true, false, ◌&&◌, arith, le-leb, T}
use Rattle.std.proofs.Common.{leb, ℤ, pos, negsuc, ◌≤ℤ◌}
use Rattle.std.proofs.lemmas.Bool.{lt-leb}
use Rattle.std.specs.Int.Signed.{lt_z}
use native.Mathlib.Decide.{dec_le}
use lib.Signed.{clash_ℤ}
use Rattle.measure.specs.Choose.{choose}
use Rattle.measure.specs.Refusals.{Answer, given, refused}
use Rattle.measure.proofs.Both.{range_ends}
use Rattle.settings.specs.Margins.{Ends, ends, steady, m1, m2, m3, zero_or_more, accepted}
use Rattle.settings.specs.Pick.{lower, least, pickable, NoneAccepted, Best, Picks, out_of_range, none, best}
use Rattle.settings.specs.PickShown.{OneFits, PickShown}
use Rattle.settings.specs.Turning.{Turning}
use Rattle.settings.proofs.Shifted.{lower_met, negative_below}
use Rattle.settings.proofs.BestCount.{turning, best_turning}
use Rattle.settings.proofs.BothEnds.{pick_in_range}
use Rattle.settings.proofs.PickRanges.{rising}

-- three margins are zero or more exactly if the least is
pub accepted_least : (a b g k : ℕ) (e : Ends) → accepted a b g k e ≡ zero_or_more (least a b g k e)
unfolding accepted least
accepted_least a b g k e = sym
    (lower_met (m1 a g e) (lower (m2 a g k e) (m3 a b g k e))
    ∙ ap (λ (t : Bool). zero_or_more (m1 a g e) && t) (lower_met (m2 a g k e) (m3 a b g k e))
    ∙ joined (zero_or_more (m1 a g e)) (zero_or_more (m2 a g k e)) (zero_or_more (m3 a b g k e)))
  where
    joined : (x y z : Bool) → x && (y && z) ≡ x && y && z
    joined true y z = refl
    joined false y z = refl

pub none_with_m1 : (a b g : ℕ) (e : Ends) → zero_or_more (m1 a g e) ≡ false → NoneAccepted a b g e
unfolding accepted
none_with_m1 a b g e neg k s = rw neg

pub none_with_best : (a b g k : ℕ) (e : Ends) → Best a b g k e → zero_or_more (least a b g k e) ≡ false
    → NoneAccepted a b g e
none_with_best a b g k e h neg other s =
    accepted_least a b g other e ∙ negative_below _ _ (h.none_better other s) neg

same_best : (a b g j k : ℕ) (e : Ends) → Best a b g j e → Best a b g k e → j ≤ k
same_best a b g j k e one other = go (dec_le j k)
  where
    go : Dec (j ≤ k) → j ≤ k
    go (yes h) = h
    go (no h) = clash_ℤ (one.smaller_worse k other.in_range (omega arith)) (other.none_better j one.in_range)

differ : {X : Type 0} {t : Bool} → t ≡ true → t ≡ false → X
differ e f = absurd (subst T (sym e ∙ f) tt)

pub only_one : (a b g : ℕ) (e : Ends) (x y : Answer ℕ) → Picks a b g e x → Picks a b g e y → x ≡ y
only_one a b g e x y (out_of_range o) (out_of_range f) = refl
only_one a b g e x y (out_of_range o) (none f h) = differ f o
only_one a b g e x y (out_of_range o) (best f h l) = differ f o
only_one a b g e x y (none o h) (out_of_range f) = differ o f
only_one a b g e x y (none o h) (none f l) = refl
only_one a b g e x y (none o h) (best {k} f l z) =
    differ (accepted_least a b g k e ∙ z) (h k l.in_range)
only_one a b g e x y (best o h z) (out_of_range f) = differ o f
only_one a b g e x y (best {k} o h z) (none f l) =
    differ (accepted_least a b g k e ∙ z) (l k h.in_range)
only_one a b g e x y (best {k = j} o h z) (best {k} f l y') =
    let one = same_best a b g j k e h l in
    let other = same_best a b g k j e l h in
    ap given (omega arith)

fitting : (a b g : ℕ) (e : Ends) (x : Answer ℕ) → Picks a b g e x → OneFits a b g e
fitting a b g e x p = record { answer = x; fits = p; only = λ y q. only_one a b g e y x q p }

-- settings in range are answered: by M1's sign, by which of the two is the best, and by its sign
module _ (a b g : ℕ) (e : Ends) (fits : pickable a b g e ≡ true) where
  -- a best count is given, or shows that none is accepted
  pub best_fits : (k : ℕ) → Best a b g k e
      → Picks a b g e (choose (zero_or_more (least a b g k e)) (given k) (refused 9 0))
  best_fits k h = go _ refl
    where
      go : (t : Bool) → zero_or_more (least a b g k e) ≡ t → Picks a b g e (choose t (given k) (refused 9 0))
      go true sign = best fits h sign
      go false sign = none fits (none_with_best a b g k e h sign)

  by_turning : (k : ℕ) → Turning a b g k e → (t : Bool) → lt_z (least a b g k e) (least a b g (k + 1) e) ≡ t
      → OneFits a b g e
  by_turning k h true order = fitting a b g e _ (best_fits (k + 1) (h.next order))
  by_turning k h false order = fitting a b g e _ (best_fits k (h.here order))

  by_m1 : (t : Bool) → zero_or_more (m1 a g e) ≡ t → OneFits a b g e
  by_m1 true sign = by_turning (turning a b g e) (best_turning a b g e (rising a b g e fits sign)) _ refl
  by_m1 false sign = fitting a b g e (refused 9 0) (none fits (none_with_m1 a b g e sign))

by_range : (a b g : ℕ) (e : Ends) (t : Bool) → pickable a b g e ≡ t → OneFits a b g e
by_range a b g e true fits = by_m1 a b g e fits _ refl
by_range a b g e false fits = fitting a b g e (refused 1 0) (out_of_range fits)

given_best : (a b g k : ℕ) (e : Ends) → Picks a b g e (given k) → Best a b g k e × (zero_or_more (least a b g k e) ≡ true)
given_best a b g k e (best fits h z) = (h, z)

-- a count is picked for settings in range alone
pub picked_settles : (a b g k : ℕ) (e : Ends) → Picks a b g e (given k) → 1 ≤ g
picked_settles a b g k e (best fits h z) = (pick_in_range a b g e fits).settles.0

refused_none : (a b g : ℕ) (e : Ends) → Picks a b g e (refused 9 0) → NoneAccepted a b g e
refused_none a b g e (none fits h) = h

-- where M1 is -2, no least margin is above that
below_two : (x : ℤ) → lower (negsuc 1) x ≤ℤ negsuc 1
below_two (pos n) = record { le = tt }
below_two (negsuc n) = go (dec_le n 1)
  where
    go : Dec (n ≤ 1) → choose (leb n 1) (negsuc 1) (negsuc n) ≤ℤ negsuc 1
    go (yes h) = rw (le-leb n 1 h) (record { le = tt })
    go (no h) = rw (lt-leb n 1 (omega arith)) (record { le = rw (le-leb 1 n (omega arith)) tt })

best_9 : Best 5 13 1 9 (steady 100 100)
unfolding m1 m2 m3 least
best_9 = (best_turning 5 13 1 (steady 100 100) (rising 5 13 1 (steady 100 100) refl refl)).next refl

best_10 : Best 5 13 1 10 (ends 95 105 95 105)
unfolding m1 m2 m3 least
best_10 = (best_turning 5 13 1 (ends 95 105 95 105) (rising 5 13 1 (ends 95 105 95 105) refl refl)).next refl

best_1 : Best 1 1 1 1 (steady 1 1)
unfolding m1 m2 m3 least
best_1 = record {
  in_range = refl;
  none_better = λ other s. below_two (lower (m2 1 1 other (steady 1 1)) (m3 1 1 1 other (steady 1 1)));
  smaller_worse = λ other s l. absurd (omega (arith, (range_ends 1 511 other s).0));
}

pub pick_shown : PickShown
unfolding m1 m2 m3 least
pick_shown = record {
  one_fits = λ a b g e. by_range a b g e _ refl;
  accepts = λ a b g k e p. accepted_least a b g k e ∙ (given_best a b g k e p).1;
  none_better = λ a b g k e p. (given_best a b g k e p).0.none_better;
  refused_none = refused_none;
  none_refused = λ a b g e fits h. none fits h;
  given_best = best_9;
  is_given = best refl best_9 refl;
  is_given_over = best refl best_10 refl;
  refused_best = best_1;
  is_refused = none refl (none_with_m1 1 1 1 (steady 1 1) refl);
}
