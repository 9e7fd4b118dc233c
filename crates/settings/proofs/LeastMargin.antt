-- The smallest of the margins so far and the first place that has it: a margin that is smaller takes its place, and one
-- that is as small does not. So after all of them it is the smallest of all, at the first of its places.
use Rattle.std.proofs.Common.{◌≡◌, refl, sym, ap, subst, ◌∙◌, Bool, true, false, ◌⊎◌, inl, inr, ℕ, ◌+◌, ◌^◌, ◌<◌, ◌≤◌}
use Rattle.std.proofs.Common.{arith, ltb-false, ltb-true, le-leb, T, ℤ, pos, negsuc, ◌≤ℤ◌, ◌<ℤ◌}
use Rattle.std.proofs.lemmas.Bool.{lt-leb}
use Rattle.std.specs.Int.Signed.{mag, le_z, lt_z}
use native.Mathlib.Decide.{dec_le}
use lib.Signed.{≤ℤ_refl, <ℤ-≤ℤ_trans}
use Rattle.measure.specs.Choose.{choose}
use Rattle.settings.specs.Survey.{is_least, smallest}
use Rattle.settings.specs.declared.surveying.Smallest.{Smallest}
use Rattle.settings.proofs.Places.{first_found, every_passes, every_fails}

-- the greatest that the code's signed type holds
abbrev most : ℕ
most = 9223372036854775807

abbrev pub unfound : Smallest
unfound = record { margin = pos most; place = 0 }

holds : (b : Bool) → T b → b ≡ true
holds true t = refl
holds false t = absurd t

-- orders of signed numbers
lt_le : (x y : ℤ) → lt_z x y ≡ true → x ≤ℤ y
lt_le (pos m) (pos n) h = record { le = rw (le-leb m n (omega (arith, ltb-true m n h))) tt }
lt_le (pos m) (negsuc n) h = absurd (subst T (sym h) tt)
lt_le (negsuc m) (pos n) h = record { le = tt }
lt_le (negsuc m) (negsuc n) h = record { le = rw (le-leb n m (omega (arith, ltb-true n m h))) tt }

not_lt : (x y : ℤ) → lt_z x y ≡ false → y ≤ℤ x
not_lt (pos m) (pos n) h = record { le = rw (le-leb n m (ltb-false m n h)) tt }
not_lt (pos m) (negsuc n) h = record { le = tt }
not_lt (negsuc m) (pos n) h = absurd (subst T h tt)
not_lt (negsuc m) (negsuc n) h = record { le = rw (le-leb m n (ltb-false n m h)) tt }

lt_not_le : (x y : ℤ) → x <ℤ y → le_z y x ≡ false
lt_not_le (pos m) (pos n) h = lt-leb n m (ltb-true m n (holds _ h.lt))
lt_not_le (pos m) (negsuc n) h = absurd h.lt
lt_not_le (negsuc m) (pos n) h = refl
lt_not_le (negsuc m) (negsuc n) h = lt-leb m n (ltb-true n m (holds _ h.lt))

-- none that fits the type is above the greatest, so one that is not below it is that
at_most : (x : ℤ) → mag x < 2 ^ 63 → lt_z x (pos most) ≡ false → pos most ≡ x
at_most (pos n) fits h =
    let e : most ≡ n = omega (arith, ltb-false n most h) in
    ap pos e
at_most (negsuc n) fits h = absurd (subst T h tt)

-- of the first i margins the smallest is found, with the first place that has it
pub record Found (margin : ℕ → ℤ) (found : Smallest) (i : ℕ) : Type 0 where
  pub least : (j : ℕ) → j < i → found.margin ≤ℤ margin j
  pub first : (j : ℕ) → j < found.place → found.margin <ℤ margin j
  pub where_it_is : ((found.place < i) × (found.margin ≡ margin found.place)) ⊎ ((i ≡ 0) × (found ≡ unfound))

pub found_none : (margin : ℕ → ℤ) → Found margin unfound 0
found_none margin = record {
  least = λ j h. absurd (omega arith);
  first = λ j h. absurd (omega arith);
  where_it_is = inr (refl, refl);
}

module _ (margin : ℕ → ℤ) (found : Smallest) (i : ℕ) (q : Found margin found i) where
  up_to : (x : ℤ) → ((j : ℕ) → j < i → x ≤ℤ margin j) → x ≤ℤ margin i → (j : ℕ) → j < i + 1 → x ≤ℤ margin j
  up_to x before here j h = go (dec_le i j)
    where
      go : Dec (i ≤ j) → x ≤ℤ margin j
      go (no l) = before j (omega arith)
      go (yes l) =
          let e : i ≡ j = omega arith in
          subst (λ (p : ℕ). x ≤ℤ margin p) e here

  replaced : lt_z (margin i) found.margin ≡ true → Found margin (record { margin = margin i; place = i }) (i + 1)
  replaced lower =
      let below : margin i <ℤ found.margin = record { lt = rw lower tt } in
      let under : (j : ℕ) → j < i → margin i <ℤ margin j = λ j h. <ℤ-≤ℤ_trans below (q.least j h) in
      record {
        least = up_to (margin i) (λ j h. lt_le _ _ (holds _ (under j h).lt)) (≤ℤ_refl (margin i));
        first = under;
        where_it_is = inl (omega arith, refl);
      }

  kept : mag (margin i) < 2 ^ 63 → lt_z (margin i) found.margin ≡ false → Found margin found (i + 1)
  kept fits not_lower = record {
    least = up_to found.margin q.least (not_lt (margin i) found.margin not_lower);
    first = q.first;
    where_it_is = inl (go q.where_it_is);
  }
    where
      go : ((found.place < i) × (found.margin ≡ margin found.place)) ⊎ ((i ≡ 0) × (found ≡ unfound))
          → (found.place < i + 1) × (found.margin ≡ margin found.place)
      go (inl (l, e)) = (omega arith, e)
      go (inr (z, e)) =
          let p : found.place ≡ i = ap (λ (f : Smallest). f.place) e ∙ sym z in
          let m : found.margin ≡ pos most = ap (λ (f : Smallest). f.margin) e in
          (omega arith, m ∙ at_most (margin i) fits (rw m at not_lower) ∙ ap margin (sym p))

  pub found_one : {next : Smallest} → mag (margin i) < 2 ^ 63
      → next ≡ choose (lt_z (margin i) found.margin) (record { margin = margin i; place = i }) found
      → Found margin next (i + 1)
  found_one {next} fits is = go (lt_z (margin i) found.margin) refl is
    where
      go : (lower : Bool) → lt_z (margin i) found.margin ≡ lower
          → next ≡ choose lower (record { margin = margin i; place = i }) found → Found margin next (i + 1)
      go true lower e = rw e (replaced lower)
      go false lower e = rw e (kept fits lower)

pub found_all : (margin : ℕ → ℤ) (found : Smallest) (n : ℕ) → Found margin found n → 0 < n
    → found ≡ smallest n margin
unfolding is_least
found_all margin found n q some = go q.where_it_is
  where
    go : ((found.place < n) × (found.margin ≡ margin found.place)) ⊎ ((n ≡ 0) × (found ≡ unfound))
        → found ≡ smallest n margin
    go (inr (z, e)) = absurd (omega arith)
    go (inl (l, e)) =
        let here : is_least n margin found.place ≡ true =
        every_passes n (λ j. le_z (margin found.place) (margin j)) (λ j h. rw (← e) (holds _ (q.least j h).le)) in
        let before : (j : ℕ) → j < found.place → is_least n margin j ≡ false = λ j h.
        every_fails n (λ k. le_z (margin j) (margin k)) found.place l
        (rw (← e) (lt_not_le found.margin (margin j) (q.first j h))) in
        rw (first_found n (is_least n margin) found.place l before here)
        (ap (λ (m : ℤ). record { margin = m; place = found.place }) e)
