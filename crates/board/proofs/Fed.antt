-- What the receiver goes through over reads is what feeding their list gives, and what it goes through over the last of
-- some reads decides where all of them lead.
use mathlib.Core.Path.{◌≡◌, refl, subst, sym, ap, ◌∙◌}
use mathlib.Core.List.{List, [], ◌∷◌, ◌++◌}
use Prim.Native.Nat.{ℕ, suc, ◌+◌, ◌-◌, ◌≤◌, ◌<◌}
use native.Mathlib.Nat.{add-zero, add-suc, suc-add, add-sub_of_le}
use native.Mathlib.Omega.{arith}
use lib.ListN.{length, get_or, take, drop, length-drop, length-take, take-append-drop}
use lib.Seq.{get_or-drop, get_or-take, take-add, drop-drop}
use Rattle.board.specs.Rows.{State, next}
use Rattle.board.specs.Feeding.{Report, noted, after_by, reports_by}
use Rattle.board.proofs.FeedingLaws.{after_append, reports_append}
use Rattle.board.proofs.RowSteps.{rules}
use Rattle.board.proofs.Goes.{Goes, here, then, forward}

pub feeds : (k n Q : ℕ) (D : ℕ → ℕ) {j i : ℕ} {s t : State} {es : List Report} → Goes k n Q D j s es i t → (l : List ℕ)
    → j + length l ≡ i
    → ((h : ℕ) → h < length l → get_or l h 2 ≡ D (j + h))
    → (reports_by (next (rules k n Q)) s j l ≡ es) × (after_by (next (rules k n Q)) s l ≡ t)
unfolding reports_by after_by
feeds k n Q D here [] e f = (refl, refl)
feeds k n Q D here (x ∷ xs) e f = absurd (omega arith)
feeds k n Q D (then p g) [] e f = absurd (omega (arith, forward k n Q D g))
feeds k n Q D {j} {i} {s} {t} (then {t = u} {e = ev} {es = es} p g) (x ∷ xs) e f =
    go (feeds k n Q D g xs (omega arith) (λ h y. rw (suc-add, ← add-suc) (f (suc h) (omega arith))))
  where
    this : next (rules k n Q) s x ≡ record { state = u; event = ev }
    this = rw (f 0 (omega arith), add-zero) p

    go : (reports_by (next (rules k n Q)) u (suc j) xs ≡ es) × (after_by (next (rules k n Q)) u xs ≡ t)
        → (reports_by (next (rules k n Q)) s j (x ∷ xs) ≡ noted j ev es) × (after_by (next (rules k n Q)) s (x ∷ xs) ≡ t)
    go h = (rw (this, h.0), rw this h.1)

-- the reads of a list from place j up to i
module _ (k n Q : ℕ) (R : List ℕ) {j i : ℕ} {s t : State} {es : List Report} (le : i ≤ length R)
    (goes : Goes k n Q (λ x. get_or R x 2) j s es i t) where
  size : j + length (take (i - j) (drop j R)) ≡ i
  size = rw (length-take, length-drop) (omega (arith, forward k n Q (λ x. get_or R x 2) goes))

  pub feeds_part : (reports_by (next (rules k n Q)) s j (take (i - j) (drop j R)) ≡ es)
      × (after_by (next (rules k n Q)) s (take (i - j) (drop j R)) ≡ t)
  feeds_part =
      feeds k n Q (λ x. get_or R x 2) goes (take (i - j) (drop j R)) size
      (λ x y. rw (get_or-take (i - j) (drop j R) x 2 (omega (arith, rw (length-take, length-drop) at y)), get_or-drop))

  -- what is reported from j on: what is reported up to i, and what is reported from there on
  pub reports_on : reports_by (next (rules k n Q)) s j (drop j R) ≡ es ++ reports_by (next (rules k n Q)) t i (drop i R)
  reports_on =
      ap (λ (x : List ℕ). reports_by (next (rules k n Q)) s j x) parts
      ∙ reports_append (next (rules k n Q)) s j (take (i - j) (drop j R)) (drop i R)
      ∙ rw (feeds_part.0, feeds_part.1, size)
    where
      parts : drop j R ≡ take (i - j) (drop j R) ++ drop i R
      parts =
          sym (take-append-drop (i - j) (drop j R))
          ∙ ap (λ (x : List ℕ). take (i - j) (drop j R) ++ x)
          (drop-drop (i - j) j R
          ∙ ap (λ (x : ℕ). drop x R) (add-sub_of_le (forward k n Q (λ x. get_or R x 2) goes)))

-- reads from place j up to h are those up to i and those from i on
part_split : (R : List ℕ) (j i h : ℕ) → j ≤ i → i ≤ h
    → take (h - j) (drop j R) ≡ take (i - j) (drop j R) ++ take (h - i) (drop i R)
part_split R j i h p q =
    subst (λ (x : ℕ). take x (drop j R) ≡ take (i - j) (drop j R) ++ take (h - i) (drop i R)) parts
    (take-add (i - j) (h - i) (drop j R)
    ∙ rw drop-drop (ap (λ (x : ℕ). take (i - j) (drop j R) ++ take (h - i) (drop x R)) (add-sub_of_le p)))
  where
    parts : i - j + (h - i) ≡ h - j
    parts = omega arith

-- every state leads to t over the reads from i up to h: so it does over those from j on
pub leads : (k n Q : ℕ) (R : List ℕ) (j i h : ℕ) (t : State) → j ≤ i → i ≤ h → h ≤ length R
    → ((s : State) → (es : List Report) × Goes k n Q (λ x. get_or R x 2) i s es h t)
    → (s : State) → after_by (next (rules k n Q)) s (take (h - j) (drop j R)) ≡ t
leads k n Q R j i h t p q le any s =
    ap (λ (x : List ℕ). after_by (next (rules k n Q)) s x) (part_split R j i h p q)
    ∙ after_append (next (rules k n Q)) s (take (i - j) (drop j R)) (take (h - i) (drop i R))
    ∙ from (any (after_by (next (rules k n Q)) s (take (i - j) (drop j R))))
  where
    from : {u : State} → (es : List Report) × Goes k n Q (λ x. get_or R x 2) i u es h t
        → after_by (next (rules k n Q)) u (take (h - i) (drop i R)) ≡ t
    from (es, f) = (feeds_part k n Q R le f).1
