-- Settle read by read: a known read stays and an unknown one is the next choice, so every read is a level where the
-- choices are.
use Rattle.std.proofs.Common.{Bor, Iter, ◌≡◌, refl, ap, List, [], ◌∷◌, ℕ, zero, suc, ◌+◌, ◌<◌, ◌≤◌, add-one, arith, length, drop, get_or, drop_of_length-le, drop-cons, eq-eqb, ne_eqb}
use mathlib.Core.Logic.{dite}
use native.Mathlib.Decide.{ℕ_discrete}
use Rattle.std.specs.Prelude.{Option, None, Some}
use Rattle.std.specs.Option.{option_copied, unwrap_or}
use Rattle.std.specs.Slice.Iter.{iter_rest, iter_steps}
use Rattle.line.specs.Settle.{next_choice, settle}
use Rattle.measure.specs.Levels.{AtMost, Levels}
use Rattle.measure.proofs.LevelLaws.{most_drop}

pub length_settle : (reads choices : List ℕ) → length (settle reads choices) ≡ length reads
unfolding settle
length_settle [] choices = refl
length_settle (read ∷ reads) choices =
    dite (ℕ_discrete read 2)
    (λ unknown. rw (eq-eqb read 2 unknown) (ap suc (length_settle reads (drop 1 choices))))
    (λ known. rw (ne_eqb read 2 known) (ap suc (length_settle reads choices)))

-- a known read keeps its level
pub settle_keeps : (reads choices : List ℕ) (j : ℕ) → (get_or reads j 2 ≡ 2 → ⊥)
    → get_or (settle reads choices) j 2 ≡ get_or reads j 2
unfolding settle
settle_keeps [] choices j known = refl
settle_keeps (read ∷ reads) choices zero known = rw (ne_eqb read 2 known)
settle_keeps (read ∷ reads) choices (suc j) known =
    dite (ℕ_discrete read 2)
    (λ unknown. rw (eq-eqb read 2 unknown) (settle_keeps reads (drop 1 choices) j known))
    (λ this. rw (ne_eqb read 2 this) (settle_keeps reads choices j known))

next_most : (choices : List ℕ) → Levels choices → next_choice choices ≤ 1
next_most [] all = omega arith
next_most (choice ∷ choices) all = all.0

-- every settled read is a level, 0 or 1, if the choices are
pub settle_most : (reads choices : List ℕ) → AtMost 2 reads → Levels choices → Levels (settle reads choices)
unfolding settle
settle_most [] choices all levels = tt
settle_most (read ∷ reads) choices all levels =
    dite (ℕ_discrete read 2)
    (λ unknown.
    rw (eq-eqb read 2 unknown)
    (next_most choices levels, settle_most reads (drop 1 choices) all.1 (most_drop 1 1 choices levels)))
    (λ known.
    rw (ne_eqb read 2 known) (omega (arith, all.0), settle_most reads choices all.1 levels))

-- from a place on, for a loop that counts by one
pub settle_unknown : (reads choices : List ℕ) (i : ℕ) → i < length reads → get_or reads i 0 ≡ 2
    → settle (drop i reads) choices ≡ next_choice choices ∷ settle (drop (i + 1) reads) (drop 1 choices)
unfolding settle
settle_unknown reads choices i h unknown =
    rw (drop-cons reads i 0 h, eq-eqb (get_or reads i 0) 2 unknown, add-one i)

pub settle_known : (reads choices : List ℕ) (i : ℕ) → i < length reads → (get_or reads i 0 ≡ 2 → ⊥)
    → settle (drop i reads) choices ≡ get_or reads i 0 ∷ settle (drop (i + 1) reads) choices
unfolding settle
settle_known reads choices i h known = rw (drop-cons reads i 0 h, ne_eqb (get_or reads i 0) 2 known, add-one i)

pub settle_end : (reads choices : List ℕ) (i : ℕ) → length reads ≤ i → settle (drop i reads) choices ≡ []
unfolding settle
settle_end reads choices i h = rw (drop_of_length-le reads h)

none_left : (choices : List ℕ) → length choices ≡ 0 → (0 ≡ next_choice choices) × (choices ≡ drop 1 choices)
none_left [] e = (refl, refl)
none_left (choice ∷ choices) e = absurd (omega arith)

-- what is taken of the choices left is the next one, or low, and the rest is left
pub next_taken : (before after : Iter ℕ) (taken : Option (Bor ℕ)) → iter_steps before taken after
    → (unwrap_or (option_copied taken) 0 ≡ next_choice (iter_rest before))
    × (iter_rest after ≡ drop 1 (iter_rest before))
next_taken before after None (none, same) = rw same (none_left (iter_rest before) none)
next_taken before after (Some choice) steps = rw steps (refl, refl)
