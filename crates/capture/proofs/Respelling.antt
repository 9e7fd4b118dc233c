-- The bytes of a number are read back as the number, and a number that was read has the bytes of its value.
use Rattle.std.proofs.Common.{ℕ, zero, suc, ◌+◌, ◌-◌, ◌*◌, ◌/◌, ◌%◌, ◌≤◌, ◌<◌, ◌≡◌, refl, sym, ap, ◌∙◌, List, [], ◌∷◌}
use Rattle.std.proofs.Common.{◌++◌, arith, ltb, leb, eqb, length, take, drop, take-append-drop, drop-drop, le-leb}
use Rattle.std.proofs.Common.{ltb-true, ltb-false}
use native.Mathlib.Decide.{dec_le}
use borrow.Author.Tests.{eqb-false}
use Rattle.measure.specs.Refusals.{given}
use Rattle.capture.specs.Numbers.{Group, value, cut, long, before, following, group, further, last_most, bound}
use Rattle.capture.specs.Numbers.{Numeral, placed, number_at, grouped, spelled}
use Rattle.capture.proofs.Groups.{Bytes, either, following_last, following_one, following_on, group_one}
use Rattle.capture.proofs.Groups.{group_on, bound_suc}
use Rattle.capture.proofs.Places.{bytes_from}
use Rattle.capture.proofs.Spelling.{grouped_one, grouped_on}

-- what is left after a number's lowest group, read back with it
before_back : (v size : ℕ) (g : Group) → g ≡ value (v / 128) size → before (v % 128 + 128) g ≡ value v (suc size)
before_back v size g e =
    let p : v % 128 + 128 - 128 + 128 * (v / 128) ≡ v = omega arith in
    rw (e, p)

some_more : (more : ℕ) → suc more ≡ 0 → ⊥
some_more more e = omega arith

following_back : (more v : ℕ) (l : List ℕ) → 1 ≤ v → v < bound more
    → following more (grouped more v ++ l) ≡ value v (length (grouped more v))
unfolding grouped
following_back zero v l p h = following_last zero v l refl (λ e. omega arith) (omega arith)
following_back (suc more) v l p h = go (dec_le 128 v) (following_back more (v / 128) l)
  where
    go : Dec (128 ≤ v)
        → (1 ≤ v / 128 → v / 128 < bound more
        → following more (grouped more (v / 128) ++ l) ≡ value (v / 128) (length (grouped more (v / 128))))
        → following (suc more) (grouped (suc more) v ++ l) ≡ value v (length (grouped (suc more) v))
    go (yes b) rest =
        let fewer : suc more - 1 ≡ more = omega arith in
        let q : following (suc more) ((v % 128 + 128) ∷ (grouped more (v / 128) ++ l))
        ≡ before (v % 128 + 128) (following more (grouped more (v / 128) ++ l)) =
        rw fewer at
        (following_on (suc more) (v % 128 + 128) (grouped more (v / 128) ++ l) (some_more more) (omega arith)) in
        rw (grouped_on more v b) (q ∙ before_back v _ _ (rest (omega arith) (omega (arith, bound_suc more))))
    go (no b) rest =
        rw (grouped_one (suc more) v (omega arith))
        (following_one (suc more) v l (some_more more) (λ e. omega arith) (omega arith))

pub group_back : (more v : ℕ) (l : List ℕ) → v < bound more
    → group more (grouped more v ++ l) ≡ value v (length (grouped more v))
unfolding grouped group
group_back zero v l h = simp (le-leb v last_most (omega arith))
group_back (suc more) v l h = go (dec_le 128 v)
  where
    go : Dec (128 ≤ v) → group (suc more) (grouped (suc more) v ++ l) ≡ value v (length (grouped (suc more) v))
    go (yes b) =
        let fewer : suc more - 1 ≡ more = omega arith in
        let q : group (suc more) ((v % 128 + 128) ∷ (grouped more (v / 128) ++ l))
        ≡ before (v % 128 + 128) (following more (grouped more (v / 128) ++ l)) =
        rw fewer at
        (group_on (suc more) (v % 128 + 128) (grouped more (v / 128) ++ l) (some_more more) (omega arith)) in
        rw (grouped_on more v b)
        (q ∙ before_back v _ _ (following_back more (v / 128) l (omega arith) (omega (arith, bound_suc more))))
    go (no b) = rw (grouped_one (suc more) v (omega arith)) (group_one (suc more) v l (some_more more) (omega arith))

-- a number that is spelled from a place on
pub number_back : (s l : List ℕ) (at v : ℕ) → drop at s ≡ spelled v ++ l → v < bound further
    → number_at s at ≡ given (record { value = v; after = at + length (spelled v) })
unfolding number_at
number_back s l at v e h = rw (e, group_back further v l h)

-- a number that was read is at least so great, and its bytes are those of its value
abbrev Again : ℕ → ℕ → List ℕ → Group → Type 0
Again least more l (value v size) = (least ≤ v) × (take size l ≡ grouped more v)
Again least more l cut = Unit {0}
Again least more l long = Unit {0}

again_before : (least more b : ℕ) (l : List ℕ) (g : Group) → least ≤ 1 → 128 ≤ b → b < 256 → Again 1 more l g
    → Again least (suc more) (b ∷ l) (before b g)
again_before least more b l (value v size) e p q (r, h) =
    let w : (b - 128 + 128 * v) / 128 ≡ v = omega arith in
    let x : (b - 128 + 128 * v) % 128 + 128 ≡ b = omega arith in
    (omega arith, rw (grouped_on more (b - 128 + 128 * v) (omega arith), w, x, h))
again_before least more b l cut e p q a = tt
again_before least more b l long e p q a = tt

again_one : (least more b : ℕ) (l : List ℕ) → least ≤ b → b < 128 → Again least more (b ∷ l) (value b 1)
again_one least more b l h k = (h, sym (grouped_one more b k))

again_last : (least b : ℕ) (l : List ℕ) → least ≤ b → Again least zero (b ∷ l) (value b 1)
unfolding grouped
again_last least b l h = (h, refl)

not_zero : (b : ℕ) → (b ≡ 0 → ⊥) → 1 ≤ b
not_zero b n = omega arith

following_again : (more : ℕ) (l : List ℕ) → Bytes l → Again 1 more l (following more l)
unfolding following
following_again more [] h = tt
following_again zero (b ∷ l) h =
    either (Again 1 zero (b ∷ l)) (eqb b 0) (λ e. tt)
    (λ e. either (Again 1 zero (b ∷ l)) (leb b last_most) (λ f. again_last 1 b l (not_zero b (eqb-false b 0 e)))
    (λ f. tt))
following_again (suc more) (b ∷ l) h =
    either (Again 1 (suc more) (b ∷ l)) (eqb b 0) (λ e. tt)
    (λ e. either (Again 1 (suc more) (b ∷ l)) (ltb b 128)
    (λ f. again_one 1 (suc more) b l (not_zero b (eqb-false b 0 e)) (ltb-true b 128 f))
    (λ f. again_before 1 more b l (following more l) (omega arith) (ltb-false b 128 f) (h 0)
    (following_again more l (λ i. h (suc i)))))

group_again : (more : ℕ) (l : List ℕ) → Bytes l → Again 0 more l (group more l)
unfolding group
group_again more [] h = tt
group_again zero (b ∷ l) h =
    either (Again 0 zero (b ∷ l)) (leb b last_most) (λ f. again_last 0 b l (omega arith)) (λ f. tt)
group_again (suc more) (b ∷ l) h =
    either (Again 0 (suc more) (b ∷ l)) (ltb b 128)
    (λ f. again_one 0 (suc more) b l (omega arith) (ltb-true b 128 f))
    (λ f. again_before 0 more b l (following more l) (omega arith) (ltb-false b 128 f) (h 0)
    (following_again more l (λ i. h (suc i))))

-- the bytes from a number's place on are its own and those after it
pub number_again : (s : List ℕ) (at : ℕ) (n : Numeral) → Bytes s → number_at s at ≡ given n
    → drop at s ≡ spelled n.value ++ drop n.after s
unfolding number_at
number_again s at n b = go (group further (drop at s)) (group_again further (drop at s) (bytes_from s at b))
  where
    go : (g : Group) → Again 0 further (drop at s) g → placed at g ≡ given n
        → drop at s ≡ spelled n.value ++ drop n.after s
    go (value v size) (l, e) f =
        let p : v ≡ n.value = cc in
        let q : at + size ≡ n.after = cc in
        sym (take-append-drop size (drop at s)) ∙ ap (λ (x : List ℕ). x ++ drop size (drop at s)) e
        ∙ rw (drop-drop, p, q)
    go cut a f = let z : ◌≡◌ {A = ℕ} 0 1 = cc in absurd (omega arith)
    go long a f = let z : ◌≡◌ {A = ℕ} 0 1 = cc in absurd (omega arith)
