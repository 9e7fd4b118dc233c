-- The search as the code goes about it: from a place on, and with the number of the bits that the mark would have.
use mathlib.Core.Path.{◌≡◌, refl, sym, ap, subst, ◌∙◌}
use mathlib.Core.Logic.{dite}
use mathlib.Core.Bool.{Bool, true, false, ◌&&◌}
use mathlib.Core.List.{List, [], ◌∷◌, ◌++◌}
use Prim.Native.Nat.compare
use Prim.Native.Nat.{ℕ, zero, suc, ◌+◌, ◌*◌, ◌%◌, ◌-◌, ◌<◌, ◌≤◌}
use native.Mathlib.Nat.{zero-add, add-suc, suc-add}
use native.Mathlib.Decide.{dec_le}
use native.Mathlib.Omega.{arith}
use lib.Dec.{T, eqb}
use lib.ListN.{length, take, drop, get_or, replicate, length-drop, length-take, length-append, get_or-replicate, get_or-append, drop_of_length-le}
use lib.Seq.{drop-drop, drop-cons, take-suc, get_or-drop, length-take-le, drop-append-add, get_or-append-add, get_or-take}
use borrow.Author.Tests.{eq-eqb, ne_eqb}
use Rattle.measure.specs.Choose.{choose}
use Rattle.measure.specs.Lists.{first_above}
use Rattle.measure.specs.Levels.{Levels}
use Rattle.measure.proofs.LevelLaws.{most_take, most_drop, most_at, most_none_some}
use Rattle.timecode.specs.Words.{mark, same, stands, places}
use Rattle.timecode.specs.Carried.{carried, words_from, words_by}
use Rattle.std.specs.Prelude.{Some}
use Rattle.timecode.proofs.CarriedLaws.{carried_last, carried_cons, carried_fifteen, same_carried, same_length}

-- bits that are passed over
pub places_over : (over at : ℕ) (bits : List ℕ) → places over at bits ≡ places 0 (over + at) (drop over bits)
unfolding places
places_over zero at bits = rw zero-add
places_over (suc over) at [] = refl
places_over (suc over) at (bit ∷ bits) = places_over over (suc at) bits ∙ rw (add-suc, suc-add)

module _ (bits : List ℕ) (i : ℕ) (h : i < length bits) where
  here : drop i bits ≡ get_or bits i 0 ∷ drop (suc i) bits
  here = drop-cons bits i 0 h

  pub word_here : stands (drop i bits) ≡ true → words_from bits i ≡ i ∷ words_from bits (i + 80)
  unfolding places
  word_here e =
      let f : 79 + suc i ≡ i + 80 = omega arith in
      let g : suc i + 79 ≡ i + 80 = omega arith in
      rw here (rw (rw here at e, places_over 79 (suc i) (drop (suc i) bits), drop-drop 79 (suc i) bits, f, g))

  pub word_not_here : stands (drop i bits) ≡ false → words_from bits i ≡ words_from bits (i + 1)
  unfolding places
  word_not_here e =
      let f : i + 1 ≡ suc i = omega arith in
      rw (here, f) (rw (rw here at e))

-- fewer than 80 bits have no word
few_stand : (bits : List ℕ) → length bits < 80 → stands bits ≡ false
few_stand bits h = go (stands bits) refl
  where
    go : (is : Bool) → stands bits ≡ is → stands bits ≡ false
    go false e = e
    go true e =
        absurd (omega (
          arith,
          same_length (take 16 (drop 64 bits)) mark e,
          length-take 16 (drop 64 bits),
          length-drop 64 bits,
        ))

few_places : (at : ℕ) (bits : List ℕ) → length bits < 80 → places 0 at bits ≡ []
unfolding places
few_places at [] h = refl
few_places at (bit ∷ bits) h = rw (few_stand (bit ∷ bits) h) (few_places (suc at) bits (omega arith))

pub none_left : (bits : List ℕ) (i : ℕ) → length bits < i + 80 → words_from bits i ≡ []
none_left bits i h = few_places i (drop i bits) (rw length-drop (omega arith))

mark_carried : carried 0 mark ≡ 16381
unfolding carried
mark_carried = refl

pub levels_mark : Levels mark
unfolding first_above
levels_mark = most_none_some 1 mark refl

-- The bits from i on, 80 of them at least: the first 15 bits of their mark make `last`, and the 16th joins them.
module _ (bits : List ℕ) (levels : Levels bits) (i last : ℕ) (room : i + 79 < length bits)
    (is : last ≡ carried 0 (take 15 (drop (i + 64) bits))) where
  abbrev pub full : ℕ
  full = 2 * last + get_or bits (i + 79) 0

  enough : 15 < length (drop (i + 64) bits)
  enough = rw length-drop (omega arith)

  pub full_carried : full ≡ carried 0 (take 16 (drop (i + 64) bits))
  full_carried =
      let place : i + 64 + 15 ≡ i + 79 = omega arith in
      sym (rw (take-suc (drop (i + 64) bits) 15 0 enough, get_or-drop (i + 64) bits 15 0, place)
      (carried_last 0 (take 15 (drop (i + 64) bits)) (get_or bits (i + 79) 0)
      ∙ ap (λ (n : ℕ). 2 * n + get_or bits (i + 79) 0) (sym is)))

  pub full_stands : stands (drop i bits) ≡ eqb full 16381
  full_stands =
      let window = take 16 (drop (i + 64) bits) in
      rw (drop-drop 64 i bits)
      (same_carried 0 0 window mark (length-take-le 16 (drop (i + 64) bits) enough)
      (most_take 1 16 (drop (i + 64) bits) (most_drop 1 (i + 64) bits levels)) levels_mark
      ∙ ap (λ (n : ℕ). eqb (carried 0 window) n) mark_carried ∙ ap (λ (n : ℕ). eqb n 16381) (sym full_carried))

  pub full_next : full % 32768 ≡ carried 0 (take 15 (drop (i + 1 + 64) bits))
  full_next =
      let next : suc (i + 64) ≡ i + 1 + 64 = omega arith in
      let rest = take 15 (drop (i + 1 + 64) bits) in
      let few : length (drop (i + 1 + 64) bits) ≡ length bits - (i + 1 + 64) = length-drop (i + 1 + 64) bits in
      let fifteen : length rest ≡ 15 = length-take-le 15 (drop (i + 1 + 64) bits) (omega arith) in
      let below = carried_fifteen bits (i + 1 + 64) (omega arith) levels in
      let first : get_or bits (i + 64) 0 ≤ 1 = most_at 1 bits levels (i + 64) in
      let window : take 16 (drop (i + 64) bits) ≡ get_or bits (i + 64) 0 ∷ rest =
      ap (λ (l : List ℕ). take 16 l) (drop-cons bits (i + 64) 0 (omega arith))
      ∙ ap (λ (n : ℕ). get_or bits (i + 64) 0 ∷ take 15 (drop n bits)) next in
      let whole : carried 0 (take 16 (drop (i + 64) bits)) ≡ get_or bits (i + 64) 0 * 32768 + carried 0 rest =
      ap (λ (l : List ℕ). carried 0 l) window ∙ rw fifteen at (carried_cons (get_or bits (i + 64) 0) rest) in
      omega (arith, full_carried, whole, below, first)

-- What the walk from a place on sees: the bits from there on of which the last 16 may be marks, after fifteen 1s and
-- the 64 bits that come before a mark.
pub seen : (bits : List ℕ) (from : ℕ) → List ℕ
seen bits from = replicate 79 1 ++ drop (from + 64) bits

levels_ones : (n : ℕ) (l : List ℕ) → Levels l → Levels (replicate n 1 ++ l)
levels_ones zero l h = h
levels_ones (suc n) l h = (omega arith, levels_ones n l h)

module _ (bits : List ℕ) (from j : ℕ) where
  seen_late : drop (79 + j) (seen bits from) ≡ drop (from + 64 + j) bits
  unfolding seen
  seen_late =
      drop-append-add (replicate 79 1) (drop (from + 64) bits) j ∙ drop-drop j (from + 64) bits

  seen_bit : get_or (seen bits from) (j + 79) 0 ≡ get_or bits (from + 64 + j) 0
  unfolding seen
  seen_bit =
      let place : j + 79 ≡ 79 + j = omega arith in
      rw place (get_or-append-add (replicate 79 1) (drop (from + 64) bits) j 0 ∙ get_or-drop (from + 64) bits j 0)

  seen_length : from + 64 ≤ length bits → length (seen bits from) ≡ 79 + (length bits - (from + 64))
  unfolding seen
  seen_length h =
      length-append (replicate 79 1) (drop (from + 64) bits) ∙ ap (λ (n : ℕ). 79 + n) (length-drop (from + 64) bits)

-- a mark begins with a 0
no_mark : (l : List ℕ) → same (take 16 (1 ∷ l)) mark ≡ false
no_mark l = refl

seen_early : (bits : List ℕ) (from j : ℕ) → j < 15 → stands (drop j (seen bits from)) ≡ false
unfolding seen
seen_early bits from j h =
    let all : List ℕ = replicate 79 1 ++ drop (from + 64) bits in
    let few : j + 64 < length (replicate {A = ℕ} 79 1) = omega arith in
    let size : length all ≡ 79 + length (drop (from + 64) bits) =
    length-append (replicate 79 1) (drop (from + 64) bits) in
    let one : get_or all (j + 64) 0 ≡ 1 =
    get_or-append (replicate 79 1) (drop (from + 64) bits) 0 (j + 64) few ∙ get_or-replicate 79 (j + 64) 1 0 few in
    rw (drop-drop 64 j all, drop-cons all (j + 64) 0 (omega arith), one) (no_mark (drop (suc (j + 64)) all))

-- The search from a place on: no word stands before the place whose mark would end before bit i, and `last` is carried
-- along.
pub record Searching (bits : List ℕ) (from last i : ℕ) : Type 0 where
  pub begun : from + 64 ≤ i
  pub within : i ≤ length bits
  pub passed : words_from bits from ≡ words_from bits (from + (i - (from + 79)))
  pub is : last ≡ carried 0 (take 15 (drop (i - (from + 64) + 64) (seen bits from)))
  pub small : last < 32768

pub searching_none : (bits : List ℕ) (from : ℕ) → from + 80 ≤ length bits → Searching bits from 32767 (from + 64)
unfolding seen carried
searching_none bits from h =
    let none : from + 64 - (from + 64) ≡ 0 = omega arith in
    let here : from + (from + 64 - (from + 79)) ≡ from = omega arith in
    record {
      begun = omega arith;
      within = omega arith;
      passed = rw here;
      is = rw none;
      small = omega arith;
    }

module _ {bits : List ℕ} {from last i : ℕ} (q : Searching bits from last i) (levels : Levels bits)
    (h : i < length bits) where
  j : ℕ
  j = i - (from + 64)

  levels_seen : Levels (seen bits from)
  unfolding seen
  levels_seen = levels_ones 79 (drop (from + 64) bits) (most_drop 1 (from + 64) bits levels)

  room_seen : j + 79 < length (seen bits from)
  unfolding j
  room_seen = omega (arith, seen_length bits from 0 (omega (arith, q.begun)), q.begun)

  is_seen : last ≡ carried 0 (take 15 (drop (j + 64) (seen bits from)))
  unfolding j
  is_seen = q.is

  joined : full (seen bits from) levels_seen j last room_seen is_seen ≡ 2 * last + get_or bits i 0
  unfolding j
  joined =
      let place : from + 64 + (i - (from + 64)) ≡ i = omega (arith, q.begun) in
      ap (λ (n : ℕ). 2 * last + n) (seen_bit bits from (i - (from + 64)) ∙ ap (λ (n : ℕ). get_or bits n 0) place)

  seen_stands : stands (drop j (seen bits from)) ≡ eqb (2 * last + get_or bits i 0) 16381
  seen_stands =
      full_stands (seen bits from) levels_seen j last room_seen is_seen
      ∙ ap (λ (n : ℕ). eqb n 16381) joined

  late_stands : from + 79 ≤ i → stands (drop (i - 79) bits) ≡ stands (drop j (seen bits from))
  unfolding j
  late_stands late =
      let place : i - 79 + 64 ≡ from + 64 + (i - (from + 79)) = omega arith in
      let there : i - (from + 64) + 64 ≡ 79 + (i - (from + 79)) = omega arith in
      rw (
        drop-drop 64 (i - 79) bits,
        drop-drop 64 (i - (from + 64)) (seen bits from),
        place,
        there,
        seen_late bits from (i - (from + 79)),
      )

  pub searching_one : (2 * last + get_or bits i 0 ≡ 16381 → ⊥)
      → Searching bits from ((2 * last + get_or bits i 0) % 32768) (i + 1)
  unfolding j
  searching_one differs =
      let next : i - (from + 64) + 1 + 64 ≡ i + 1 - (from + 64) + 64 = omega (arith, q.begun) in
      let other = seen_stands ∙ ne_eqb (2 * last + get_or bits i 0) 16381 differs in
      record {
        begun = omega (arith, q.begun);
        within = omega arith;
        passed = q.passed ∙ go other (dec_le (from + 79) i);
        is = ap (λ (n : ℕ). n % 32768) (sym joined)
            ∙ full_next (seen bits from) levels_seen j last room_seen is_seen
            ∙ ap (λ (n : ℕ). carried 0 (take 15 (drop n (seen bits from)))) next;
        small = omega arith;
      }
    where
      go : stands (drop j (seen bits from)) ≡ false → Dec (from + 79 ≤ i)
          → words_from bits (from + (i - (from + 79))) ≡ words_from bits (from + (i + 1 - (from + 79)))
      go other (yes late) =
          let here : from + (i - (from + 79)) ≡ i - 79 = omega arith in
          let next : from + (i + 1 - (from + 79)) ≡ i - 79 + 1 = omega arith in
          rw (here, next) (word_not_here bits (i - 79) (omega arith) (late_stands late ∙ other))
      go other (no early) =
          let same_place : from + (i - (from + 79)) ≡ from + (i + 1 - (from + 79)) = omega arith in
          rw same_place

  pub searching_found : 2 * last + get_or bits i 0 ≡ 16381
      → (from + 79 ≤ i) × (words_from bits from ≡ words_by bits (Some (i - 79)))
  unfolding j
  searching_found e = go (seen_stands ∙ eq-eqb (2 * last + get_or bits i 0) 16381 e) (dec_le (from + 79) i)
    where
      go : stands (drop j (seen bits from)) ≡ true → Dec (from + 79 ≤ i)
          → (from + 79 ≤ i) × (words_from bits from ≡ words_by bits (Some (i - 79)))
      go here (yes late) =
          let place : from + (i - (from + 79)) ≡ i - 79 = omega arith in (
            late,
            q.passed ∙ ap (λ (n : ℕ). words_from bits n) place
                ∙ word_here bits (i - 79) (omega arith) (late_stands late ∙ here),
          )
      go here (no early) =
          absurd (subst T (sym here ∙ seen_early bits from (i - (from + 64)) (omega (arith, q.begun))) tt)

-- a word has 80 bits, so there is at most one for each 80
pub few_words : (over at : ℕ) (bits : List ℕ) → over ≤ length bits
    → over + 80 * length (places over at bits) ≤ length bits
unfolding places
few_words over at [] h = omega arith
few_words (suc over) at (bit ∷ bits) h = omega (arith, few_words over (suc at) bits (omega arith))
few_words zero at (bit ∷ bits) h =
    dite (dec_le 80 (suc (length bits)))
    (λ enough. go (stands (bit ∷ bits))
    (few_words 79 (suc at) bits (omega arith)) (few_words zero (suc at) bits (omega arith)))
    (λ few. rw (few_stand (bit ∷ bits) (omega arith)) (omega (arith, few_words zero (suc at) bits (omega arith))))
  where
    go : (is : Bool) → 79 + 80 * length (places 79 (suc at) bits) ≤ length bits
        → 0 + 80 * length (places 0 (suc at) bits) ≤ length bits
        → 0 + 80 * length (choose is (at ∷ places 79 (suc at) bits) (places 0 (suc at) bits)) ≤ suc (length bits)
    go true h l = omega arith
    go false h l = omega arith

-- each word at these places ends where the bits end, or before
abbrev pub Whole : (most : ℕ) (at : List ℕ) → Type 0
Whole most [] = Unit {0}
Whole most (place ∷ at) = (place + 80 ≤ most) × Whole most at

pub words_whole : (most over at : ℕ) (bits : List ℕ) → at + length bits ≤ most
    → Whole most (places over at bits)
unfolding places
words_whole most over at [] h = tt
words_whole most (suc over) at (bit ∷ bits) h = words_whole most over (suc at) bits (omega arith)
words_whole most zero at (bit ∷ bits) h =
    go (stands (bit ∷ bits)) refl (words_whole most 79 (suc at) bits (omega arith))
    (words_whole most zero (suc at) bits (omega arith))
  where
    whole : stands (bit ∷ bits) ≡ true → at + 80 ≤ most
    whole e =
        dite (dec_le 80 (suc (length bits))) (λ enough. omega arith)
        (λ few. absurd (subst T (sym e ∙ few_stand (bit ∷ bits) (omega arith)) tt))

    go : (is : Bool) → stands (bit ∷ bits) ≡ is → Whole most (places 79 (suc at) bits)
        → Whole most (places 0 (suc at) bits)
        → Whole most (choose is (at ∷ places 79 (suc at) bits) (places 0 (suc at) bits))
    go true e later others = (whole e, later)
    go false e later others = others

pub word_whole : (bits : List ℕ) (from at : ℕ) (rest : List ℕ) → from ≤ length bits → words_from bits from ≡ at ∷ rest
    → at + 80 ≤ length bits
word_whole bits from at rest h e =
    (rw e at (words_whole (length bits) 0 from (drop from bits) (rw length-drop (omega arith)))).0

-- The 16 bits of a mark, compared one by one: i have been, and n of them are the mark's.
pub record Comparing (window : List ℕ) (n i : ℕ) : Type 0 where
  pub few : n ≤ i
  pub within : i ≤ 16
  pub rest : eqb n i && same (drop i window) (drop i mark) ≡ same window mark

pub comparing_none : (window : List ℕ) → Comparing window 0 0
comparing_none window = record { few = omega arith; within = omega arith; rest = refl }

module _ {window : List ℕ} {n i : ℕ} (q : Comparing window n i) (h : i < 16) (size : length window ≡ 16) where
  split : eqb n i && (eqb (get_or window i 0) (get_or mark i 0) && same (drop (suc i) window) (drop (suc i) mark))
      ≡ same window mark
  split = rw (drop-cons window i 0 (omega arith), drop-cons mark i 0 h) at q.rest

  pub comparing_same : get_or window i 0 ≡ get_or mark i 0 → Comparing window (n + 1) (i + 1)
  comparing_same e =
      let next : i + 1 ≡ suc i = omega arith in
      let more : n + 1 ≡ suc n = omega arith in
      record {
        few = omega (arith, q.few);
        within = omega arith;
        rest = rw (next, more, compare.suc-suc n i) (rw (eq-eqb (get_or window i 0) (get_or mark i 0) e) at split);
      }

  pub comparing_other : (get_or window i 0 ≡ get_or mark i 0 → ⊥) → Comparing window n (i + 1)
  comparing_other differs =
      let next : i + 1 ≡ suc i = omega arith in
      record {
        few = omega (arith, q.few);
        within = omega arith;
        rest = rw (next, ne_eqb n (suc i) (λ e. omega (arith, e, q.few)))
            (sym (and_false (eqb n i)) ∙ rw (ne_eqb (get_or window i 0) (get_or mark i 0) differs) at split);
      }
    where
      and_false : (is : Bool) → is && false ≡ false
      and_false true = refl
      and_false false = refl

pub comparing_all : {window : List ℕ} {n i : ℕ} → Comparing window n i → 16 ≤ i → length window ≡ 16
    → eqb n 16 ≡ same window mark
comparing_all {window} {n} {i} q h size =
    let all : i ≡ 16 = omega (arith, q.within) in
    let none : drop 16 window ≡ [] = drop_of_length-le window {i = 16} (omega arith) in
    and_true (eqb n 16) ∙ rw (all, none) at q.rest
  where
    and_true : (is : Bool) → is ≡ is && true
    and_true true = refl
    and_true false = refl

-- the bits of a mark, by their places among all bits
pub window_at : (bits : List ℕ) (n i : ℕ) → i < 16 → get_or (take 16 (drop n bits)) i 0 ≡ get_or bits (n + i) 0
window_at bits n i h = get_or-take 16 (drop n bits) i 0 h ∙ get_or-drop n bits i 0

pub window_size : (bits : List ℕ) (at : ℕ) → at + 80 ≤ length bits → length (take 16 (drop (at + 64) bits)) ≡ 16
window_size bits at h = length-take-le 16 (drop (at + 64) bits) (rw length-drop (omega arith))
