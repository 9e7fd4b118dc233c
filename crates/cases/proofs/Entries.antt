-- The entries of a text, one after another.
use Rattle.std.proofs.Common.{◌≡◌, ℕ, zero, suc, ◌+◌, ◌-◌, ◌%◌, ◌<◌, ◌≤◌, List, [], ◌∷◌, ◌++◌, Bool, true, false, length, drop, replicate, refl, sym, ap, ◌∙◌, arith, lt-ltb, le-ltb, drop-drop, length-drop, drop_of_length-le}
use Rattle.std.specs.Prelude.{ltb}
use borrow.Author.Tests.{ltb-true}
use Rattle.cases.specs.Reading.{digit_of, first_digit, digits_on, value_on, times_of, times_size, from_digit, past_number}
use Rattle.cases.specs.Reading.{entry_number, entry_times, entry_size, number_among, number_at, entries_among, entries_of, written, written_to, laid, with_room}
use Rattle.cases.proofs.Laying.{written_none, written_next, written_to_next}

-- an entry whose digits and what follows them are known
module _ (text digits after : List ℕ) (d : digits ≡ from_digit text) (a : after ≡ drop (digits_on 0 digits) digits) where
  past_is : past_number text ≡ after
  past_is = rw (← d) (sym a)

  pub entry_there : 0 < length digits → first_digit text < length text
  entry_there h = omega (arith, ap length d, length-drop (first_digit text) text)

  pub entry_number_is : entry_number text ≡ value_on 0 digits
  unfolding entry_number
  entry_number_is = ap (value_on 0) (sym d)

  pub entry_times_is : 0 < length digits → entry_times text ≡ times_of after
  unfolding entry_times
  entry_times_is h = rw (lt-ltb _ _ (entry_there h)) (ap times_of past_is)

  pub entry_rest_is : drop (times_size after) after ≡ drop (entry_size text) text
  unfolding entry_size
  entry_rest_is =
      let digits_end : after ≡ drop (first_digit text + digits_on 0 digits) text =
      a ∙ ap (λ (l : List ℕ). drop (digits_on 0 digits) l) d ∙ drop-drop (digits_on 0 digits) (first_digit text) text in
      let size : first_digit text + digits_on 0 digits + times_size after ≡ entry_size text =
      omega (arith, ap (digits_on 0) d, ap times_size past_is) in
      ap (λ (l : List ℕ). drop (times_size after) l) digits_end
      ∙ drop-drop (times_size after) (first_digit text + digits_on 0 digits) text ∙ ap (λ (n : ℕ). drop n text) size

-- an entry has a sign
pub entry_some : (text : List ℕ) → first_digit text < length text → 1 ≤ entry_size text
unfolding entry_size first_digit digits_on
entry_some [] h = absurd (omega arith)
entry_some (first ∷ more) h = go (ltb (digit_of first) 10) refl
  where
    go : (is : Bool) → ltb (digit_of first) 10 ≡ is → 1 ≤ entry_size (first ∷ more)
    go true e =
        let low : digit_of first < 10 = ltb-true (digit_of first) 10 e in
        rw (e, le-ltb 9 (digit_of first) (omega arith)) (omega arith)
    go false e = rw e (omega arith)

pub entry_less : (text rest : List ℕ) → first_digit text < length text → rest ≡ drop (entry_size text) text
    → length rest < length text
entry_less text rest h e = omega (arith, ap length e, length-drop (entry_size text) text, entry_some text h)

-- where there is no entry, none stands there at any place
no_times : (text : List ℕ) → length text ≤ first_digit text → entry_times text ≡ 0
unfolding entry_times
no_times text h = rw (le-ltb (first_digit text) (length text) h) refl

no_rest : (text : List ℕ) → length text ≤ first_digit text → drop (entry_size text) text ≡ []
unfolding entry_size
no_rest text h = drop_of_length-le text (omega arith)

none_left : (text : List ℕ) → length text ≤ first_digit text
    → length (drop (entry_size text) text) ≤ first_digit (drop (entry_size text) text)
none_left text h = omega (arith, ap length (no_rest text h))

no_number : (most left : ℕ) (text : List ℕ) → length text ≤ first_digit text → number_among most left text ≡ 0
unfolding number_among
no_number zero left text h = refl
no_number (suc most) left text h =
    rw (no_times text h, le-ltb left 0 (omega arith)) (no_number most (left - 0) (drop (entry_size text) text) (none_left text h))

no_entries : (most : ℕ) (text : List ℕ) → length text ≤ first_digit text → entries_among most text ≡ []
unfolding entries_among
no_entries zero text h = refl
no_entries (suc most) text h = rw (no_times text h) (no_entries most (drop (entry_size text) text) (none_left text h))

-- the number at a place is still to be found in the rest of a text
pub record Among (place : ℕ) (text : List ℕ) (left : ℕ) (rest : List ℕ) : Type 0 where
  pub most : ℕ
  pub room : length rest ≤ most
  pub same : number_among most left rest ≡ number_at place text

pub among_all : (place : ℕ) (text : List ℕ) → Among place text place text
among_all place text = record { most = length text; room = omega arith; same = refl }

module _ {place : ℕ} {text : List ℕ} {left : ℕ} {rest : List ℕ} (q : Among place text left rest) where
  pub among_none : length rest ≤ first_digit rest → 0 ≡ number_at place text
  among_none h = sym (no_number q.most left rest h) ∙ q.same

  module _ (there : first_digit rest < length rest) where
    one_more : q.most ≡ suc (q.most - 1)
    one_more = omega (arith, q.room)

    pub among_here : left < entry_times rest → entry_number rest ≡ number_at place text
    unfolding number_among
    among_here l =
        let first : number_among (suc (q.most - 1)) left rest ≡ entry_number rest =
        rw (lt-ltb left (entry_times rest) l) refl in
        sym first ∙ ap (λ (m : ℕ). number_among m left rest) (sym one_more) ∙ q.same

    pub among_on : (after : List ℕ) → entry_times rest ≤ left → after ≡ drop (entry_size rest) rest
        → Among place text (left - entry_times rest) after
    unfolding number_among
    among_on after l e =
        let first : number_among (suc (q.most - 1)) left rest
        ≡ number_among (q.most - 1) (left - entry_times rest) (drop (entry_size rest) rest) =
        rw (le-ltb left (entry_times rest) l) refl in
        record {
          most = q.most - 1;
          room = omega (arith, entry_less rest after there e, q.room);
          same = rw e (sym first ∙ ap (λ (m : ℕ). number_among m left rest) (sym one_more) ∙ q.same);
        }

-- the entries of a text that are put into a list, and those of the rest of it
pub record Putting (from : ℕ) (text before : List ℕ) (size : ℕ) (rest list : List ℕ) : Type 0 where
  pub within : size ≤ length list
  pub kept : length list ≡ length before
  pub most : ℕ
  pub room : length rest ≤ most
  pub same : written size (entries_among most rest) list ≡ written from (entries_of text) before
  pub end : written_to size (entries_among most rest) list ≡ written_to from (entries_of text) before

pub putting_none : (from : ℕ) (text list : List ℕ) → from ≤ length list → Putting from text list from text list
putting_none from text list h =
    record { within = h; kept = refl; most = length text; room = omega arith; same = refl; end = refl }

module _ {from : ℕ} {text before : List ℕ} {size : ℕ} {rest list : List ℕ}
    (q : Putting from text before size rest list) where
  pub putting_all : length rest ≤ first_digit rest
      → (list ≡ written from (entries_of text) before) × (size ≡ written_to from (entries_of text) before)
  putting_all h =
      let none = no_entries q.most rest h in
      let nothing : written_to size [] list ≡ size = omega (arith, q.within) in (
        sym (written_none size list) ∙ ap (λ (l : List ℕ). written size l list) (sym none) ∙ q.same,
        sym nothing ∙ ap (λ (l : List ℕ). written_to size l list) (sym none) ∙ q.end,
      )

  pub putting_one : (number times place : ℕ) (after list' : List ℕ) → first_digit rest < length rest
      → number ≡ entry_number rest % 256 → times ≡ entry_times rest → after ≡ drop (entry_size rest) rest
      → list' ≡ laid size number (with_room size times list) list → place ≡ size + with_room size times list
      → place ≤ length list → length list' ≡ length list → Putting from text before place after list'
  unfolding entries_among
  putting_one number times place after list' there n t e l p in_list same_length =
      let one_more : q.most ≡ suc (q.most - 1) = omega (arith, q.room) in
      let more = entries_among (q.most - 1) after in
      let first : replicate times number ++ more ≡ entries_among q.most rest =
      rw (n, t, e) (ap (λ (m : ℕ). entries_among m rest) (sym one_more)) in
      record {
        within = omega arith;
        kept = same_length ∙ q.kept;
        most = q.most - 1;
        room = omega (arith, entry_less rest after there e, q.room);
        same =
            rw (l, p) (written_next size times number more list q.within)
            ∙ ap (λ (entries : List ℕ). written size entries list) first ∙ q.same;
        end =
            rw p (written_to_next size times number more list list' same_length)
            ∙ ap (λ (entries : List ℕ). written_to size entries list) first ∙ q.end;
      }
