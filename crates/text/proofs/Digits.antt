-- A number in decimal: its one digit below ten, and otherwise the digits of its tenth before its last. So its digits
-- can be counted, and stored from the last, one at a time.
use Rattle.std.proofs.Common.{take, drop, drop_at, append-nil, append_assoc, length-take-le, ◌≡◌, refl, sym, ap, subst, ◌∙◌, Bool, true, false, List, [], ◌∷◌, ◌++◌, ℕ, zero, suc, ◌+◌, ◌-◌, ◌/◌, ◌%◌, ◌^◌, ◌<◌, ◌≤◌, add-zero, add-suc, suc-add, arith, length, length-append, length-set, set, drop_of_length-le, lt-ltb, le-ltb}
use Rattle.std.proofs.lemmas.List.Edits.{sets, sets-eq}
use Rattle.std.proofs.Math.Seq.{set_comm}
use native.Mathlib.Nat.{pow-succ'}
use native.Mathlib.Decide.{dec_le}
use Rattle.text.specs.Decimal.{digit, decimal_in, digits_most, decimal, minus, numeral}

decimal_one : (digits n : ℕ) → 1 ≤ digits → n < 10 → decimal_in digits n ≡ digit n ∷ []
unfolding decimal_in
decimal_one zero n h l = absurd (omega arith)
decimal_one (suc digits) n h l = rw (lt-ltb n 10 l)

decimal_more : (digits n : ℕ) → 10 ≤ n
    → decimal_in (suc digits) n ≡ decimal_in digits (n / 10) ++ digit (n % 10) ∷ []
unfolding decimal_in
decimal_more digits n l = rw (le-ltb n 10 l)

-- a number has no more digits than it may
digits_most_lem : (digits n : ℕ) → length (decimal_in digits n) ≤ digits
unfolding decimal_in
digits_most_lem zero n = omega arith
digits_most_lem (suc digits) n = go (dec_le 10 n) (digits_most_lem digits (n / 10))
  where
    go : Dec (10 ≤ n) → length (decimal_in digits (n / 10)) ≤ digits → length (decimal_in (suc digits) n) ≤ suc digits
    go (yes h) rest =
        rw (decimal_more digits n h)
        (omega (arith, length-append (decimal_in digits (n / 10)) (digit (n % 10) ∷ [])))
    go (no h) rest = rw (decimal_one (suc digits) n (omega arith) (omega arith)) (omega arith)

pub decimal_most : (n : ℕ) → length (decimal n) ≤ digits_most
decimal_most n = digits_most_lem digits_most n

pub size_most : (n : ℕ) {size : ℕ} → size ≡ length (decimal n) → size ≤ digits_most
size_most n e = omega (arith, decimal_most n)

-- what is left of a number after its last digits, so many digits at most
pub record Left (digits left : ℕ) : Type 0 where
  pub some : 1 ≤ digits
  pub low : left < 10 ^ digits

left_all : (n : ℕ) → n < 2 ^ 64 → Left digits_most n
left_all n h = record { some = omega arith; low = omega arith }

-- one digit less
record Fewer (digits left : ℕ) : Type 0 where
  fewer : ℕ
  one_more : digits ≡ suc fewer
  rest : Left fewer (left / 10)
  is : decimal_in digits left ≡ decimal_in fewer (left / 10) ++ digit (left % 10) ∷ []

fewer_one : (digits left : ℕ) → Left digits left → 10 ≤ left → Fewer digits left
fewer_one zero left q h = absurd (omega (arith, q.some))
fewer_one (suc zero) left q h = absurd (omega (arith, q.low, pow-succ' 10 zero))
fewer_one (suc (suc digits)) left q h = record {
  fewer = suc digits;
  one_more = refl;
  rest = record { some = omega arith; low = omega (arith, q.low, pow-succ' 10 (suc digits)) };
  is = decimal_more (suc digits) left h;
}

-- digits that are counted: so many, and those of what is left
pub record Counted (n left size : ℕ) : Type 0 where
  pub digits : ℕ
  pub rest : Left digits left
  pub few : size + digits ≡ digits_most + 1
  pub whole : size + length (decimal_in digits left) ≡ length (decimal n) + 1

pub counted_none : (n : ℕ) → n < 2 ^ 64 → Counted n n 1
counted_none n h = record { digits = digits_most; rest = left_all n h; few = omega arith; whole = omega arith }

module _ {n left size : ℕ} (q : Counted n left size) where
  pub counted_one : 10 ≤ left → Counted n (left / 10) (size + 1)
  counted_one h =
      let f = fewer_one q.digits left q.rest h in
      let others = decimal_in f.fewer (left / 10) in
      record {
        digits = f.fewer;
        rest = f.rest;
        few = omega (arith, q.few, f.one_more);
        whole = omega (arith, q.whole, ap length f.is, length-append others (digit (left % 10) ∷ []));
      }

  pub counted_all : left < 10 → size ≡ length (decimal n)
  counted_all h = omega (arith, q.whole, ap length (decimal_one q.digits left q.rest.some h))

-- a last entry stored first
sets_last : (output entries : List ℕ) (at v : ℕ)
    → sets (set output (at + length entries) v) at entries ≡ sets output at (entries ++ v ∷ [])
sets_last output [] at v = rw add-zero
sets_last output (x ∷ entries) at v =
    rw (add-suc, ← suc-add, set_comm output (suc at + length entries) at v x (λ e. omega arith))
    (sets_last (set output at x) entries (suc at) v)

-- a piece that is stored up to the end of a list
stored_to_end : (output piece : List ℕ) (at : ℕ) → at + length piece ≡ length output
    → drop at (sets output at piece) ≡ piece
stored_to_end output piece at h =
    let front : length (take at output) ≡ at = length-take-le at output (omega arith) in
    rw (sets-eq piece output at (omega arith), append_assoc (take at output) piece (drop (at + length piece) output))
    (drop_at (take at output) (piece ++ drop (at + length piece) output) at front
    ∙ rw (drop_of_length-le output {i = at + length piece} (omega arith), append-nil piece))

-- digits that are stored from the last on: what is left has its own still to come, up to a place
pub record Storing (output : List ℕ) (at n : ℕ) (stored : List ℕ) (left to : ℕ) : Type 0 where
  pub digits : ℕ
  pub rest : Left digits left
  pub whole : sets stored at (decimal_in digits left) ≡ sets output at (decimal n)
  pub ends : to ≡ at + length (decimal_in digits left)
  pub size : length stored ≡ length output
  pub within : to ≤ at + length (decimal n)

pub storing_none : (output : List ℕ) (at n : ℕ) → n < 2 ^ 64
    → Storing output at n output n (at + length (decimal n))
storing_none output at n h =
    record {
      digits = digits_most;
      rest = left_all n h;
      whole = refl;
      ends = refl;
      size = refl;
      within = omega arith;
    }

module _ {output : List ℕ} {at n : ℕ} {stored : List ℕ} {left to : ℕ} (q : Storing output at n stored left to) where
  -- there is a digit before the place
  pub storing_some : 10 ≤ left → at < to
  storing_some h =
      let f = fewer_one q.digits left q.rest h in
      omega
      (arith, q.ends, ap length f.is, length-append (decimal_in f.fewer (left / 10)) (digit (left % 10) ∷ []))

  pub storing_end : left < 10 → to ≡ at + 1
  storing_end h = omega (arith, q.ends, ap length (decimal_one q.digits left q.rest.some h))

  pub storing_one : 10 ≤ left → Storing output at n (set stored (to - 1) (digit (left % 10))) (left / 10) (to - 1)
  storing_one h =
      let f = fewer_one q.digits left q.rest h in
      let others = decimal_in f.fewer (left / 10) in
      let place : to - 1 ≡ at + length others =
      omega (arith, q.ends, ap length f.is, length-append others (digit (left % 10) ∷ [])) in
      record {
        digits = f.fewer;
        rest = f.rest;
        whole =
            rw place (sets_last stored others at (digit (left % 10)))
            ∙ ap (sets stored at) (sym f.is) ∙ q.whole;
        ends = place;
        size = length-set stored (to - 1) (digit (left % 10)) ∙ q.size;
        within = omega (arith, q.within);
      }

  pub storing_all : left < 10 → set stored at (digit left) ≡ sets output at (decimal n)
  storing_all h = ap (sets stored at) (sym (decimal_one q.digits left q.rest.some h)) ∙ q.whole

  -- up to the end of a list, they are its text from there on
  pub storing_text : left < 10 → at + length (decimal n) ≡ length output
      → drop (to - 1) (set stored (to - 1) (digit left)) ≡ decimal n
  storing_text h room =
      let place : to - 1 ≡ at = omega (arith, storing_end h) in
      rw (place, storing_all h) (stored_to_end output (decimal n) at room)

-- digits that are to stand at the end of a list
pub storing_to_end : (output : List ℕ) (n : ℕ) → n < 2 ^ 64 → length (decimal n) ≤ length output
    → Storing output (length output - length (decimal n)) n output n (length output)
storing_to_end output n h room =
    let end : length output - length (decimal n) + length (decimal n) ≡ length output = omega arith in
    subst (λ (to : ℕ). Storing output (length output - length (decimal n)) n output n to) end
    (storing_none output (length output - length (decimal n)) n h)

pub digits_within : (below : Bool) (n size : ℕ) → size ≡ length (numeral below n) → length (decimal n) ≤ size
digits_within true n size e = omega (arith, e)
digits_within false n size e = omega (arith, e)

-- a first entry that is stored
set_first : (output : List ℕ) (v : ℕ) → 1 ≤ length output → set output 0 v ≡ v ∷ drop 1 output
set_first [] v h = absurd (omega arith)
set_first (x ∷ output) v h = refl

-- a list that has room for a number alone, once its first digit is stored, and then its sign where it is below 0
module _ {output : List ℕ} {n : ℕ} {stored : List ℕ} {left to : ℕ}
    (q : Storing output (length output - length (decimal n)) n stored left to) (low : left < 10) where
  pub filled : length output ≡ length (numeral false n) → set stored (to - 1) (digit left) ≡ numeral false n
  filled h =
      let place : to - 1 ≡ 0 = omega (arith, storing_end q low, h) in
      ap (λ (k : ℕ). drop k (set stored (to - 1) (digit left))) (sym place) ∙ storing_text q low (omega (arith, h))

  pub filled_below : length output ≡ length (numeral true n)
      → set (set stored (to - 1) (digit left)) 0 minus ≡ numeral true n
  filled_below h =
      let place : to - 1 ≡ 1 = omega (arith, storing_end q low, h) in
      set_first (set stored (to - 1) (digit left)) minus (omega (arith, length-set stored (to - 1) (digit left), q.size, h))
      ∙ ap (λ (k : ℕ). minus ∷ drop k (set stored (to - 1) (digit left))) (sym place)
      ∙ ap (λ (text : List ℕ). minus ∷ text) (storing_text q low (omega (arith, h)))
