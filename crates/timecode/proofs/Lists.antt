-- The times listed so far, and those still to come.
use mathlib.Core.Path.{◌≡◌, refl, sym, ap, ◌∙◌}
use mathlib.Core.Bool.{Bool, true, false, ◌&&◌}
use mathlib.Core.List.{List, [], ◌∷◌}
use Prim.Native.Nat.{ℕ, ◌+◌, ◌*◌, ◌≤◌}
use native.Mathlib.Numerals.{add-one}
use native.Mathlib.Omega.{arith}
use lib.ListN.{length, drop, get_or}
use lib.Seq.{sets}
use Rattle.measure.specs.Lists.{onto}
use Rattle.measure.specs.Refusals.{given, refused_after}
use Rattle.measure.proofs.Stores.{Stored, stored_none, stored_part, stored_all}
use Rattle.measure.proofs.Laid.{laid_first}
use Rattle.timecode.specs.Words.{word_places}
use Rattle.timecode.specs.Times.{time_of, time_fits, units_fit, good_word}
use Rattle.timecode.specs.Answers.{times_at, listed, listed_into}
use Rattle.timecode.proofs.Search.{Whole, words_whole}

-- the code's two tests of a word are the definition's
pub good_word_lem : {digits fits : Bool} (h m s f : ℕ) (word : List ℕ) → digits ≡ units_fit word
    → h ∷ m ∷ s ∷ f ∷ [] ≡ time_of word → fits ≡ time_fits h m s f → digits && fits ≡ good_word word
good_word_lem {digits} {fits} h m s f word d e t =
    ap (λ (x : Bool). x && fits) d
    ∙ ap (λ (x : Bool). units_fit word && x)
    (t ∙ ap (λ (l : List ℕ). time_fits (get_or l 0 0) (get_or l 1 0) (get_or l 2 0) (get_or l 3 0)) e)

-- The times of the words listed so far, n of them, with the words that are left.
pub record Listing (bits out₀ out : List ℕ) (n : ℕ) (left : List ℕ) : Type 0 where
  pub count : n + length left ≡ length (word_places bits)
  pub whole : Whole (length bits) left
  pub answer : listed bits (word_places bits) 0 ≡ listed bits left n
  pub stored : Stored out₀ 0 (times_at bits (word_places bits)) out (4 * n) (times_at bits left)

pub listing_none : (bits out : List ℕ) → Listing bits out out 0 (word_places bits)
listing_none bits out = record {
  count = omega arith;
  whole = words_whole (length bits) 0 0 bits (omega arith);
  answer = refl;
  stored = stored_none out 0 (times_at bits (word_places bits));
}

module _ {bits out₀ out : List ℕ} {n : ℕ} {left : List ℕ} (q : Listing bits out₀ out n left)
    (room : 4 * length (word_places bits) ≤ length out₀) where
  -- with nothing still to come
  done : times_at bits left ≡ [] → out ≡ onto (times_at bits (word_places bits)) out₀
  done e =
      let all = rw e at q.stored in
      stored_all all
      ∙ laid_first (times_at bits (word_places bits)) out₀ (omega (arith, all.reach, q.count))

  pub listing_all : left ≡ [] → listed_into bits out₀ ≡ (given n, out)
  unfolding listed times_at
  listing_all e = rw (← done (rw e), q.answer, e)

  module _ {at : ℕ} {rest : List ℕ} (e : left ≡ at ∷ rest) where
    pub listing_whole : at + 80 ≤ length bits
    listing_whole = (rw e at q.whole).0

    pub listing_bad : good_word (drop at bits) ≡ false → listed_into bits out₀ ≡ (refused_after 10 at n, out)
    unfolding listed times_at
    listing_bad bad = rw (← done (rw (e, bad)), q.answer, e, bad)

    pub listing_room : 4 * n + 4 ≤ length out
    listing_room = omega (arith, q.count, ap length e, q.stored.size)

    pub listing_one : (out' : List ℕ) → good_word (drop at bits) ≡ true
        → sets out (4 * n) (time_of (drop at bits)) ≡ out' → Listing bits out₀ out' (n + 1) rest
    unfolding listed times_at
    listing_one out' good s = record {
      count = omega (arith, q.count, ap length e);
      whole = (rw e at q.whole).1;
      answer = rw add-one (q.answer ∙ rw (e, good));
      stored = stored_part (time_of (drop at bits)) out' (4 * (n + 1)) (rw (e, good) at q.stored) (sym s) (omega arith);
    }
