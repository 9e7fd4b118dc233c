-- Words written one after another read back as the list of their times.
use mathlib.Core.Path.{◌≡◌, refl, sym, ap, ◌∙◌}
use mathlib.Core.Bool.{Bool, true, ◌&&◌}
use mathlib.Core.List.{List, [], ◌∷◌, ◌++◌}
use Prim.Native.Nat.{ℕ, zero, suc, ◌+◌, ◌*◌, ◌-◌, ◌/◌, ◌%◌, ◌≤◌}
use native.Mathlib.Omega.{arith}
use borrow.Author.Tests.{eqb-true, le-ltb}
use lib.Dec.{leb, eqb}
use lib.ListN.{length, drop, replicate}
use lib.Seq.{drop-drop}
use Rattle.measure.specs.Ranges.{entries_most}
use Rattle.measure.specs.Levels.{Levels}
use Rattle.measure.specs.Refusals.{given}
use Rattle.measure.proofs.LevelLaws.{most_append, most_replicate, none_some}
use Rattle.timecode.specs.Words.{mark, stands, places, word_places}
use Rattle.timecode.specs.Times.{number, part, hours, minutes, seconds, frames, time_of}
use Rattle.timecode.specs.Times.{time_fits, units_fit, good_word}
use Rattle.timecode.specs.Times.{bits_of, part_bits, word_of}
use Rattle.timecode.specs.Answers.{times_at, listed, read_times}
use Rattle.timecode.specs.RoundTrips.{Time, words_of, bytes_of, WrittenReadsBack}
use Rattle.timecode.proofs.Search.{levels_mark, places_over}
use Rattle.timecode.proofs.NumberBits.{every_holds}
use Rattle.timecode.proofs.TimeLaws.{fit_hours, fit_minutes, fit_seconds, fit_frames}

-- a part in its 16 bits is the part, and its units are a digit
two_back : (n : ℕ) → n ≤ 39 → part 0 8 2 (part_bits 2 n) ≡ n
unfolding bits_of part_bits
two_back n h =
    eqb-true (part 0 8 2 (part_bits 2 n)) n
    (every_holds (λ (n : ℕ). eqb (part 0 8 2 (part_bits 2 n)) n) 40 refl n (omega arith))

three_back : (n : ℕ) → n ≤ 59 → part 0 8 3 (part_bits 3 n) ≡ n
unfolding bits_of part_bits
three_back n h =
    eqb-true (part 0 8 3 (part_bits 3 n)) n
    (every_holds (λ (n : ℕ). eqb (part 0 8 3 (part_bits 3 n)) n) 60 refl n (omega arith))

units_back : (n : ℕ) → n ≤ 59 → leb (number 4 0 (part_bits 2 n)) 9 ≡ true
unfolding bits_of part_bits
units_back n h = every_holds (λ (n : ℕ). leb (number 4 0 (part_bits 2 n)) 9) 60 refl n (omega arith)

and_true : {x y : Bool} → x ≡ true → y ≡ true → x && y ≡ true
and_true e f = rw (e, f)

module _ (h m s f : ℕ) (fits : time_fits h m s f ≡ true) (rest : List ℕ) where
  hours_back : hours (word_of h m s f ++ rest) ≡ h
  unfolding bits_of part_bits word_of
  hours_back = two_back h (omega (arith, fit_hours h m s f fits))

  minutes_back : minutes (word_of h m s f ++ rest) ≡ m
  unfolding bits_of part_bits word_of
  minutes_back = three_back m (fit_minutes h m s f fits)

  seconds_back : seconds (word_of h m s f ++ rest) ≡ s
  unfolding bits_of part_bits word_of
  seconds_back = three_back s (fit_seconds h m s f fits)

  frames_back : frames (word_of h m s f ++ rest) ≡ f
  unfolding bits_of part_bits word_of
  frames_back = two_back f (omega (arith, fit_frames h m s f fits))

  digits_back : units_fit (word_of h m s f ++ rest) ≡ true
  unfolding bits_of part_bits word_of
  digits_back =
      and_true (and_true (and_true
      (units_back h (omega (arith, fit_hours h m s f fits)))
      (units_back m (fit_minutes h m s f fits)))
      (units_back s (fit_seconds h m s f fits)))
      (units_back f (omega (arith, fit_frames h m s f fits)))

  pub good_back : good_word (word_of h m s f ++ rest) ≡ true
  good_back = and_true digits_back (rw (hours_back, minutes_back, seconds_back, frames_back) fits)

  pub time_back : time_of (word_of h m s f ++ rest) ≡ h ∷ m ∷ s ∷ f ∷ []
  time_back = rw (hours_back, minutes_back, seconds_back, frames_back)

-- the word stands where it was written, and the search goes on after it
stands_back : (h m s f : ℕ) (rest : List ℕ) → stands (word_of h m s f ++ rest) ≡ true
unfolding bits_of part_bits word_of
stands_back h m s f rest = refl

rest_back : (h m s f : ℕ) (rest : List ℕ) → drop 80 (word_of h m s f ++ rest) ≡ rest
unfolding bits_of part_bits word_of
rest_back h m s f rest = refl

place_back : (at : ℕ) (first : ℕ) (word rest : List ℕ) → stands (first ∷ word) ≡ true → drop 79 word ≡ rest
    → places 0 at (first ∷ word) ≡ at ∷ places 0 (at + 80) rest
unfolding places
place_back at first word rest e d =
    let next : 79 + suc at ≡ at + 80 = omega arith in
    rw (e, places_over 79 (suc at) word, d, next)

places_back : (at h m s f : ℕ) (rest : List ℕ)
    → places 0 at (word_of h m s f ++ rest) ≡ at ∷ places 0 (at + 80) rest
unfolding bits_of part_bits word_of
places_back at h m s f rest = place_back at _ _ rest (stands_back h m s f rest) (rest_back h m s f rest)

-- all words of a list of times, from a place on
module _ (bits : List ℕ) where
  after : (at h m s f : ℕ) (rest : List ℕ) → drop at bits ≡ word_of h m s f ++ rest → drop (at + 80) bits ≡ rest
  after at h m s f rest e =
      sym (drop-drop 80 at bits) ∙ ap (λ (l : List ℕ). drop 80 l) e ∙ rest_back h m s f rest

  pub count_back : (times : List Time) (at : ℕ) → length (places 0 at (words_of times)) ≡ length times
  unfolding places
  count_back [] at = refl
  count_back (t ∷ times) at =
      rw (places_back at t.h t.m t.s t.f (words_of times)) (ap suc (count_back times (at + 80)))

  pub times_back : (times : List Time) (at : ℕ) → drop at bits ≡ words_of times
      → times_at bits (places 0 at (words_of times)) ≡ bytes_of times
  unfolding places times_at
  times_back [] at e = refl
  times_back (t ∷ times) at e =
      let h = t.h in
      let m = t.m in
      let s = t.s in
      let f = t.f in
      let rest = words_of times in
      let later = times_at bits (places 0 (at + 80) rest) in
      rw (places_back at h m s f rest, e, good_back h m s f t.fits rest)
      (ap (λ (l : List ℕ). l ++ later) (time_back h m s f t.fits rest)
      ∙ ap (λ (l : List ℕ). (h ∷ m ∷ s ∷ f ∷ []) ++ l) (times_back times (at + 80) (after at h m s f rest e)))

  pub listed_back : (times : List Time) (at n : ℕ) → drop at bits ≡ words_of times
      → listed bits (places 0 at (words_of times)) n ≡ given (n + length times)
  unfolding places listed
  listed_back [] at n e =
      let same : n + 0 ≡ n = omega arith in
      rw same
  listed_back (t ∷ times) at n e =
      let h = t.h in
      let m = t.m in
      let s = t.s in
      let f = t.f in
      let rest = words_of times in
      let more : suc n + length times ≡ n + suc (length times) = omega arith in
      rw (places_back at h m s f rest, e, good_back h m s f t.fits rest)
      (listed_back times (at + 80) (suc n) (after at h m s f rest e) ∙ rw more)

-- every bit that is written is a bit
levels_bits : (count n : ℕ) → Levels (bits_of count n)
unfolding bits_of
levels_bits zero n = tt
levels_bits (suc count) n = (omega arith, levels_bits count (n / 2))

levels_part : (count n : ℕ) → Levels (part_bits count n)
unfolding part_bits
levels_part count n =
    most_append 1 (bits_of 4 (n % 10) ++ replicate 4 0 ++ bits_of count (n / 10)) (replicate (8 - count) 0)
    (most_append 1 (bits_of 4 (n % 10) ++ replicate 4 0) (bits_of count (n / 10))
    (most_append 1 (bits_of 4 (n % 10)) (replicate 4 0) (levels_bits 4 (n % 10)) (most_replicate 1 4 0 (omega arith)))
    (levels_bits count (n / 10)))
    (most_replicate 1 (8 - count) 0 (omega arith))

levels_word : (h m s f : ℕ) → Levels (word_of h m s f)
unfolding word_of
levels_word h m s f =
    most_append 1 (part_bits 2 f ++ part_bits 3 s ++ part_bits 3 m ++ part_bits 2 h) mark
    (most_append 1 (part_bits 2 f ++ part_bits 3 s ++ part_bits 3 m) (part_bits 2 h)
    (most_append 1 (part_bits 2 f ++ part_bits 3 s) (part_bits 3 m)
    (most_append 1 (part_bits 2 f) (part_bits 3 s) (levels_part 2 f) (levels_part 3 s))
    (levels_part 3 m))
    (levels_part 2 h))
    levels_mark

levels_words : (times : List Time) → Levels (words_of times)
levels_words [] = tt
levels_words (t ∷ times) =
    most_append 1 (word_of t.h t.m t.s t.f) (words_of times)
    (levels_word t.h t.m t.s t.f) (levels_words times)

-- T20, T22
pub written_reads_back : WrittenReadsBack
unfolding read_times
written_reads_back times output short room =
    let bits = words_of times in
    let count = count_back bits times 0 in
    let none : 0 + length times ≡ length times = omega arith in
    rw (
      le-ltb entries_most (length bits) short,
      none_some 1 bits (levels_words times),
      le-ltb (length output) (4 * length (word_places bits)) (omega (arith, count)),
      listed_back bits times 0 0 refl,
      times_back bits times 0 refl,
      none,
    )
