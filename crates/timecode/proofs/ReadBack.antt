-- The time of a good word whose user bits and flags are 0 writes back the word.
use mathlib.Core.Path.{◌≡◌, refl, sym, ap, ◌∙◌}
use mathlib.Core.Bool.{true}
use mathlib.Core.List.{List, [], ◌∷◌, ◌++◌, append_assoc}
use Prim.Native.Nat.{ℕ, zero, suc, ◌+◌, ◌*◌, ◌-◌, ◌/◌, ◌%◌, ◌≤◌}
use native.Mathlib.Omega.{arith}
use borrow.Author.Tests.{leb-true}
use lib.Dec.{leb}
use lib.ListN.{length, take, drop, get_or, replicate, take-append-drop, length-drop}
use lib.Seq.{drop-drop, drop-cons, take_all}
use Rattle.measure.specs.Lists.{onto}
use Rattle.measure.specs.Levels.{Levels}
use Rattle.measure.proofs.LevelLaws.{most_at}
use Rattle.measure.proofs.Both.{both, each}
use Rattle.timecode.specs.Words.{mark}
use Rattle.timecode.specs.Times.{number, part, hours, minutes, seconds, frames, time_fits, units_fit}
use Rattle.timecode.specs.Times.{bits_of, part_bits, word_of}
use Rattle.timecode.specs.Answers.{write_time}
use Rattle.timecode.specs.RoundTrips.{ReadWritesBack}
use Rattle.timecode.proofs.NumberBits.{same_equal, word_lent}

-- bits that are read as a number are the bits of that number
bits_back : (count from : ℕ) (word : List ℕ) → Levels word → from + count ≤ length word
    → bits_of count (number count from word) ≡ take count (drop from word)
unfolding bits_of
bits_back zero from word levels h = refl
bits_back (suc count) from word levels h =
    let x = get_or word from 0 in
    let rest = number count (suc from) word in
    let bit : x ≤ 1 = most_at 1 word levels from in
    let low : (x + 2 * rest) % 2 ≡ x = omega arith in
    let high : (x + 2 * rest) / 2 ≡ rest = omega arith in
    rw (low, high, drop-cons word from 0 (omega arith), bits_back count (suc from) word levels (omega arith))

-- a stretch of a list, and what comes after it
cut : (n from : ℕ) (l : List ℕ) → drop from l ≡ take n (drop from l) ++ drop (from + n) l
cut n from l =
    sym
    (ap (λ (rest : List ℕ). take n (drop from l) ++ rest) (sym (drop-drop n from l))
    ∙ take-append-drop n (drop from l))

nested : (a b c d rest : List ℕ) → a ++ b ++ c ++ d ++ rest ≡ a ++ (b ++ (c ++ (d ++ rest)))
nested a b c d rest =
    append_assoc (a ++ b ++ c) d rest ∙ append_assoc (a ++ b) c (d ++ rest) ∙ append_assoc a b (c ++ (d ++ rest))

-- a part of the time and the 0s around its tens are 16 bits of the word
part_forth : (count from : ℕ) (word : List ℕ) → Levels word → count ≤ 8 → from + 16 ≤ length word
    → number 4 from word ≤ 9 → take 4 (drop (from + 4) word) ≡ replicate 4 0
    → take (8 - count) (drop (from + 8 + count) word) ≡ replicate (8 - count) 0
    → drop from word ≡ part_bits count (part from (from + 8) count word) ++ drop (from + 16) word
unfolding part_bits
part_forth count from word levels few room digit four rest =
    let units = number 4 from word in
    let tens = number count (from + 8) word in
    let low : (units + 10 * tens) % 10 ≡ units = omega arith in
    let high : (units + 10 * tens) / 10 ≡ tens = omega arith in
    let eight : from + 4 + 4 ≡ from + 8 = omega arith in
    let sixteen : from + 8 + count + (8 - count) ≡ from + 16 = omega arith in
    let a = take 4 (drop from word) in
    let z : List ℕ = replicate 4 0 in
    let t = take count (drop (from + 8) word) in
    let y : List ℕ = replicate (8 - count) 0 in
    rw (low, high, bits_back 4 from word levels (omega arith), bits_back count (from + 8) word levels (omega arith))
    (cut 4 from word
    ∙ ap (λ (l : List ℕ). a ++ l) (rw (four, eight) at (cut 4 (from + 4) word))
    ∙ ap (λ (l : List ℕ). a ++ (z ++ l)) (cut count (from + 8) word)
    ∙ ap (λ (l : List ℕ). a ++ (z ++ (t ++ l))) (rw (rest, sixteen) at (cut (8 - count) (from + 8 + count) word))
    ∙ sym (nested a z t y (drop (from + 16) word)))

-- the four parts and the mark make the word
joined : (h m s f : ℕ) (word : List ℕ)
    → word ≡ part_bits 2 f ++ (part_bits 3 s ++ (part_bits 3 m ++ (part_bits 2 h ++ mark)))
    → word_of h m s f ≡ word
unfolding word_of
joined h m s f word e = nested (part_bits 2 f) (part_bits 3 s) (part_bits 3 m) (part_bits 2 h) mark ∙ sym e

-- T21
pub read_writes_back : ReadWritesBack
unfolding write_time
read_writes_back word output size levels at_mark good blank room =
    let (units, fits) =
    both (units_fit word) (time_fits (hours word) (minutes word) (seconds word) (frames word)) good in
    let (h, m, s, f) = digits units in
    let one = part_forth 2 0 word levels (omega arith) (omega arith) f blank.0.0 blank.0.1 in
    let two = part_forth 3 16 word levels (omega arith) (omega arith) s blank.1.0 blank.1.1 in
    let three = part_forth 3 32 word levels (omega arith) (omega arith) m blank.2.0 blank.2.1 in
    let four = part_forth 2 48 word levels (omega arith) (omega arith) h blank.3.0 blank.3.1 in
    let few : length (drop 64 word) ≤ 16 = rw (length-drop 64 word) (omega arith) in
    let five : drop 64 word ≡ mark =
    sym (take_all 16 (drop 64 word) few) ∙ same_equal (take 16 (drop 64 word)) mark at_mark in
    let whole = one ∙ ap (λ (l : List ℕ). part_bits 2 (frames word) ++ l) (two
    ∙ ap (λ (l : List ℕ). part_bits 3 (seconds word) ++ l) (three
    ∙ ap (λ (l : List ℕ). part_bits 3 (minutes word) ++ l) (four
    ∙ ap (λ (l : List ℕ). part_bits 2 (hours word) ++ l) five))) in
    let back : word_of (hours word) (minutes word) (seconds word) (frames word) ≡ word =
    joined (hours word) (minutes word) (seconds word) (frames word) word whole in
    rw fits
    (word_lent (hours word) (minutes word) (seconds word) (frames word) output (onto word output) room (rw back))
  where
    digits : units_fit word ≡ true
        → (number 4 48 word ≤ 9) × (number 4 32 word ≤ 9) × (number 4 16 word ≤ 9) × (number 4 0 word ≤ 9)
    digits units =
        let each-digit = each (leb (number 4 48 word) 9)
        (leb (number 4 32 word) 9 ∷ leb (number 4 16 word) 9 ∷ leb (number 4 0 word) 9 ∷ []) units in (
          leb-true (number 4 48 word) 9 (each-digit 0),
          leb-true (number 4 32 word) 9 (each-digit 1),
          leb-true (number 4 16 word) 9 (each-digit 2),
          leb-true (number 4 0 word) 9 (each-digit 3),
        )
