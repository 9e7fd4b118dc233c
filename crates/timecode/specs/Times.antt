-- Rules T: the time in a word, the words that are bad, and the word of a time.
use Rattle.std.specs.Prelude.{ℕ, zero, suc, ◌+◌, ◌*◌, ◌/◌, ◌%◌, ◌-◌, Bool, ◌&&◌, List, [], ◌∷◌, ◌++◌, get_or, replicate, leb}
use Rattle.timecode.specs.Words.{mark}

-- T4: the number in so many bits of a word from a place on, the lowest bit first
abbrev pub number : (count from : ℕ) (word : List ℕ) → ℕ
number zero from word = 0
number (suc count) from word = get_or word from 0 + 2 * number count (suc from) word

-- T4: a part of a time: its units are four bits, and its tens so many
abbrev pub part : (units tens count : ℕ) (word : List ℕ) → ℕ
part units tens count word = number 4 units word + 10 * number count tens word

-- T4
abbrev pub frames : (word : List ℕ) → ℕ
frames word = part 0 8 2 word

-- T4
abbrev pub seconds : (word : List ℕ) → ℕ
seconds word = part 16 24 3 word

-- T4
abbrev pub minutes : (word : List ℕ) → ℕ
minutes word = part 32 40 3 word

-- T4
abbrev pub hours : (word : List ℕ) → ℕ
hours word = part 48 56 2 word

-- T5: the four bytes of a time
abbrev pub time_of : (word : List ℕ) → List ℕ
time_of word = hours word ∷ minutes word ∷ seconds word ∷ frames word ∷ []

-- T6: hours to 23, minutes and seconds to 59, frames to 24
abbrev pub time_fits : (h m s f : ℕ) → Bool
time_fits h m s f = leb h 23 && leb m 59 && leb s 59 && leb f 24

-- T6: the units are digits
abbrev pub units_fit : (word : List ℕ) → Bool
units_fit word =
    leb (number 4 48 word) 9 && leb (number 4 32 word) 9 && leb (number 4 16 word) 9 && leb (number 4 0 word) 9

-- T6: a word is good if its units are digits and its time is in range
abbrev pub good_word : (word : List ℕ) → Bool
good_word word = units_fit word && time_fits (hours word) (minutes word) (seconds word) (frames word)

-- T10: a number in so many bits, the lowest first
unfoldable pub bits_of : (count n : ℕ) → List ℕ
bits_of zero n = []
bits_of (suc count) n = n % 2 ∷ bits_of count (n / 2)

-- T10: a part of a time in 16 bits: four of its units, four of 0, so many of its tens, and 0 up to the end
unfoldable pub part_bits : (count n : ℕ) → List ℕ
part_bits count n = bits_of 4 (n % 10) ++ replicate 4 0 ++ bits_of count (n / 10) ++ replicate (8 - count) 0

-- T10: the word of a time: its parts, frames first, then the mark
unfoldable pub word_of : (h m s f : ℕ) → List ℕ
word_of h m s f = part_bits 2 f ++ part_bits 3 s ++ part_bits 3 m ++ part_bits 2 h ++ mark
