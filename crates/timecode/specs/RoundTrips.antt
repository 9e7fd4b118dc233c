-- Rules T: what has to be shown of reading and writing together.
use Rattle.std.specs.Prelude.{ℕ, ◌+◌, ◌*◌, ◌-◌, ◌≤◌, ◌≡◌, true, List, [], ◌∷◌, ◌++◌, length, take, drop, replicate}
use Rattle.measure.specs.Ranges.{entries_most}
use Rattle.measure.specs.Lists.{onto}
use Rattle.measure.specs.Levels.{Levels}
use Rattle.measure.specs.Refusals.{given}
use Rattle.timecode.specs.Words.{stands}
use Rattle.timecode.specs.Times.{hours, minutes, seconds, frames, time_fits, good_word, word_of}
use Rattle.timecode.specs.Answers.{read_times, write_time}

-- a time in range
pub record Time : Type 0 where
  pub h : ℕ
  pub m : ℕ
  pub s : ℕ
  pub f : ℕ
  pub fits : time_fits h m s f ≡ true

-- the words of a list of times one after another, and the bytes of the list
abbrev pub words_of : List Time → List ℕ
words_of [] = []
words_of (t ∷ times) = word_of t.h t.m t.s t.f ++ words_of times

abbrev pub bytes_of : List Time → List ℕ
bytes_of [] = []
bytes_of (t ∷ times) = (t.h ∷ t.m ∷ t.s ∷ t.f ∷ []) ++ bytes_of times

-- T20, T22: Words written one after another read back as the list of their times; a list of one is a written time that
-- reads back.
abbrev pub WrittenReadsBack : Type 0
WrittenReadsBack = (times : List Time) (output : List ℕ) → length (words_of times) ≤ entries_most
    → 4 * length times ≤ length output
    → read_times (words_of times) output ≡ (given (length times), onto (bytes_of times) output)

-- T8: a part of a time stands at a place, with tens of so many bits: the bits between and after its digits are 0
abbrev pub BlankPart : (at count : ℕ) (word : List ℕ) → Type 0
BlankPart at count word =
    (take 4 (drop (at + 4) word) ≡ replicate 4 0)
    × (take (8 - count) (drop (at + 8 + count) word) ≡ replicate (8 - count) 0)

-- T8: the user bits and flags of a word are 0
abbrev pub Blank : (word : List ℕ) → Type 0
Blank word = BlankPart 0 2 word × BlankPart 16 3 word × BlankPart 32 3 word × BlankPart 48 2 word

-- T21: 80 bits that are a good word, with user bits and flags 0: the time in them writes back the same 80 bits
abbrev pub ReadWritesBack : Type 0
ReadWritesBack = (word output : List ℕ) → length word ≡ 80 → Levels word → stands word ≡ true → good_word word ≡ true
    → Blank word → 80 ≤ length output
    → write_time (hours word) (minutes word) (seconds word) (frames word) output ≡ (given 80, onto word output)
