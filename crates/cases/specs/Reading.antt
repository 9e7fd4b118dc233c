-- What taking a case apart gives, over the signs of a line.
use Rattle.std.specs.Prelude.{ℕ, zero, suc, ◌+◌, ◌-◌, ◌*◌, ◌%◌, Bool, true, false, List, [], ◌∷◌, ◌++◌, length, take, drop, set, get_or, max, replicate, min, eqb, ltb}
use Rattle.measure.specs.Choose.{choose}
use Rattle.measure.specs.Lists.{onto}

-- how many signs of a text stand before the first of this one: all of them where there is none
unfoldable pub first_of : (sign : ℕ) (text : List ℕ) → ℕ
first_of sign [] = 0
first_of sign (first ∷ more) = choose (eqb first sign) 0 (suc (first_of sign more))

-- the text before the first of a sign, or all of it where there is none
abbrev pub before_first : (sign : ℕ) (text : List ℕ) → List ℕ
before_first sign text = take (first_of sign text) text

-- the text after the first of a sign, and nothing where there is none
abbrev pub after_first : (sign : ℕ) (text : List ℕ) → List ℕ
after_first sign text = drop (suc (first_of sign text)) text

-- a line is a case if it has a sign and the first is not # (35)
abbrev pub begins_a_case : (line : List ℕ) → Bool
begins_a_case [] = false
begins_a_case (first ∷ more) = choose (eqb first 35) false true

-- a list with an entry laid into it, so many times, from a place on; the rest stays as it was
abbrev pub laid : (from entry count : ℕ) (list : List ℕ) → List ℕ
laid from entry count list = take from list ++ replicate count entry ++ drop (from + count) list

-- how many of so many entries have room in a list from a place on
abbrev pub with_room : (from count : ℕ) (list : List ℕ) → ℕ
with_room from count list = min count (length list - from)

-- what copying so many entries of a list leaves in another: they stand at its front, and where there is no room for them
-- it stays as it was
abbrev pub copied_onto : (size : ℕ) (list to : List ℕ) → List ℕ
copied_onto size list to = choose (ltb (length to) (min size (length list))) to (onto (take size list) to)

-- how many entries that copies
abbrev pub copied_size : (size : ℕ) (list to : List ℕ) → ℕ
copied_size size list to = choose (ltb (length to) (min size (length list))) 0 (min size (length list))

-- the digit that a sign is, 10 where it is none
abbrev pub digit_of : (sign : ℕ) → ℕ
digit_of sign = choose (ltb sign 48) 10 (choose (ltb 57 sign) 10 (sign - 48))

-- a number goes on with a sign that is a digit, while it has at most seventeen digits
abbrev pub goes_on : (value sign : ℕ) → Bool
goes_on value sign = choose (ltb 9 (digit_of sign)) false (ltb value 100000000000000000)

-- the number whose last digits begin a text, from what those before them say
unfoldable pub value_on : (value : ℕ) (text : List ℕ) → ℕ
value_on value [] = value
value_on value (sign ∷ more) = choose (goes_on value sign) (value_on (value * 10 + digit_of sign) more) value

-- how many digits those are
unfoldable pub digits_on : (value : ℕ) (text : List ℕ) → ℕ
digits_on value [] = 0
digits_on value (sign ∷ more) = choose (goes_on value sign) (suc (digits_on (value * 10 + digit_of sign) more)) 0

-- how many signs of a text stand before its first digit: all of them where there is none
unfoldable pub first_digit : (text : List ℕ) → ℕ
first_digit [] = 0
first_digit (first ∷ more) = choose (ltb (digit_of first) 10) 0 (suc (first_digit more))

-- how often an entry stands that such a text follows: as often as an x (120) and a number after it say, or else once
abbrev pub times_of : (text : List ℕ) → ℕ
times_of [] = 1
times_of (first ∷ more) = choose (eqb first 120) (value_on 0 more) 1

-- how many signs say so
abbrev pub times_size : (text : List ℕ) → ℕ
times_size [] = 0
times_size (first ∷ more) = choose (eqb first 120) (suc (digits_on 0 more)) 0

-- a text from its first digit on
abbrev pub from_digit : (text : List ℕ) → List ℕ
from_digit text = drop (first_digit text) text

-- what follows the first number of a text
abbrev pub past_number : (text : List ℕ) → List ℕ
past_number text = drop (digits_on 0 (from_digit text)) (from_digit text)

-- the number of the first entry of a text, 0 where it has no entry
unfoldable pub entry_number : (text : List ℕ) → ℕ
entry_number text = value_on 0 (from_digit text)

-- how often that entry stands there: no time where there is none
unfoldable pub entry_times : (text : List ℕ) → ℕ
entry_times text = choose (ltb (first_digit text) (length text)) (times_of (past_number text)) 0

-- how many signs of the text stand before the place after that entry: all of them where there is none
unfoldable pub entry_size : (text : List ℕ) → ℕ
entry_size text = first_digit text + digits_on 0 (from_digit text) + times_size (past_number text)

-- the number at a place of the list of numbers that a text is, from so many entries of it at most; 0 past their end
unfoldable pub number_among : (most place : ℕ) (text : List ℕ) → ℕ
number_among zero place text = 0
number_among (suc most) place text =
    choose (ltb place (entry_times text)) (entry_number text)
    (number_among most (place - entry_times text) (drop (entry_size text) text))

-- the same from all of it, which has no more entries than signs
abbrev pub number_at : (place : ℕ) (text : List ℕ) → ℕ
number_at place text = number_among (length text) place text

-- the numbers of a case stand after its name (up to the : that is sign 58) and before the first | (124)
abbrev pub number_words : (case : List ℕ) → List ℕ
number_words case = before_first 124 (after_first 58 case)

-- so many numbers of a text from a place on, in their order, and 0 after the last
unfoldable pub numbers_from : (count place : ℕ) (text : List ℕ) → List ℕ
numbers_from zero place text = []
numbers_from (suc count) place text = number_at place text ∷ numbers_from count (suc place) text

-- the first numbers of a case, so many
abbrev pub numbers_in : (count : ℕ) (case : List ℕ) → List ℕ
numbers_in count case = numbers_from count 0 (number_words case)

-- how many entries a case says that its lent output is to have, after a > (62)
abbrev pub room_of : (case : List ℕ) → ℕ
room_of case = number_at 0 (after_first 62 case)

-- the entries that a text names, from so many of it at most: each number as a byte, as often as it stands there
unfoldable pub entries_among : (most : ℕ) (text : List ℕ) → List ℕ
entries_among zero text = []
entries_among (suc most) text =
    replicate (entry_times text) (entry_number text % 256) ++ entries_among most (drop (entry_size text) text)

-- the same from all of it
abbrev pub entries_of : (text : List ℕ) → List ℕ
entries_of text = entries_among (length text) text

-- a list with entries written over it from a place on: what has no room is left out, and the rest stays as it was
unfoldable pub written : (from : ℕ) (entries list : List ℕ) → List ℕ
written from entries [] = []
written (suc from) entries (first ∷ list) = first ∷ written from entries list
written zero [] (first ∷ list) = first ∷ list
written zero (entry ∷ entries) (first ∷ list) = entry ∷ written zero entries list

-- the place after the last of them
abbrev pub written_to : (from : ℕ) (entries list : List ℕ) → ℕ
written_to from entries list = min (from + length entries) (length list)

-- a list after so many turns from a place on: each writes there what stands so many places before, and goes on by one
unfoldable pub gone_over : (turns at back : ℕ) (list : List ℕ) → List ℕ
gone_over zero at back list = list
gone_over (suc turns) at back list = gone_over turns (at + 1) back (set list at (get_or list (at - back) 0))

-- a list whose first entries, so many, are repeated until there are so many, as far as it has room
abbrev pub repeated : (size most : ℕ) (list : List ℕ) → List ℕ
repeated size most list = gone_over (min most (length list) - size) size size list

-- how many there are then
abbrev pub repeated_to : (size most : ℕ) (list : List ℕ) → ℕ
repeated_to size most list = max size (min most (length list))

-- what a text says of a list before its first | (124) and its first > (62)
abbrev pub own_of : (text : List ℕ) → List ℕ
own_of text = before_first 62 (before_first 124 text)

-- a lent list that the entries of a text, which stand before the first . (46), are written over
abbrev pub first_entries : (text lent : List ℕ) → List ℕ
first_entries text lent = written 0 (entries_of (before_first 46 (own_of text))) lent

-- how many those are
abbrev pub first_size : (text lent : List ℕ) → ℕ
first_size text lent = written_to 0 (entries_of (before_first 46 (own_of text))) lent

-- how many entries a text says that its list has, after the .
abbrev pub most_of : (text : List ℕ) → ℕ
most_of text = number_at 0 (after_first 46 (own_of text))

-- a lent list that the list at the start of a text is written over
abbrev pub listed : (text lent : List ℕ) → List ℕ
listed text lent = repeated (first_size text lent) (most_of text) (first_entries text lent)

-- how many entries that list has
abbrev pub listed_size : (text lent : List ℕ) → ℕ
listed_size text lent = repeated_to (first_size text lent) (most_of text) (first_entries text lent)

-- the same, but for the word `out`, which begins with an o (111): another list, and the entries after the word
abbrev pub listed_or_out : (text out : List ℕ) (size : ℕ) (lent : List ℕ) → List ℕ
listed_or_out text out size lent =
    choose (eqb (get_or text 1 32) 111)
    (written (copied_size size out lent) (entries_of (own_of text)) (copied_onto size out lent)) (listed text lent)

-- how many entries that list has
abbrev pub listed_or_out_size : (text out : List ℕ) (size : ℕ) (lent : List ℕ) → ℕ
listed_or_out_size text out size lent =
    choose (eqb (get_or text 1 32) 111)
    (written_to (copied_size size out lent) (entries_of (own_of text)) (copied_onto size out lent))
    (listed_size text lent)

-- the words of a case stand after the first space (32) after the : (58)
abbrev pub words_of : (case : List ℕ) → List ℕ
words_of case = after_first 32 (after_first 58 case)

-- the name of a case's operation is the first of them, if another follows: empty where none does
abbrev pub operation_in : (case : List ℕ) → List ℕ
operation_in case =
    choose (ltb (suc (first_of 32 (words_of case))) (length (words_of case))) (before_first 32 (words_of case)) []
