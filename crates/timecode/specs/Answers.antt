-- Rules T and R: what reading and writing answer and leave in the lent output, for all input, and what each case of the
-- code says.
use Rattle.std.specs.Prelude.{ℕ, suc, ◌*◌, List, [], ◌∷◌, ◌++◌, length, drop, ltb, Result, Ok, Err}
use Rattle.measure.specs.Choose.{choose}
use Rattle.measure.specs.Ranges.{entries_most}
use Rattle.measure.specs.Lists.{onto}
use Rattle.measure.specs.Refusals.{Answer, given, refused, refused_after, denied, says, ranged, limited, entered, lent}
use Rattle.timecode.specs.Words.{word_places}
use Rattle.timecode.specs.Times.{time_of, time_fits, good_word, word_of}
use Rattle.measure.specs.declared.Refusal.{Refusal}
use Rattle.timecode.specs.declared.Stop.{Stop}
use Rattle.timecode.specs.declared.Stop.TheVariants.{BadWord, Refused}

-- T7: the times of the words at these places, up to, and without, the first bad one
unfoldable pub times_at : (bits at : List ℕ) → List ℕ
times_at bits [] = []
times_at bits (place ∷ at) =
    choose (good_word (drop place bits)) (time_of (drop place bits) ++ times_at bits at) []

-- T7, R10: how many they are after `before` others; a bad word is refusal 10, with its place and how many come before
unfoldable pub listed : (bits at : List ℕ) (before : ℕ) → Answer ℕ
listed bits [] before = given before
listed bits (place ∷ at) before =
    choose (good_word (drop place bits)) (listed bits at (suc before)) (refused_after 10 place before)

-- T7, R35: the times stand at the output's front, with refusal 10 too
abbrev pub listed_into : (bits output : List ℕ) → Answer ℕ × List ℕ
listed_into bits output = (listed bits (word_places bits) 0, onto (times_at bits (word_places bits)) output)

-- R77: Refusal 3 for a list of bits over its limit, 2 for an entry that is no bit, 4 for an output with less room than
-- four bytes for each word found, then 10.
unfoldable pub read_times : (bits output : List ℕ) → Answer ℕ × List ℕ
read_times bits output =
    limited entries_most (length bits) output
    (entered 1 bits output
    (choose (ltb (length output) (4 * length (word_places bits))) (refused 4 0, output)
    (listed_into bits output)))

-- A8: what each case of the reader's answer says
abbrev pub read_says : Result ℕ Stop → Answer ℕ
read_says (Ok words) = given words
read_says (Err (BadWord place words)) = refused_after 10 place words
read_says (Err (Refused refusal)) = denied refusal

-- R78: refusal 1 for a time out of range, then 4
unfoldable pub write_time : (h m s f : ℕ) (output : List ℕ) → Answer ℕ × List ℕ
write_time h m s f output = ranged (time_fits h m s f) output (lent (word_of h m s f) output)

-- A8: what each case of the writer's answer says
abbrev pub written_says : Result ℕ Refusal → Answer ℕ
written_says answer = says (λ bits. bits) answer
