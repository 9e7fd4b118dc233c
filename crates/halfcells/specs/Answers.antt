-- Rules W and R: what encoding and decoding answer and leave in the lent output, for all input, and what each case of
-- the code says.
use Rattle.std.specs.Prelude.{ℕ, ◌*◌, Bool, List, length, ltb, Result}
use Rattle.measure.specs.Choose.{choose}
use Rattle.measure.specs.Ranges.{words_most}
use Rattle.measure.specs.Refusals.{Answer, refused, says, limited, lent}
use Rattle.measure.specs.declared.Refusal.{Refusal}
use Rattle.halfcells.specs.HalfCells.{words_of, first_no_edge, bytes_of}

-- R70: encoding: refusal 3 for more than 128 bytes, then 4; no setting is taken, and each byte is good
unfoldable pub encoded : (bytes output : List ℕ) → Answer ℕ × List ℕ
encoded bytes output = limited words_most (length bytes) output (lent (words_of bytes) output)

-- R11: some cell has no edge at its start
abbrev pub some_no_edge : (words : List ℕ) → Bool
some_no_edge words = ltb (first_no_edge words) (8 * length words)

-- R11: 11: where a cell has no edge at its start, with the place of the first such cell
abbrev pub edged : (words output : List ℕ) (rest : Answer ℕ × List ℕ) → Answer ℕ × List ℕ
edged words output rest = choose (some_no_edge words) (refused 11 (first_no_edge words), output) rest

-- R71: decoding: refusal 3 for more than 128 words, 11 for a cell with no edge at its start, then 4
unfoldable pub decoded : (words output : List ℕ) → Answer ℕ × List ℕ
decoded words output =
    limited words_most (length words) output
    (edged words output
    (lent (bytes_of words) output))

-- A8: what each case of the code's answers says
abbrev pub encoded_says : Result ℕ Refusal → Answer ℕ
encoded_says answer = says (λ count. count) answer

-- A8
abbrev pub decoded_says : Result ℕ Refusal → Answer ℕ
decoded_says answer = says (λ count. count) answer
