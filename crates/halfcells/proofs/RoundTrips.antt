-- The round trips of the operations: what one gave, the other takes and gives back.
use Prim.Native.Nat.{ℕ, ◌≤◌}
use mathlib.Core.Path.{◌≡◌, sym, ap, ◌∙◌}
use mathlib.Core.List.{List}
use mathlib.Core.Bool.{false}
use native.Mathlib.Omega.{arith}
use borrow.Author.Tests.{le-ltb, ltb-false}
use lib.Dec.{ltb}
use lib.ListN.{length, take, drop}
use lib.Seq.{take_at}
use Rattle.measure.specs.Lists.{onto}
use Rattle.measure.specs.Ranges.{words_most}
use Rattle.measure.specs.Refusals.{Answer, given, lent}
use Rattle.measure.proofs.Given.{failed}
use Rattle.halfcells.specs.HalfCells.{words_of, first_no_edge, bytes_of}
use Rattle.halfcells.specs.Answers.{encoded, some_no_edge, decoded}
use Rattle.halfcells.specs.Shown.{EncodedDecodes, DecodedEncodes}
use Rattle.halfcells.proofs.ListLaws.{length_words, length_bytes}
use Rattle.halfcells.proofs.Shown.{words_give_back, bytes_give_back}

-- what was laid on the front of an output is what stands there
laid_front : (result out out' : List ℕ) (count : ℕ) → lent result out ≡ (given count, out') → take count out' ≡ result
laid_front result out out' count e =
    let done = failed 4 0 out out' count (ltb (length out) (length result)) _ e in
    let f : given (length result) ≡ given count = ap (λ (p : Answer ℕ × List ℕ). p.0) done.1 in
    let size : length result ≡ count = cc in
    ap (take count) (sym (ap (λ (p : Answer ℕ × List ℕ). p.1) done.1))
    ∙ take_at result (drop (length result) out) count size

-- where no test fails, the result is laid down
encode_whole : (bytes room : List ℕ) → length bytes ≤ words_most → length bytes ≤ length room
    → encoded bytes room ≡ (given (length bytes), onto (words_of bytes) room)
unfolding encoded
encode_whole bytes room few h =
    rw (le-ltb words_most (length bytes) few, length_words 1 bytes, le-ltb (length room) (length bytes) h)

decode_whole : (words room : List ℕ) → length words ≤ words_most → some_no_edge words ≡ false
    → length words ≤ length room
    → decoded words room ≡ (given (length words), onto (bytes_of words) room)
unfolding decoded
decode_whole words room few edges h =
    rw (le-ltb words_most (length words) few, edges, length_bytes words, le-ltb (length room) (length words) h)

pub encoded_decodes : EncodedDecodes
unfolding encoded
encoded_decodes bytes out out' room count all e h =
    let few = failed 3 0 out out' count (ltb words_most (length bytes)) _ e in
    let front = laid_front (words_of bytes) out out' count few.1 in
    let back = words_give_back bytes all in
    let size = length_words 1 bytes in
    ap (λ (l : List ℕ). decoded l room) front
    ∙ decode_whole (words_of bytes) room (omega (arith, size, ltb-false words_most (length bytes) few.0)) back.0
    (omega (arith, size))
    ∙ rw (back.1, size)

pub decoded_encodes : DecodedEncodes
unfolding decoded
decoded_encodes words out out' room count all e h =
    let few = failed 3 0 out out' count (ltb words_most (length words)) _ e in
    let edges = failed 11 (first_no_edge words) out out' count (some_no_edge words) _ few.1 in
    let front = laid_front (bytes_of words) out out' count edges.1 in
    let back = bytes_give_back words all edges.0 in
    let size = length_bytes words in
    ap (λ (l : List ℕ). encoded l room) front
    ∙ encode_whole (bytes_of words) room (omega (arith, size, ltb-false words_most (length words) few.0))
    (omega (arith, size))
    ∙ rw (back, size)
