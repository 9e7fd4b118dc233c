-- `decode` meets its contract: each test that led to a return is one of the definition's, in its order.
use Rattle.std.proofs.Common.{◌≡◌, ◌∙◌, List, ℕ, ◌*◌, ◌≤◌, arith, length, lt-ltb, le-ltb}
use Rattle.measure.specs.Ranges.{words_most}
use Rattle.measure.specs.Refusals.{lent}
use Rattle.halfcells.specs.HalfCells.{bytes_of, first_no_edge}
use Rattle.halfcells.specs.Answers.{decoded}
use Rattle.halfcells.proofs.ListLaws.{length_bytes}
use Rattle.halfcells.proofs.decode.Goals as goal

-- past the judging of the words, the answer is that of the lent output
judged : (words out : List ℕ) → length words ≤ words_most → first_no_edge words ≡ 8 * length words
    → decoded words out ≡ lent (bytes_of words) out
unfolding decoded
judged words out few none =
    rw (
      le-ltb words_most (length words) few,
      le-ltb (first_no_edge words) (8 * length words) (omega (arith, none)),
    )

pub returns-then-words-gt-WORDS_MOST : goal.returns-then-words-gt-WORDS_MOST
unfolding decoded
returns-then-words-gt-WORDS_MOST c = simp (lt-ltb _ _ c.if-words-gt-WORDS_MOST.true)

pub returns-in-Some : goal.returns-in-Some
unfolding decoded
returns-in-Some c =
    let cells = 8 * length c.args.words.now in
    simp (
      le-ltb _ _ c.if-words-gt-WORDS_MOST.false,
      ← c.in-Some.ensures.1,
      lt-ltb c.in-Some.cell cells c.in-Some.ensures.0,
    )

pub returns-then-out-words : goal.returns-then-out-words
returns-then-out-words c =
    judged _ _ c.if-words-gt-WORDS_MOST.false c.in_default.ensures
    ∙ simp (length_bytes, lt-ltb _ _ c.if-out-words.true)

pub returns : goal.returns
returns c =
    judged _ _ c.if-words-gt-WORDS_MOST.false c.in_default.ensures
    ∙ simp (length_bytes, le-ltb _ _ c.if-out-words.false, ← c.decode_into.ensures)
