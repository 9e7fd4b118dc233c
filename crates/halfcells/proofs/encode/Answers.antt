-- `encode` meets its contract: each test that led to a return is one of the definition's, in its order.
use borrow.Author.Tests.{lt-ltb, le-ltb}
use Rattle.halfcells.specs.Answers.{encoded}
use Rattle.halfcells.proofs.ListLaws.{length_words}
use Rattle.halfcells.proofs.encode.Goals as goal

pub returns-then-bytes-gt-WORDS_MOST : goal.returns-then-bytes-gt-WORDS_MOST
unfolding encoded
returns-then-bytes-gt-WORDS_MOST c = simp (lt-ltb _ _ c.if-bytes-gt-WORDS_MOST.true)

pub returns-then-out-bytes : goal.returns-then-out-bytes
unfolding encoded
returns-then-out-bytes c =
    simp (le-ltb _ _ c.if-bytes-gt-WORDS_MOST.false, length_words, lt-ltb _ _ c.if-out-bytes.true)

pub returns : goal.returns
unfolding encoded
returns c =
    simp (
      le-ltb _ _ c.if-bytes-gt-WORDS_MOST.false,
      length_words,
      le-ltb _ _ c.if-out-bytes.false,
      ← c.encode_into.ensures,
    )
