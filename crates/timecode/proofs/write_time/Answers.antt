-- `write_time` meets its contract: the tests that led to a return pick the definition's case.
use mathlib.Core.Path.{sym, ◌∙◌}
use borrow.Author.Tests.{lt-ltb}
use Rattle.timecode.specs.Answers.{write_time}
use Rattle.timecode.proofs.NumberBits.{word_length, word_lent}
use Rattle.timecode.proofs.write_time.Goals as goal

pub returns-then-not-in_range : goal.returns-then-not-in_range
unfolding write_time
returns-then-not-in_range c = simp (sym c.in_range.ensures ∙ c.if-not-in_range.true)

pub returns-then-out-lt-WORD : goal.returns-then-out-lt-WORD
unfolding write_time
returns-then-out-lt-WORD c =
    simp (
      sym c.in_range.ensures ∙ c.if-not-in_range.false,
      word_length,
      lt-ltb _ _ c.if-out-lt-WORD.true,
    )

pub write_into-requires : goal.write_into-requires
write_into-requires c =
    (sym c.in_range.ensures ∙ c.if-not-in_range.false, c.if-out-lt-WORD.false)

pub returns : goal.returns
unfolding write_time
returns c =
    rw (sym c.in_range.ensures ∙ c.if-not-in_range.false)
    (word_lent _ _ _ _ _ _ c.if-out-lt-WORD.false c.write_into.ensures)
