-- `next_word` meets its contract: no word is left, or one stands here, or the walk finds the next.
use Rattle.std.proofs.Common.{◌∙◌, sym, arith}
use Rattle.timecode.proofs.Search.{none_left, word_here}
use Rattle.timecode.proofs.Bits.next_word.Goals as goal

pub returns-then-self-from : goal.returns-then-self-from
returns-then-self-from c = none_left _ _ c.if-self-from.true

pub returns-then-stands_at : goal.returns-then-stands_at
returns-then-stands_at c =
    word_here c.args.self.list.now c.args.from (omega arith) (sym c.stands_at.ensures ∙ c.if-stands_at.true)
