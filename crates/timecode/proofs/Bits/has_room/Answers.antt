-- `has_room` meets its contract: there are no more words than the bits have room for, and otherwise they are counted.
use Rattle.std.proofs.Common.{◌*◌, length, sym, arith, inl}
use borrow.Author.Tests.{le-leb}
use Rattle.timecode.specs.Words.{word_places}
use Rattle.timecode.proofs.Search.{few_words}
use Rattle.timecode.proofs.Bits.has_room.Goals as goal

pub returns-then-most-room : goal.returns-then-most-room
returns-then-most-room c =
    let bits = c.args.self.list.now in
    let few = few_words 0 0 bits (omega arith) in
    sym (le-leb (4 * length (word_places bits)) c.args.room (omega (arith, few, c.if-most-room.true)))

pub count-words-requires-clause-fits : goal.count-words-requires-clause-fits
count-words-requires-clause-fits c =
    inl (rw (c.words.ensures.0, c.words.ensures.1) (omega (arith, few_words 0 0 c.args.self.list.now (omega arith), c.args.self.short)))

pub overflow_mul-result : goal.overflow_mul-result
overflow_mul-result c =
    let most = rw (c.words.ensures.0, c.words.ensures.1) at c.count-words.ensures.bound in
    omega (arith, most, few_words 0 0 c.args.self.list.now (omega arith), c.args.self.short)
