-- `next` meets its contract: a word that is found ends where the bits end, or before.
use Rattle.std.proofs.Common.{arith}
use Rattle.timecode.proofs.Search.{word_whole}
use Rattle.timecode.proofs.WordsIterator.next.Goals as goal

pub overflow_add-self : goal.overflow_add-self
overflow_add-self c =
    omega (arith, word_whole c.args.self.now.bits.list.now c.args.self.now.from _ _ c.args.self.now.within c.in_ok-at.ensures, c.args.self.now.bits.short)

pub invariant_of-self : goal.invariant_of-self
invariant_of-self c = record {
  within = word_whole c.args.self.now.bits.list.now c.args.self.now.from _ _ c.args.self.now.within c.in_ok-at.ensures;
}
