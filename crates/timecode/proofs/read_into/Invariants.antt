-- `read_into` meets its contract: the times listed and those still to come are all times.
use Rattle.timecode.specs.Carried.{words_from}
use Rattle.timecode.proofs.Lists.{Listing}
use Rattle.timecode.proofs.read_into.Given as goal

abbrev pub invariant-loop-at : goal.invariant-loop-at
invariant-loop-at l =
    Listing l.bits.list.now l.initial.out l.out l.words (words_from l.at-iterator.bits.list.now l.at-iterator.from)
