-- `over_again` meets its contract: what going over the rest gives stays the same.
use Rattle.std.proofs.Common.{◌-◌, ◌≡◌, length}
use Rattle.cases.specs.Reading.{gone_over, repeated}
use Rattle.cases.proofs.reading.over_again.Given as goal

abbrev pub invariant-loop-at : goal.invariant-loop-at
invariant-loop-at l =
    (length l.list ≡ length l.initial.list)
    × (gone_over (l.end - l.at) l.at l.size l.list ≡ repeated l.size l.most l.initial.list)
