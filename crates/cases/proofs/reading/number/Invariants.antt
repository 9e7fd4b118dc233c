-- `number` meets its contract: what the number comes to, and what follows it, stay the same.
use Rattle.std.proofs.Common.{◌≡◌, length, drop}
use Rattle.cases.specs.Reading.{value_on, digits_on}
use Rattle.cases.proofs.reading.number.Given as goal

abbrev pub invariant-loop-sign : goal.invariant-loop-sign
invariant-loop-sign l =
    (value_on l.value l.rest ≡ value_on 0 l.text)
    × (drop (digits_on l.value l.rest) l.rest ≡ drop (digits_on 0 l.text) l.text)

abbrev pub decreases-loop-sign : goal.decreases-loop-sign
decreases-loop-sign l = length l.rest
