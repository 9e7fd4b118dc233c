-- `number_list` meets its contract: each place before this one has its number.
use Rattle.std.proofs.Common.{◌≡◌, ℕ, ◌<◌, get_or}
use Rattle.cases.specs.Reading.{number_at}
use Rattle.cases.proofs.reading.number_list.Given as goal

abbrev pub invariant-loop-i : goal.invariant-loop-i
invariant-loop-i l = (place : ℕ) → place < l.i → get_or l.list place 0 ≡ number_at place l.text
