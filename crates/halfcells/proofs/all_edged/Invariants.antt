-- `all_edged` meets its contract: while nothing is missing, each cell of the words so far has an edge.
use Rattle.std.proofs.Common.{◌≡◌, ◌≤◌}
use Rattle.halfcells.proofs.ListLaws.{Edged}
use Rattle.halfcells.proofs.all_edged.Given as goal

abbrev pub invariant-loop-word : goal.invariant-loop-word
invariant-loop-word l = (l.before ≤ 1) × (l.missing ≡ 0 → Edged l.words l.word-index l.before)
