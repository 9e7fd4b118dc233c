-- `search` meets its contract: each cell of the words so far has an edge, and the search goes on at the level on which
-- they end.
use Rattle.halfcells.proofs.ListLaws.{Edged}
use Rattle.halfcells.proofs.search.Given as goal

abbrev pub invariant-loop-i : goal.invariant-loop-i
invariant-loop-i l = Edged l.words l.i l.before
