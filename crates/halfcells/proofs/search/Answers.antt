-- `search` meets its contract: each cell of the words so far has an edge, and the search goes on at the level on which
-- they end.
use Rattle.std.proofs.Common.{arith}
use Rattle.halfcells.proofs.ListLaws.{edged_one, edged_found, edged_all}
use Rattle.halfcells.proofs.search.Goals as goal

pub returns-in-Some : goal.returns-in-Some
returns-in-Some c =
    let here = c.in-Some.ensures in
    let found = edged_found c.loop-i.invariant (omega arith) (omega (arith, here)) in
    (omega (arith, here), omega (arith, here, found))

pub loop-i-preserved : goal.loop-i-preserved
loop-i-preserved c = edged_one c.loop-i.invariant (omega arith) (omega (arith, c.in_default.ensures))

pub returns : goal.returns
returns c = edged_all c.loop-i.invariant (omega arith)
