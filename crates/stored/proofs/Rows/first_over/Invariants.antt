-- `Rows::first_over` meets its contract: where no row so far is over, the first that is is among those left.
use Rattle.std.proofs.Common.{◌≡◌, ◌+◌, length}
use Rattle.std.specs.Iterator.Adapters.{enumerate_source, enumerate_count, zip_first, zip_second}
use Rattle.std.specs.Slice.Iter.{iter_rest}
use Rattle.measure.specs.Lists.{first_above}
use Rattle.measure.specs.Ranges.{pad_most}
use Rattle.stored.specs.Stored.{joined_leads, joined}
use Rattle.stored.proofs.Over.{Bounded}
use Rattle.stored.proofs.Rows.first_over.Given as goal

abbrev pub invariant-loop-row : goal.invariant-loop-row
invariant-loop-row l =
    let row = enumerate_count l.row-iterator in
    let leads = iter_rest (zip_first (enumerate_source l.row-iterator)) in
    let trails = iter_rest (zip_second (enumerate_source l.row-iterator)) in
    Bounded l.before leads trails
    × (row + length leads ≡ length l.self.leads.now)
    × (first_above pad_most (joined l.self.leads.now l.self.trails.now) ≡ row + first_above pad_most (joined_leads l.before leads trails))
