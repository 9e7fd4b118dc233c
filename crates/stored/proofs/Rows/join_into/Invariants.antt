-- `Rows::join_into` meets its contract: each turn writes the next of the joined lead pads, and the trail pad goes on to the
-- next turn.
use Rattle.std.proofs.Common.{◌≡◌, ◌+◌, length}
use Rattle.std.specs.Iterator.Adapters.{enumerate_source, enumerate_count, zip_first, zip_second}
use Rattle.std.specs.Slice.Iter.{iter_rest}
use Rattle.measure.proofs.Wrote.{Wrote}
use Rattle.stored.specs.Stored.{joined_leads, joined, last_trail, dropped}
use Rattle.stored.proofs.Over.{Bounded}
use Rattle.stored.proofs.Rows.join_into.Given as goal

abbrev pub invariant-loop-row : goal.invariant-loop-row
invariant-loop-row l =
    let row = enumerate_count l.row-iterator in
    let leads = iter_rest (zip_first (enumerate_source l.row-iterator)) in
    let trails = iter_rest (zip_second (enumerate_source l.row-iterator)) in
    Bounded l.before leads trails
    × (row + length leads ≡ length l.self.leads.now)
    × Wrote (joined l.self.leads.now l.self.trails.now) l.initial.out l.out (joined_leads l.before leads trails) row
    × (dropped l.self.trails.now ≡ last_trail l.before trails)
