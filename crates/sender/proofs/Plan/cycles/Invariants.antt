-- `Plan::cycles` meets its contract: each turn adds a row's cycles, and no sum passes 1,024 rows of the longest.
use Rattle.std.proofs.Common.{◌≡◌, ◌+◌, ◌*◌, ◌≤◌, drop}
use Rattle.sender.proofs.Plans.{total}
use Rattle.sender.proofs.Plan.cycles.Given as goal

abbrev pub invariant-loop-lead : goal.invariant-loop-lead
invariant-loop-lead l =
    (l.cycles ≤ l.lead-index * 587775)
    × (l.cycles + total (drop l.lead-index l.self.leads.now)
    ≡ l.lead-index * (l.self.n * (l.self.cell.a.0 + l.self.cell.b.0)) + total l.self.leads.now)
