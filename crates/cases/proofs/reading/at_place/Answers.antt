-- `at_place` meets its contract: the number stands in this entry, or is still to be found after it.
use Rattle.std.proofs.Common.{◌∙◌}
use Rattle.cases.proofs.Entries.{entry_less, among_all, among_here, among_on, among_none}
use Rattle.cases.proofs.reading.at_place.Goals as goal

pub loop-entry-init : goal.loop-entry-init
loop-entry-init c = among_all c.args.place c.args.text.now

pub returns-then-left-entry : goal.returns-then-left-entry
returns-then-left-entry c =
    let e = c.in-Some.ensures in
    e.1 ∙ among_here c.loop-entry.invariant e.0 (rw e.2 at c.if-left-entry.true)

pub loop-entry-smaller : goal.loop-entry-smaller
loop-entry-smaller c = entry_less _ _ c.in-Some.ensures.0 c.in-Some.ensures.3

pub loop-entry-preserved : goal.loop-entry-preserved
loop-entry-preserved c =
    let e = c.in-Some.ensures in
    rw e.2 (among_on c.loop-entry.invariant e.0 _ (rw e.2 at c.if-left-entry.false) e.3)

pub returns : goal.returns
returns c = among_none c.loop-entry.invariant c.in_default.ensures
