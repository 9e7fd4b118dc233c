-- `entries` meets its contract: a turn puts the next entry.
use Rattle.std.proofs.Common.{◌∙◌, ◌%◌, ℕ, ap}
use Rattle.cases.proofs.Entries.{entry_less, putting_none, putting_one, putting_all}
use Rattle.cases.proofs.reading.entries.Goals as goal

pub loop-entry-init : goal.loop-entry-init
loop-entry-init c = putting_none c.args.from c.args.text.now c.args.list.now c.requires

pub loop-entry-smaller : goal.loop-entry-smaller
loop-entry-smaller c = entry_less _ _ c.in-Some.ensures.0 c.in-Some.ensures.3

pub loop-entry-preserved : goal.loop-entry-preserved
loop-entry-preserved c =
    let e = c.in-Some.ensures in
    putting_one c.loop-entry.invariant _ _ _ _ _ e.0 (c.byte.ensures ∙ ap (λ (n : ℕ). n % 256) e.1) e.2 e.3
    c.put-size.ensures.written c.put-size.ensures.next c.put-size.ensures.within c.put-size.auto.list

pub returns-clause-written : goal.returns-clause-written
returns-clause-written c = (putting_all c.loop-entry.invariant c.in_default.ensures).0

pub returns-clause-next : goal.returns-clause-next
returns-clause-next c = (putting_all c.loop-entry.invariant c.in_default.ensures).1
