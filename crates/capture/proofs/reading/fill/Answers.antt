-- `fill` meets its contract: the entries before the place reached are the level.
use Rattle.std.proofs.Common.{◌≡◌, ◌++◌, length, replicate, drop, refl, ap, ◌∙◌, set, arith}
use lib.ListN.{drop_of_length-le}
use mathlib.Core.List.{append-nil}
use Rattle.std.proofs.lemmas.List.Edits.{fill_more}
use Rattle.capture.proofs.reading.fill.Goals as goal

pub loop-entry-init : goal.loop-entry-init
loop-entry-init c = refl

pub loop-entry-preserved : goal.loop-entry-preserved
loop-entry-preserved c =
    ap (λ xs. set xs c.loop-entry.entry-index c.args.level) c.loop-entry.invariant
    ∙ fill_more c.loop-entry.entry-index c.args.level c.args.entries.now c.loop-entry-test.true

pub returns : goal.returns
returns c =
    let entries = c.args.entries.now in
    let end : c.loop-entry.entry-index ≡ length entries = omega arith in
    c.loop-entry.invariant ∙ ap (λ n. replicate n c.args.level ++ drop n entries) end
    ∙ rw (drop_of_length-le entries {i = length entries} (omega arith), append-nil)
