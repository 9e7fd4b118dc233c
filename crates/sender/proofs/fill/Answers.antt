-- `fill` meets its contract: the cycles before the place reached have the level.
use Rattle.std.proofs.Common.{◌≡◌, ◌++◌, length, replicate, drop, refl, ap, ◌∙◌, set, arith}
use lib.ListN.{drop_of_length-le}
use mathlib.Core.List.{append-nil}
use Rattle.std.proofs.lemmas.List.Edits.{fill_more}
use Rattle.sender.proofs.fill.Goals as goal

pub loop-cycle-init : goal.loop-cycle-init
loop-cycle-init c = refl

pub loop-cycle-preserved : goal.loop-cycle-preserved
loop-cycle-preserved c =
    ap (λ xs. set xs c.loop-cycle.cycle-index c.args.level) c.loop-cycle.invariant
    ∙ fill_more c.loop-cycle.cycle-index c.args.level c.args.part.now c.loop-cycle-test.true

pub returns : goal.returns
returns c =
    let part = c.args.part.now in
    let end : c.loop-cycle.cycle-index ≡ length part = omega arith in
    c.loop-cycle.invariant ∙ ap (λ n. replicate n c.args.level ++ drop n part) end
    ∙ rw (drop_of_length-le part {i = length part} (omega arith), append-nil)
