-- `pick` meets its contract: out of range it refuses, M1's sign settles a case of the definition, and the greater of two
-- least margins, of which the first is M2, says which count is the best.
use Rattle.std.proofs.Common.{◌+◌, sym, ◌∙◌, refl, arith}
use Rattle.measure.proofs.Both.{ends_range}
use Rattle.settings.specs.Margins.{ends_of}
use Rattle.settings.specs.Pick.{out_of_range, none}
use Rattle.settings.proofs.InRange.{turned_away, apart_from_k, pick_fits}
use Rattle.settings.proofs.PickHolds.{none_with_m1, best_fits}
use Rattle.settings.proofs.Signs.{read_back, below_zero, not_below_zero}
use Rattle.settings.proofs.picking.pick.Goals as goal

pub returns-in_err-settings : goal.returns-in_err-settings
returns-in_err-settings c =
    let p = c.args.pair in
    let out =
    turned_away (λ k. k.0) _ _ c.from_residual.result c.in_err-settings.was c.checked.ensures.err c.from_residual.ensures.1 in
    rw out.1 (out_of_range (sym (apart_from_k p.a.0 p.b.0 p.g.0 1 (ends_of c.args.clocks) refl) ∙ out.0))

pub returns-then-m1-lt0 : goal.returns-then-m1-lt0
returns-then-m1-lt0 c =
    let s = c.in_ok-settings.settings in
    let is = c.in_ok-settings.ensures.ok in
    let test = below_zero c.m1.result (record { sfits = c.m1.type_inv }) c.if-m1-lt0.true in
    rw (← is.0, ← is.2) (none (pick_fits s) (none_with_m1 _ _ _ _ (rw c.m1.ensures at test)))

pub turning-last-requires : goal.turning-last-requires
turning-last-requires c =
    rw c.m1.ensures at (not_below_zero c.m1.result (record { sfits = c.m1.type_inv }) c.if-m1-lt0.false)

pub second_margin-here-requires : goal.second_margin-here-requires
second_margin-here-requires c =
    let turn = c.turning-last in
    ends_range 1 511 turn.result turn.ensures.first (omega (arith, turn.ensures))

pub least_margin-there-requires : goal.least_margin-there-requires
least_margin-there-requires c =
    let turn = c.turning-last in
    ends_range 1 511 (turn.result + 1) (omega arith) (omega (arith, turn.ensures))

pub returns-then-here-there : goal.returns-then-here-there
returns-then-here-there c =
    let s = c.in_ok-settings.settings in
    let is = c.in_ok-settings.ensures.ok in
    let here = c.second_margin-here in
    let there = c.least_margin-there in
    let order =
    rw (
      read_back here.result here.type_inv,
      read_back there.result there.type_inv,
      here.ensures,
      there.ensures,
      ← c.turning-last.ensures.least_here,
    ) at c.if-here-there.true in
    rw (← is.0, ← is.2, ← rw (read_back there.result there.type_inv, there.ensures) at c.offered.ensures)
    (best_fits _ _ _ _ (pick_fits s) _ (c.turning-last.ensures.next order))

pub returns : goal.returns
returns c =
    let s = c.in_ok-settings.settings in
    let is = c.in_ok-settings.ensures.ok in
    let here = c.second_margin-here in
    let there = c.least_margin-there in
    let order =
    rw (
      read_back here.result here.type_inv,
      read_back there.result there.type_inv,
      here.ensures,
      there.ensures,
      ← c.turning-last.ensures.least_here,
    ) at c.if-here-there.false in
    rw (
      ← is.0,
      ← is.2,
      ← rw (read_back here.result here.type_inv, here.ensures, ← c.turning-last.ensures.least_here) at c.offered-2.ensures,
    )
    (best_fits _ _ _ _ (pick_fits s) _ (c.turning-last.ensures.here order))
