-- `stands_at` meets its contract: it is known how many of the bits compared so far are the mark's, and the rest is
-- still to be compared.
use mathlib.Core.Path.{sym, ◌∙◌}
use Prim.Native.Nat.{◌+◌}
use native.Mathlib.Omega.{arith}
use lib.Seq.{drop-drop}
use Rattle.timecode.proofs.Search.{comparing_none, comparing_same, comparing_other, comparing_all}
use Rattle.timecode.proofs.Search.{window_at, window_size}
use Rattle.timecode.proofs.Bits.stands_at.Goals as goal
use Rattle.timecode.proofs.Bits.stands_at.Goals.{then-self-from, else-self-from}

pub overflow_add-from : goal.overflow_add-from
overflow_add-from c = omega (arith, c.requires)

pub loop-i-init : goal.loop-i-init
loop-i-init c = comparing_none _

pub overflow_add-from-in-loop-i : goal.overflow_add-from-in-loop-i
overflow_add-from-in-loop-i c = omega (arith, c.requires)

pub bounds-self-from : goal.bounds-self-from
bounds-self-from c = omega (arith, c.requires)

pub overflow_add-n : goal.overflow_add-n
overflow_add-n c = omega (arith, c.loop-i.invariant.few)

pub loop-i-preserved : goal.loop-i-preserved
loop-i-preserved c =
    let at-loop = c.loop-i in
    let bits = c.args.self.list.now in
    let at = c.args.at in
    let taken = c.loop-i-test.true in
    let size = window_size bits at c.requires in
    let here = window_at bits (at + 64) at-loop.i taken in
    elim c.if-self-from.branch [
      | then-self-from w ↦ rw w.n-is (comparing_same at-loop.invariant taken size (here ∙ w.if-self-from.true))
      | else-self-from w ↦ rw w.n-is (comparing_other at-loop.invariant taken size (λ e. w.if-self-from.false (sym here ∙ e)))
    ]

pub returns : goal.returns
returns c =
    let bits = c.args.self.list.now in
    let at = c.args.at in
    rw (drop-drop 64 at bits)
    (comparing_all c.loop-i.invariant c.loop-i-test.false (window_size bits at c.requires))
