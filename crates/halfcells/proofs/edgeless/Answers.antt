-- `edgeless` meets its contract: where the mask leaves every mark, each cell has an edge.
use mathlib.Core.Path.{◌≡◌, sym, ap, ◌∙◌}
use Prim.Native.Nat.{ℕ}
use native.Mathlib.Omega.{arith}
use borrow.Author.Rules.{rules}
use lib.Bits.{bit_and, and_le_r}
use Rattle.halfcells.proofs.ReadWhole.{word_edged}
use Rattle.halfcells.proofs.edgeless.Goals as goal

pub overflow_sub-result : goal.overflow_sub-result
overflow_sub-result c = and_le_r c.turns.result 0xaaaa

pub returns : goal.returns
returns c = λ e.
    let kept : bit_and c.turns.result 0xaaaa ≡ 0xaaaa = omega (arith, e, and_le_r c.turns.result 0xaaaa) in
    word_edged c.args.before c.args.word c.requires (search rules)
    (ap (λ (x : ℕ). bit_and x 0xaaaa) (sym c.turns.ensures) ∙ kept)
