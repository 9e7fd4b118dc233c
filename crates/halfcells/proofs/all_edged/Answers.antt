-- `all_edged` meets its contract: while nothing is missing, each cell of the words so far has an edge.
use Rattle.std.proofs.Common.{◌≡◌, ℕ, arith, eqb-true, bit_or}
use lib.Bits.{or_add_and, and_le_l, and_le_r}
use Rattle.halfcells.proofs.ListLaws.{edged_one, edged_all}
use Rattle.halfcells.proofs.all_edged.Goals as goal

-- what two numbers have together is nothing only where both have nothing
neither : (a b : ℕ) → bit_or a b ≡ 0 → (a ≡ 0) × (b ≡ 0)
neither a b e =
    let sum = or_add_and a b in
    let one = and_le_l a b in
    let other = and_le_r a b in
    (omega arith, omega arith)

pub loop-word-preserved : goal.loop-word-preserved
loop-word-preserved c = (
  omega arith,
  λ e.
      let none = neither c.loop-word.missing c.edgeless-missing.result e in
      edged_one (c.loop-word.invariant.1 none.0) (omega arith) (omega (arith, c.edgeless-missing.ensures none.1)),
)

pub returns : goal.returns
returns c = λ e. edged_all (c.loop-word.invariant.1 (eqb-true _ _ e)) (omega arith)
