-- `Table::word` meets its contract: the entry is the rule at each byte, and the one test is the definition's.
use Rattle.std.proofs.Common.{◌≡◌, ◌≤◌, ◌∙◌, ap, List, ℕ, get_or, rules, eq-eqb, ne_eqb}
use Rattle.halfcells.specs.HalfCells.{high_word}
use Rattle.halfcells.specs.Words.{words}
use Rattle.halfcells.proofs.TableHolds.{table_is_the_rule}
use Rattle.halfcells.proofs.table.Table.word.Goals as goal

entry : (high : List ℕ) (byte : ℕ) → high ≡ words → byte ≤ 255 → get_or high byte 0 ≡ high_word byte
entry high byte e h = ap (λ (l : List ℕ). get_or l byte 0) e ∙ table_is_the_rule byte h

pub returns-then-level-eq-HIGH : goal.returns-then-level-eq-HIGH
returns-then-level-eq-HIGH c =
    simp (eq-eqb _ _ c.if-level-eq-HIGH.true, c.from.ensures)
    (entry c.args.self.high.now c.args.byte c.args.self.is_the_table (search rules))

pub returns-else-level-eq-HIGH : goal.returns-else-level-eq-HIGH
returns-else-level-eq-HIGH c =
    simp (
      ne_eqb _ _ c.if-level-eq-HIGH.false,
      c.from.ensures,
      ← entry c.args.self.high.now c.args.byte c.args.self.is_the_table (search rules),
    )
