-- `byte_of` meets its contract: its steps are those of the law for a whole word, and no sum passes what its mask left.
use mathlib.Core.Path.{◌∙◌, ap}
use Prim.Native.Nat.{ℕ, ◌+◌, ◌/◌, ◌%◌}
use native.Mathlib.Omega.{arith}
use borrow.Author.Rules.{rules}
use lib.Bits.{bit_and, and_le_r}
use Rattle.halfcells.proofs.ReadWhole.{pairs_of, fours_of, word_eight}
use Rattle.halfcells.proofs.byte_of.Goals as goal

pub overflow_add-pairs : goal.overflow_add-pairs
overflow_add-pairs c = record { fits = omega (arith, and_le_r c.turns-ones.result 0x5555) }

pub overflow_add-fours : goal.overflow_add-fours
overflow_add-fours c =
    let ones = bit_and c.turns-ones.result 0x5555 in
    record { fits = omega (arith, and_le_r (ones + ones / 2) 0x3333) }

pub overflow_add-eight : goal.overflow_add-eight
overflow_add-eight c =
    let ones = bit_and c.turns-ones.result 0x5555 in
    let pairs = pairs_of ones 0x3333 in
    record { fits = omega (arith, and_le_r (pairs + pairs / 4) 0x0f0f) }

pub returns : goal.returns
returns c =
    ap (λ (x : ℕ). let fours = fours_of (pairs_of (bit_and x 0x5555) 0x3333) 0x0f0f in (fours + fours / 16) % 256)
    c.turns-ones.ensures
    ∙ word_eight c.args.word (search rules)
