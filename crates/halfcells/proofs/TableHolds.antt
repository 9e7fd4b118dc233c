-- The table is the rule: one test, computed over all of its entries, and the entry of each byte by it.
use Prim.Native.Nat.{ℕ}
use mathlib.Core.Bool.{Bool}
use native.Mathlib.Omega.{arith}
use lib.Dec.{T, eqb, eqb→eq}
use lib.ListN.{get_or}
use Rattle.sender.specs.Sending.{cells}
use Rattle.halfcells.specs.HalfCells.{bits_of, from_bits, high_word}
use Rattle.halfcells.specs.Words.{words, TableIsTheRule}
use Rattle.halfcells.proofs.Computed.{all_below, each_below}

-- an entry is the word of the byte at whose place it stands
abbrev right : (byte : ℕ) → Bool
right byte = eqb (get_or words byte 0) (high_word byte)

all_right : T (all_below right 256)
unfolding high_word cells bits_of from_bits
all_right = tt

pub table_is_the_rule : TableIsTheRule
table_is_the_rule byte h =
    eqb→eq (get_or words byte 0) (high_word byte) (each_below right 256 all_right byte (omega arith))
