-- Where all the bits that are asked for are found, the operation gives their number: no refusal of its chain is met.
use mathlib.Core.Path.{◌≡◌, refl}
use mathlib.Core.Bool.{true}
use mathlib.Core.List.{List, []}
use Prim.Native.Nat.{ℕ, ◌≤◌}
use lib.ListN.{length}
use borrow.Author.Tests.{le-leb, le-ltb, eq-eqb}
use Rattle.measure.specs.Ranges.{sampling, bits_most, entries_most}
use Rattle.measure.specs.Lists.{onto}
use Rattle.measure.specs.Levels.{Levels}
use Rattle.measure.specs.Refusals.{given}
use Rattle.measure.proofs.LevelLaws.{none_some}
use Rattle.counted.specs.Counted.{counted, current}
use Rattle.counted.specs.Answers.{counted_bits}

-- no bit is asked for
pub counted_nothing : (k level : ℕ) (reads : List ℕ) → counted k 0 level reads ≡ []
unfolding counted
counted_nothing k level reads = refl

-- all of them are found
pub all_found : (k n level : ℕ) (reads output bits : List ℕ) → sampling k ≡ true → n ≤ bits_most → level ≤ 1
    → length reads ≤ entries_most → Levels reads → n ≤ length output → counted k n level reads ≡ bits → length bits ≡ n
    → counted_bits k n level reads output ≡ (given (n, current k n level reads), onto bits output)
unfolding counted_bits
all_found k n level reads output bits ranged few is_level short levels room found all =
    rw (
      ranged,
      le-leb n bits_most few,
      le-leb level 1 is_level,
      le-ltb entries_most (length reads) short,
      none_some 1 reads levels,
      le-ltb (length output) n room,
      found,
      eq-eqb (length bits) n all,
    )
