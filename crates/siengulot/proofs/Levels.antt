-- A level in force that is no level is a setting out of range, whatever else is: refusal 1 comes first.
use mathlib.Core.Path.{◌≡◌, refl}
use mathlib.Core.Bool.{Bool, true, false, ◌&&◌}
use mathlib.Core.List.{List}
use Prim.Native.Nat.{ℕ, ◌<◌}
use borrow.Author.Tests.{lt-leb}
use Rattle.measure.specs.Refusals.{refused}
use Rattle.counted.specs.Answers.{counted_bits}

last_fails : (one other : Bool) → (one && other && false) ≡ false
last_fails true true = refl
last_fails true false = refl
last_fails false other = refl

pub no_level : (k n level : ℕ) (reads output : List ℕ) → 1 < level
    → counted_bits k n level reads output ≡ (refused 1 0, output)
unfolding counted_bits
no_level k n level reads output high = simp (lt-leb level 1 high, last_fails)
