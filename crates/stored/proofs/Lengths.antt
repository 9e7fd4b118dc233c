-- How long a stored plan's wave is: each row has its lead pad, its cells and its trail pad.
use Prim.Native.Nat.{ℕ, ◌+◌, ◌*◌}
use mathlib.Core.Path.{◌≡◌, refl}
use mathlib.Core.List.{List, [], ◌∷◌}
use native.Mathlib.Omega.{arith}
use lib.ListN.{length, length-append, length-replicate}
use Rattle.sender.proofs.Cells.{length_wave}
use Rattle.stored.specs.Stored.{StoredRow, stored_wave}

pub stored_none : (a b : ℕ) → stored_wave a b [] ≡ []
unfolding stored_wave
stored_none a b = refl

pub stored_length : (a b : ℕ) (row : StoredRow) (rows : List StoredRow)
    → length (stored_wave a b (row ∷ rows))
    ≡ row.lead + length row.bits * (a + b) + row.trail + length (stored_wave a b rows)
unfolding stored_wave
stored_length a b row rows = simp (length-append, length_wave, length-replicate) (omega arith)
