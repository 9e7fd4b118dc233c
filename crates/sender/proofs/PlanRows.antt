-- A plan's rows are made one after another: each has the next lead pad and the next n bits.
use Prim.Native.Nat.{ℕ}
use mathlib.Core.Path.{◌≡◌, refl}
use mathlib.Core.List.{List, [], ◌∷◌}
use lib.ListN.{take, drop}
use Rattle.sender.specs.Sending.{rows_of}

pub rows_none : (n : ℕ) (bits : List ℕ) → rows_of n [] bits ≡ []
unfolding rows_of
rows_none n bits = refl

pub rows_more : (n p1 : ℕ) (leads bits : List ℕ)
    → rows_of n (p1 ∷ leads) bits ≡ record { lead = p1; bits = take n bits } ∷ rows_of n leads (drop n bits)
unfolding rows_of
rows_more n p1 leads bits = refl
