-- What a cell is to a receiver: a stretch is known in the smoothed wave from its cycle g on, so each cell that a wave
-- carries is a cell of the smoothed wave.
use mathlib.Core.List.{List, [], ◌∷◌}
use Prim.Native.Nat.{ℕ, ◌+◌, ◌*◌, ◌≤◌}
use native.Mathlib.Omega.{arith}
use lib.ListN.{length, get_or}
use Rattle.sender.specs.Sending.{opposite, code_level}
use Rattle.sender.proofs.Waves.{Carries}
use Rattle.line.specs.Smooth.{smooth}
use Rattle.line.proofs.SmoothLaws.{stretch_known}
use Rattle.promises.proofs.Timing.{Cell}

-- the smoothed wave S holds the cells of a message from cycle c on, from the level v
abbrev pub Holds : (a b g : ℕ) (S : ℕ → ℕ) (c v : ℕ) → List ℕ → Type 0
Holds a b g S c v [] = Unit {0}
Holds a b g S c v (x ∷ xs) = Cell S a b g c v (code_level v x) × Holds a b g S (c + (a + b)) (code_level v x) xs

pub holds : (a b g : ℕ) (l bits : List ℕ) (c v : ℕ) → c + length bits * (a + b) ≤ length l
    → Carries a b (λ i. get_or l i 2) c v bits
    → Holds a b g (λ i. get_or (smooth g l) i 2) c v bits
holds a b g l [] c v h p = tt
holds a b g l (x ∷ xs) c v h p = (
  record {
    mark = λ i q r. stretch_known g l 0 1 c a (opposite v) (omega arith) p.0 (omega arith) i q r;
    code = λ i q r. stretch_known g l 0 1 (c + a) b (code_level v x) (omega arith) p.1 (omega arith) i (omega arith)
        (omega arith);
  },
  holds a b g l xs (c + (a + b)) (code_level v x) (omega arith) p.2,
)
