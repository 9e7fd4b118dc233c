-- The counted receiver returns the message: in front of each cell it waits at the level before it, hears the mark and
-- samples the code, and so waits in front of the next.
use mathlib.Core.Path.{◌≡◌, subst, ◌∙◌}
use mathlib.Core.List.{List, [], ◌∷◌}
use Prim.Native.Nat.{ℕ, suc, ◌+◌, ◌*◌, ◌≤◌, ◌<◌}
use native.Mathlib.Omega.{arith}
use lib.ListN.{length, get_or, drop}
use Rattle.measure.specs.Levels.{Levels}
use Rattle.sender.specs.Sending.{code_level}
use Rattle.sender.proofs.Cells.{code_level_most}
use Rattle.sender.proofs.Waves.{bit_code, followed_length, followed_carries, followed_leads}
use Rattle.line.specs.Smooth.{smooth}
use Rattle.line.proofs.ClockBounds.{Clock, mono}
use Rattle.line.proofs.SmoothLaws.{length_smooth, flat}
use Rattle.line.proofs.LineLaws.{Settled, Reads}
use Rattle.counted.specs.Counted.{counted}
use Rattle.counted.proofs.Samples.{counted_step}
use Rattle.counted.proofs.AllFound.{counted_nothing}
use Rattle.promises.specs.CountedReturns.{followed}
use Rattle.promises.proofs.Timing.{Waits, Heard, Margins, quiet, hear}
use Rattle.promises.proofs.Cells.{Holds, holds}

-- from read j on, in front of the cell at cycle c
module _ {tw tr S : ℕ → ℕ} {w1 w2 r1 r2 end : ℕ} (rs : List ℕ) (wclk : Clock tw w1 w2) (rclk : Clock tr r1 r2)
    (pos : 0 < r1)
    (see : Settled tw tr S (λ i. get_or rs i 2) end) (there : (i : ℕ) → tr (suc i) ≤ end → i < length rs)
    {a b g k : ℕ} (ok : Margins a b g k w1 w2 r1 r2) where
  pub received : (bits : List ℕ) (c v j : ℕ) → Levels bits → v ≤ 1 → Holds a b g S c v bits
      → Waits tw tr (λ i. get_or rs i 2) g c v j
      → tw (c + length bits * (a + b)) ≤ end → counted k (length bits) v (drop j rs) ≡ bits
  received [] c v j hb lv hs wait e = counted_nothing k v (drop j rs)
  received (x ∷ xs) c v j hb lv hs wait e =
      go (hear wclk rclk pos see ok c v (code_level v x) j lv level inside hs.0 wait)
      λ m w. received xs (c + (a + b)) (code_level v x) (m + k) hb.1 level hs.1 w
      (subst (λ (i : ℕ). tw i ≤ end) (further c (length xs) (a + b)) e)
    where
      level : code_level v x ≤ 1
      level = code_level_most v x lv

      inside : tw (c + (a + b)) ≤ end
      inside = omega (arith, e, mono wclk (c + (a + b)) (c + suc (length xs) * (a + b)) (omega arith))

      further : (c n d : ℕ) → c + suc n * d ≡ c + d + n * d
      further c n d = omega arith

      go : (m : ℕ) × Heard tw tr (λ i. get_or rs i 2) a b g k r2 c v (code_level v x) j m
          → ((m : ℕ) → Waits tw tr (λ i. get_or rs i 2) g (c + (a + b)) (code_level v x) (m + k)
          → counted k (length xs) (code_level v x) (drop (m + k) rs) ≡ xs)
          → counted k (suc (length xs)) v (drop j rs) ≡ x ∷ xs
      go (m, q) more =
          counted_step k (length xs) v rs j m 2 q.from (there (m + k) (omega (arith, q.ends, inside))) q.before
          (omega (arith, q.differs))
          ∙ rw (q.differs, q.sample, bit_code v x lv hb.0, more m q.next)

-- margins of minus one or more and any clocks within their bounds, the phase below the first writer cycle: the
-- receiver, started high, returns the message
module _ {tw tr : ℕ → ℕ} {w1 w2 r1 r2 : ℕ} (wclk : Clock tw w1 w2) (rclk : Clock tr r1 r2) (pos : 0 < r1)
    (phase : tw 0 ≤ tr 0) (below : tr 0 < tw 1) {a b g k : ℕ} (settles : 0 < g) (ok : Margins a b g k w1 w2 r1 r2) where
  pub returns : (p1 after : ℕ) (bits rs : List ℕ) → Levels bits
      → Reads tw tr (smooth g (followed a b p1 after bits)) rs → counted k (length bits) 1 rs ≡ bits
  returns p1 after bits rs hb reads =
      received rs wclk rclk pos reads.settled reads.there ok bits p1 1 0 hb (omega arith)
      (holds a b g l bits p1 1 fits (followed_carries a b p1 after bits)) wait
      (mono wclk _ _ (omega (arith, fits, same)))
    where
      l : List ℕ
      l = followed a b p1 after bits

      fits : p1 + length bits * (a + b) ≤ length l
      fits = omega (arith, followed_length a b p1 after bits)

      same : length (smooth g l) ≡ length l
      same = length_smooth g l

      wait : Waits tw tr (λ i. get_or rs i 2) g p1 1 0
      wait = record {
        start = omega (arith, mono wclk 1 (p1 + g) (omega arith));
        calm = λ i p q.
            quiet wclk rclk pos reads.settled 0 p1 i 1 (omega arith)
            (omega (arith, mono wclk p1 (length (smooth g l)) (omega (arith, fits, same))))
            (λ n x y. flat g l 0 1 n p1 (followed_leads a b p1 after bits) (omega (arith, fits)) (omega arith) y)
            (omega (arith, mono rclk 0 i p)) q;
      }
