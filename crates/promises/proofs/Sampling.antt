-- The counted receiver's rule as a relation, and that it is what a last sample's place is computed by: each mark is the
-- first read that differs.
use mathlib.Core.Path.{◌≡◌, refl}
use mathlib.Core.Logic.{◌≢◌, dite}
use mathlib.Core.List.{List}
use Prim.Native.Nat.{ℕ, zero, suc, ◌+◌, ◌-◌, ◌≤◌, ◌<◌}
use native.Mathlib.Decide.{dec_le}
use native.Mathlib.Omega.{arith}
use lib.ListN.{length, drop, get_or}
use lib.Seq.{drop-cons, drop-drop}
use borrow.Author.Tests.{eq-eqb, ne_eqb}
use Rattle.counted.proofs.Marks.{mark_at}
use Rattle.promises.specs.Places.{mark_place, sample_place}

-- from read j on, at the level v, the n-th sample is read s
pub data Samples (k : ℕ) (D : ℕ → ℕ) : ℕ → ℕ → ℕ → ℕ → Type 0 where
  none : {v j : ℕ} → Samples k D 0 v j j
  more : {n v j m s : ℕ} → j ≤ m → ((i : ℕ) → j ≤ i → i < m → D i ≡ v) → D m ≢ v → Samples k D n (D (m + k)) (m + k) s
      → Samples k D (suc n) v j s

pub samples_on : {k : ℕ} {D : ℕ → ℕ} {n v j s : ℕ} → Samples k D n v j s → j ≤ s
samples_on none = omega arith
samples_on (more h same differs next) = omega (arith, samples_on next)

-- reads at the level change nothing
pub samples_later : {k n v j s : ℕ} {D : ℕ → ℕ} (i : ℕ) → j ≤ i → ((x : ℕ) → j ≤ x → x < i → D x ≡ v) → 0 < n
    → Samples k D n v j s → Samples k D n v i s
samples_later i h high some none = absurd (omega arith)
samples_later i h high some (more {m = m} from same differs next) =
    more (dite (dec_le i m) (λ le. le) (λ gt. absurd (differs (high m from (omega arith)))))
    (λ x p q. same x (omega arith) q) differs next

-- the mark is read m
marked_at : (level : ℕ) (R : List ℕ) (d j m : ℕ) → j + d ≡ m → m < length R
    → ((i : ℕ) → j ≤ i → i < m → get_or R i 2 ≡ level) → get_or R m 2 ≢ level
    → mark_place level j (drop j R) ≡ m
unfolding mark_place
marked_at level R zero j m e l same differs =
    rw (here, drop-cons R m 2 l, ne_eqb (get_or R m 2) level differs)
  where
    here : j ≡ m
    here = omega arith
marked_at level R (suc d) j m e l same differs =
    rw (drop-cons R j 2 (omega arith), eq-eqb (get_or R j 2) level (same j (omega arith) (omega arith)))
    (marked_at level R d (suc j) m (omega arith) l (λ i p q. same i (omega arith) q) differs)

pub sampled_at : (R : List ℕ) {k n v j s : ℕ} → Samples k (λ i. get_or R i 2) n v j s → s < length R
    → sample_place k n v j (drop j R) ≡ s
unfolding sample_place
sampled_at R none l = refl
sampled_at R {k} {v = v} (more {n = n} {j = j} {m = m} {s = s} h same differs next) l =
    rw (
      mark_at v R j m 2 h (omega (arith, samples_on next)) same differs,
      marked_at v R (m - j) j m (omega arith) (omega (arith, samples_on next)) same differs,
      drop-drop k m R,
      drop-cons R (m + k) 2 (omega (arith, samples_on next)),
    )
    (rw (← drop-cons R (m + k) 2 (omega (arith, samples_on next))) (sampled_at R next l))
