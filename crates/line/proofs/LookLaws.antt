-- What a read is, told from the cycles that start before its end: from the first left on, these are the ones looked at.
use mathlib.Core.Path.{◌≡◌, refl, sym, ap, ◌∙◌}
use mathlib.Core.Logic.{⊎_elim, dite}
use mathlib.Core.List.{List, [], ◌∷◌}
use Prim.Native.Nat.{ℕ, zero, suc, ◌+◌, ◌<◌, ◌≤◌}
use native.Mathlib.Nat.{eq-or-lt_of_le}
use native.Mathlib.Decide.{ℕ_discrete, dec_lt}
use native.Mathlib.Omega.{arith}
use lib.ListN.{length, drop, get_or}
use borrow.Author.Tests.{lt-ltb, le-ltb, eq-eqb, ne_eqb}
use Rattle.measure.specs.Levels.{AtMost}
use Rattle.line.specs.Warp.{reconcile, look}
use Rattle.line.proofs.Clocks.{in_order}
use Rattle.line.proofs.LookSteps.{look_more, look_last}

-- a read that ends at t, and n cycles left, the first of them cycle i
module _ (starts : ℕ → ℕ) (t : ℕ) (levels : List ℕ) where
  -- where each cycle left that starts before t has level v, the read is v
  pub look_same : (n i : ℕ) → i + n ≡ length levels → starts i < t → t ≤ starts (length levels)
      → (v : ℕ) → ((k : ℕ) → i ≤ k → k < length levels → starts k < t → get_or levels k 2 ≡ v)
      → look starts t i (drop i levels) ≡ v
  look_same zero i left begun ends v all = absurd (omega (arith, ap starts (at_end left)))
    where
      at_end : i + zero ≡ length levels → i ≡ length levels
      at_end e = omega arith
  look_same (suc n) i left begun ends v all =
      let this : get_or levels i 2 ≡ v = all i (omega arith) (omega arith) begun in
      dite (dec_lt (starts (suc i)) t)
      (λ more.
      rw (
        look_more starts t levels i 2 (omega arith) more,
        look_same n (suc i) (omega arith) more ends v (λ k from. all k (omega arith)),
        this,
        eq-eqb v v refl,
      ))
      (λ last. rw (look_last starts t levels i 2 (omega arith) (omega arith)) this)

  -- where the read is not unknown, each cycle left that starts before t has its level
  pub look_known : ((i : ℕ) → starts i ≤ starts (suc i)) → (n i : ℕ) → i + n ≡ length levels
      → (v : ℕ) → look starts t i (drop i levels) ≡ v → (v ≡ 2 → ⊥)
      → (k : ℕ) → i ≤ k → k < length levels → starts k < t → get_or levels k 2 ≡ v
  look_known on zero i left v is known k from within begun = absurd (omega arith)
  look_known on (suc n) i left v is known k from within begun =
      dite (dec_lt (starts (suc i)) t)
      (λ more. reconciled (rw (look_more starts t levels i 2 (omega arith) more) at is)
      (look_known on n (suc i) (omega arith) v))
      (λ last.
      ⊎_elim (λ e. rw (← e) (rw (look_last starts t levels i 2 (omega arith) (omega arith)) at is))
      (λ after. absurd (omega (arith, in_order on (suc i) k after))) (eq-or-lt_of_le from))
    where
      rest : ℕ
      rest = look starts t (suc i) (drop (suc i) levels)

      reconciled : reconcile (get_or levels i 2) rest ≡ v
          → (rest ≡ v → (v ≡ 2 → ⊥) → (k : ℕ) → suc i ≤ k → k < length levels → starts k < t → get_or levels k 2 ≡ v)
          → get_or levels k 2 ≡ v
      reconciled both later =
          dite (ℕ_discrete (get_or levels i 2) rest)
          (λ e.
          let this : get_or levels i 2 ≡ v = rw (eq-eqb (get_or levels i 2) rest e) at both in
          ⊎_elim (λ here. rw (← here) this) (λ after. later (sym e ∙ this) known k after within begun)
          (eq-or-lt_of_le from))
          (λ n. absurd (known (sym (rw (ne_eqb (get_or levels i 2) rest n) at both))))

-- no read is more than unknown
pub look_most : (starts : ℕ → ℕ) (t i : ℕ) (levels : List ℕ) → AtMost 2 levels → look starts t i levels ≤ 2
unfolding look
look_most starts t i [] all = omega arith
look_most starts t i (level ∷ levels) all =
    dite (dec_lt (starts (suc i)) t)
    (λ more. rw (lt-ltb (starts (suc i)) t more) (reconciled (look starts t (suc i) levels)))
    (λ last. rw (le-ltb (starts (suc i)) t (omega arith)) all.0)
  where
    reconciled : (rest : ℕ) → reconcile level rest ≤ 2
    reconciled rest =
        dite (ℕ_discrete level rest) (λ e. rw (eq-eqb level rest e) all.0)
        (λ n. rw (ne_eqb level rest n) (omega arith))
