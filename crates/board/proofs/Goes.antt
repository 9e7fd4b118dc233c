-- What the row receiver goes through over reads one after another: steps joined to steps, and the ways that a row is
-- made of.
use mathlib.Core.Path.{◌≡◌, refl, subst, sym, ap, ◌∙◌}
use mathlib.Core.List.{List, [], ◌++◌}
use Prim.Native.Nat.{ℕ, zero, suc, ◌+◌, ◌-◌, ◌≤◌, ◌<◌, min}
use native.Mathlib.Nat.{add-zero, add-suc, suc-add}
use native.Mathlib.Decide.{dec_le, ℕ_discrete}
use native.Mathlib.Omega.{arith}
use borrow.Author.Tests.{eq-eqb}
use Rattle.board.specs.Rows.{Run, State, Event, Moved, run_after, hunting, ready, counting, waiting, next}
use Rattle.board.specs.Rows.{quietened}
use Rattle.board.specs.Feeding.{Report, noted}
use Rattle.board.proofs.FeedingLaws.{noted_append}
use Rattle.board.proofs.RowRules.{run_most, run_least}
use Rattle.board.proofs.RowSteps.{rules, run_grows, full_step, hunts, stays_ready, counts_on, waits_on}
use Rattle.board.proofs.RowSteps.{run_next}

module _ (k n Q : ℕ) (D : ℕ → ℕ) where
  -- From the state s before read j the receiver goes to the state t before read i, and reports es on the way.
  pub data Goes : ℕ → State → List Report → ℕ → State → Type 0 where
    here : {j : ℕ} {s : State} → Goes j s [] j s
    then : {j i : ℕ} {s t u : State} {e : Event} {es : List Report}
        → next (rules k n Q) s (D j) ≡ record { state = t; event = e } → Goes (suc j) t es i u
        → Goes j s (noted j e es) i u

  pub join : {j i h : ℕ} {s t u : State} {es fs : List Report} → Goes j s es i t → Goes i t fs h u
      → Goes j s (es ++ fs) h u
  join here g = g
  join {fs = fs} (then {j = j} {e = e} {es = es} p f) g = rw (← noted_append j e es fs) (then p (join f g))

  pub forward : {j i : ℕ} {s t : State} {es : List Report} → Goes j s es i t → j ≤ i
  forward here = omega arith
  forward (then p f) = omega (arith, forward f)

  one_way_at : {j i h : ℕ} {s t u : State} {es fs : List Report} → i ≡ h → Goes j s es i t → Goes j s fs h u
      → (es ≡ fs) × (t ≡ u)
  one_way_at z here here = (refl, refl)
  one_way_at z here (then q g) = absurd (omega (arith, forward g))
  one_way_at z (then p f) here = absurd (omega (arith, forward f))
  one_way_at {h = h} {t = t} {u = u} z (then {j = j} {t = t1} {e = d} {es = es} p f)
      (then {t = t2} {e = e} {es = fs} q g) =
      go (one_way_at z f (subst (λ (s : State). Goes (suc j) s fs h u) (sym (ap (λ (m : Moved). m.state) same)) g))
    where
      same : ◌≡◌ {A = Moved} (record { state = t1; event = d }) (record { state = t2; event = e })
      same = sym p ∙ q

      go : (es ≡ fs) × (t ≡ u) → (noted j d es ≡ noted j e fs) × (t ≡ u)
      go (x, y) = (ap (λ (l : List Report). noted j d l) x ∙ ap (λ (m : Moved). noted j m.event fs) same, y)

  -- it goes one way only
  pub one_way : {j i : ℕ} {s t u : State} {es fs : List Report} → Goes j s es i t → Goes j s fs i u
      → (es ≡ fs) × (t ≡ u)
  one_way f g = one_way_at refl f g

  -- a step where read j is x
  pub step : {j i x : ℕ} {s t u : State} {e : Event} {es : List Report} → D j ≡ x
      → next (rules k n Q) s x ≡ record { state = t; event = e } → Goes (suc j) t es i u
      → Goes j s (noted j e es) i u
  step {j} {i} {x} {s} {t} {u} {e} {es} is p f = then (ap (λ (y : ℕ). next (rules k n Q) s y) is ∙ p) f

  -- counting down to the sample
  hold : (l j m : ℕ) (ρ : Run) (bs : List ℕ) → ρ.reads + l < Q
      → (σ : Run) × (σ.reads ≤ ρ.reads + l) × Goes j (counting (suc l) m ρ bs) [] (j + l) (counting 1 m σ bs)
  hold zero j m ρ bs h = (ρ, omega arith, rw add-zero here)
  hold (suc l) j m ρ bs h = go (hold l (suc j) m (run_after Q ρ (D j)) bs (omega (arith, run_grows Q ρ (D j))))
    where
      go : (σ : Run) × (σ.reads ≤ (run_after Q ρ (D j)).reads + l)
          × Goes (suc j) (counting (suc l) m (run_after Q ρ (D j)) bs) [] (suc j + l) (counting 1 m σ bs)
          → (σ : Run) × (σ.reads ≤ ρ.reads + suc l)
          × Goes j (counting (suc (suc l)) m ρ bs) [] (j + suc l) (counting 1 m σ bs)
      go (σ, p, f) = (
        σ,
        omega (arith, run_grows Q ρ (D j)),
        rw (add-suc, ← suc-add) (then (counts_on k n Q l m ρ bs (D j) (omega (arith, run_grows Q ρ (D j)))) f),
      )

  -- from a mark to its sample
  pub downto : (j m : ℕ) (ρ : Run) (bs : List ℕ) → 0 < k → ρ.reads + k ≤ Q
      → (σ : Run) × (σ.reads < ρ.reads + k) × Goes (suc j) (counting k m ρ bs) [] (j + k) (counting 1 m σ bs)
  downto j m ρ bs p h = go (hold (k - 1) (suc j) m ρ bs (omega arith))
    where
      whole : suc (k - 1) ≡ k
      whole = omega arith

      place : suc j + (k - 1) ≡ j + k
      place = omega arith

      go : (σ : Run) × (σ.reads ≤ ρ.reads + (k - 1))
          × Goes (suc j) (counting (suc (k - 1)) m ρ bs) [] (suc j + (k - 1)) (counting 1 m σ bs)
          → (σ : Run) × (σ.reads < ρ.reads + k) × Goes (suc j) (counting k m ρ bs) [] (j + k) (counting 1 m σ bs)
      go (σ, q, f) = (σ, omega arith, rw (whole, place) at f)

  -- waiting at the level v, which is the run's too, over reads that are all v
  pub linger : (d j v : ℕ) (ρ : Run) (bs : List ℕ) → ((i : ℕ) → j ≤ i → i < j + d → D i ≡ v) → ρ.reads + d < Q
      → ρ.level ≡ v
      → (σ : Run) × (σ.reads ≤ ρ.reads + d) × (σ.level ≡ v) × Goes j (waiting v ρ bs) [] (j + d) (waiting v σ bs)
  linger zero j v ρ bs f h e = (ρ, omega arith, e, rw add-zero here)
  linger (suc d) j v ρ bs f h e =
      go (linger d (suc j) v (run_after Q ρ v) bs (λ i p q. f i (omega arith) (omega arith))
      (omega (arith, run_grows Q ρ v)) refl)
    where
      go : (σ : Run) × (σ.reads ≤ (run_after Q ρ v).reads + d) × (σ.level ≡ v)
          × Goes (suc j) (waiting v (run_after Q ρ v) bs) [] (suc j + d) (waiting v σ bs)
          → (σ : Run) × (σ.reads ≤ ρ.reads + suc d) × (σ.level ≡ v)
          × Goes j (waiting v ρ bs) [] (j + suc d) (waiting v σ bs)
      go (σ, p, z, g) = (
        σ,
        omega (arith, run_grows Q ρ v),
        z,
        rw (add-suc, ← suc-add)
            (step (f j (omega arith) (omega arith)) (waits_on k n Q v ρ bs (omega (arith, run_grows Q ρ v))) g),
      )

  -- ready, over reads of its level
  pub stay : (v d j : ℕ) → ((i : ℕ) → j ≤ i → i < j + d → D i ≡ v) → Goes j (ready Q v) [] (j + d) (ready Q v)
  stay v zero j f = rw add-zero here
  stay v (suc d) j f =
      rw (add-suc, ← suc-add)
      (step (f j (omega arith) (omega arith)) (stays_ready k n Q v)
      (stay v d (suc j) (λ i p q. f i (omega arith) (omega arith))))

  -- hunting, over any reads too few to make the run Q
  pub hunt : (d j : ℕ) (ρ : Run) → ρ.reads + d < Q
      → (σ : Run) × (σ.reads ≤ ρ.reads + d) × Goes j (hunting ρ) [] (j + d) (hunting σ)
  hunt zero j ρ h = (ρ, omega arith, rw add-zero here)
  hunt (suc d) j ρ h = go (hunt d (suc j) (run_after Q ρ (D j)) (omega (arith, run_grows Q ρ (D j))))
    where
      go : (σ : Run) × (σ.reads ≤ (run_after Q ρ (D j)).reads + d)
          × Goes (suc j) (hunting (run_after Q ρ (D j))) [] (suc j + d) (hunting σ)
          → (σ : Run) × (σ.reads ≤ ρ.reads + suc d) × Goes j (hunting ρ) [] (j + suc d) (hunting σ)
      go (σ, p, f) = (
        σ,
        omega (arith, run_grows Q ρ (D j)),
        rw (add-suc, ← suc-add) (then (hunts k n Q ρ (D j) (omega (arith, run_grows Q ρ (D j)))) f),
      )

  -- from any state whose run is of the level v, over reads of v enough to make the run Q
  lengthen : (v d j : ℕ) (s : State) → 0 < d → s.run.level ≡ v → Q ≤ s.run.reads + d
      → ((i : ℕ) → j ≤ i → i < j + d → D i ≡ v)
      → (es : List Report) × Goes j s es (j + d) (ready Q v)
  lengthen v zero j s p e q f = absurd (omega arith)
  lengthen v (suc d) j s p e q f =
      go (dec_le Q (suc s.run.reads)) λ r. lengthen v d (suc j) (next (rules k n Q) s v).state (omega arith)
      (ap (λ (run : Run). run.level) (run_next k n Q s v))
      (omega (arith, ap (λ (run : Run). run.reads) (run_next k n Q s v), longer))
      (λ i y z. f i (omega arith) (omega arith))
    where
      now : D j ≡ v
      now = f j (omega arith) (omega arith)

      longer : (run_after Q s.run v).reads ≡ min (s.run.reads + 1) Q
      longer = rw (eq-eqb v s.run.level (sym e))

      go : Dec (Q ≤ suc s.run.reads)
          → (suc s.run.reads < Q
          → (es : List Report) × Goes (suc j) (next (rules k n Q) s v).state es (suc j + d) (ready Q v))
          → (es : List Report) × Goes j s es (j + suc d) (ready Q v)
      go (yes y) more = (
        noted j (quietened (rules k n Q) s v).event [],
        rw (add-suc, ← suc-add)
            (step now (full_step k n Q s v (omega (arith, longer)))
            (stay v d (suc j) (λ i y z. f i (omega arith) (omega arith)))),
      )
      go (no y) more =
          let (es, g) = more (omega arith) in
          (noted j (next (rules k n Q) s v).event es, rw (add-suc, ← suc-add) (step now refl g))

  -- from any state at all, over Q reads of a level: the first of them has made the run at least 1
  pub lift : (v d j : ℕ) (s : State) → 1 < Q → Q ≤ d → ((i : ℕ) → j ≤ i → i < j + d → D i ≡ v)
      → (es : List Report) × Goes j s es (j + d) (ready Q v)
  lift v zero j s p q f = absurd (omega arith)
  lift v (suc d) j s p q f =
      go (lengthen v d (suc j) (next (rules k n Q) s v).state (omega arith)
      (ap (λ (run : Run). run.level) (run_next k n Q s v))
      (omega (arith, ap (λ (run : Run). run.reads) (run_next k n Q s v), run_least Q s.run v (omega arith)))
      (λ i y z. f i (omega arith) (omega arith)))
    where
      go : (es : List Report) × Goes (suc j) (next (rules k n Q) s v).state es (suc j + d) (ready Q v)
          → (es : List Report) × Goes j s es (j + suc d) (ready Q v)
      go (es, g) = (
        noted j (next (rules k n Q) s v).event es,
        rw (add-suc, ← suc-add) (step (f j (omega arith) (omega arith)) refl g),
      )

  -- hunting, over reads of a level: silent
  pub rise : (v d j : ℕ) (ρ : Run) → ρ.reads < Q → ((i : ℕ) → j ≤ i → i < j + d → D i ≡ v)
      → (s : State) × Goes j (hunting ρ) [] (j + d) s
  rise v zero j ρ p f = (hunting ρ, rw add-zero here)
  rise v (suc d) j ρ p f =
      go (ℕ_discrete (run_after Q ρ v).reads Q)
      (λ r. rise v d (suc j) (run_after Q ρ v) (omega (arith, r, run_most Q ρ v (omega arith)))
      (λ i y z. f i (omega arith) (omega arith)))
    where
      now : D j ≡ v
      now = f j (omega arith) (omega arith)

      go : Dec ((run_after Q ρ v).reads ≡ Q)
          → (((run_after Q ρ v).reads ≡ Q → ⊥) → (s : State) × Goes (suc j) (hunting (run_after Q ρ v)) [] (suc j + d) s)
          → (s : State) × Goes j (hunting ρ) [] (j + suc d) s
      go (yes y) more = (
        ready Q v,
        rw (add-suc, ← suc-add)
            (step now (full_step k n Q (hunting ρ) v y)
            (stay v d (suc j) (λ i y z. f i (omega arith) (omega arith)))),
      )
      go (no y) more =
          let (s, g) = more y in (
            s,
            rw (add-suc, ← suc-add)
                (step now (hunts k n Q ρ v (omega (arith, y, run_most Q ρ v (omega arith)))) g),
          )
