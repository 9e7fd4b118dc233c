-- What one read does in each mode: either it makes the run Q, and the receiver is ready, or the rule of the mode
-- decides.
use mathlib.Core.Path.{◌≡◌, refl, sym, ap, ◌∙◌}
use mathlib.Core.Bool.{Bool, true, false}
use mathlib.Core.List.{List, [], ◌∷◌, ◌++◌}
use Prim.Native.Nat.{ℕ, suc, ◌+◌, ◌-◌, ◌≤◌, ◌<◌, min}
use native.Mathlib.Decide.{ℕ_discrete}
use native.Mathlib.Omega.{arith}
use lib.Dec.{eqb}
use lib.ListN.{length, length-append}
use borrow.Author.Tests.{eq-eqb, ne_eqb}
use Rattle.measure.specs.Choose.{choose}
use Rattle.measure.specs.Cells.{bit_of}
use Rattle.board.specs.Rows.{Settings, Run, run_of, State, nothing, row, Moved, run_after, hunting, ready, counting}
use Rattle.board.specs.Rows.{waiting, quietened, collected, listening, next}
use Rattle.board.specs.declared.Mode.{Mode}
use Rattle.board.specs.declared.Mode.TheVariants.{Hunting, Ready, Counting, Waiting}

-- the receiver's settings
abbrev pub rules : (k n Q : ℕ) → Settings
rules k n Q = record { k = k; n = n; Q = Q }

-- a state that is reached with nothing reported
abbrev pub silently : State → Moved
silently s = record { state = s; event = nothing }

-- the run grows by at most one
pub run_grows : (Q : ℕ) (run : Run) (read : ℕ) → (run_after Q run read).reads ≤ suc run.reads
run_grows Q run read = go (eqb read run.level)
  where
    go : (same : Bool) → choose same (min (run.reads + 1) Q) 1 ≤ suc run.reads
    go true = omega arith
    go false = omega arith

module _ (k n Q : ℕ) where
  abbrev G : Settings
  G = rules k n Q

  -- a read that does not make the run Q, and one that does
  other_step : (s : State) (x : ℕ) → ((run_after Q s.run x).reads ≡ Q → ⊥)
      → next G s x ≡ listening s.mode G s (run_after Q s.run x) x
  unfolding next
  other_step s x n = rw (ne_eqb (run_after Q s.run x).reads Q n)

  pub calm_step : (s : State) (x : ℕ) → (run_after Q s.run x).reads < Q
      → next G s x ≡ listening s.mode G s (run_after Q s.run x) x
  calm_step s x h = other_step s x (omega arith)

  pub full_step : (s : State) (x : ℕ) → (run_after Q s.run x).reads ≡ Q → next G s x ≡ quietened G s x
  unfolding next
  full_step s x h = rw (eq-eqb (run_after Q s.run x).reads Q h)

  -- hunting
  pub hunts : (ρ : Run) (x : ℕ) → (run_after Q ρ x).reads < Q → next G (hunting ρ) x ≡ silently (hunting (run_after Q ρ x))
  hunts ρ x h = calm_step (hunting ρ) x h

  -- ready, at a read of its level and at another, which is the first mark
  pub stays_ready : (v : ℕ) → next G (ready Q v) v ≡ silently (ready Q v)
  stays_ready v = full_step (ready Q v) v (rw (eq-eqb v v refl) (omega arith))

  pub opened : (v x : ℕ) → 1 < Q → (x ≡ v → ⊥) → next G (ready Q v) x ≡ silently (counting k x (run_of 1 x) [])
  opened v x p d = calm_step (ready Q v) x (rw (ne_eqb x v d) p) ∙ rw (ne_eqb x v d)

  -- counting, before the sample
  pub counts_on : (left m : ℕ) (ρ : Run) (bs : List ℕ) (x : ℕ) → (run_after Q ρ x).reads < Q
      → next G (counting (suc (suc left)) m ρ bs) x ≡ silently (counting (suc left) m (run_after Q ρ x) bs)
  counts_on left m ρ bs x h =
      calm_step (counting (suc (suc left)) m ρ bs) x h
      ∙ rw (ne_eqb (suc (suc left) - 1) 0 (omega arith))
      (ap (λ (l : ℕ). silently (counting l m (run_after Q ρ x) bs)) fewer)
    where
      fewer : suc (suc left) - 1 ≡ suc left
      fewer = omega arith

  -- at the sample: the last of a row, and any other
  pub sample_last : (m : ℕ) (ρ : Run) (bs : List ℕ) (x y : ℕ) → (run_after Q ρ x).reads < Q → bit_of m x ≡ y
      → suc (length bs) ≡ n
      → next G (counting 1 m ρ bs) x ≡ record { state = hunting (run_after Q ρ x); event = row (bs ++ (y ∷ [])) }
  sample_last m ρ bs x y h e l =
      calm_step (counting 1 m ρ bs) x h
      ∙ ap (λ (z : ℕ). collected G (run_after Q ρ x) x (bs ++ (z ∷ []))) e
      ∙ rw (eq-eqb (length (bs ++ (y ∷ []))) n (rw length-append (omega arith)))

  pub sample_more : (m : ℕ) (ρ : Run) (bs : List ℕ) (x y : ℕ) → (run_after Q ρ x).reads < Q → bit_of m x ≡ y
      → suc (length bs) < n
      → next G (counting 1 m ρ bs) x ≡ silently (waiting x (run_after Q ρ x) (bs ++ (y ∷ [])))
  sample_more m ρ bs x y h e l =
      calm_step (counting 1 m ρ bs) x h
      ∙ ap (λ (z : ℕ). collected G (run_after Q ρ x) x (bs ++ (z ∷ []))) e
      ∙ rw (ne_eqb (length (bs ++ (y ∷ []))) n (rw length-append (omega arith)))

  -- waiting, at a read of the level and at a mark
  pub waits_on : (v : ℕ) (ρ : Run) (bs : List ℕ) → (run_after Q ρ v).reads < Q
      → next G (waiting v ρ bs) v ≡ silently (waiting v (run_after Q ρ v) bs)
  waits_on v ρ bs h = calm_step (waiting v ρ bs) v h ∙ rw (eq-eqb v v refl)

  pub marks : (v x : ℕ) (ρ : Run) (bs : List ℕ) → 1 < Q → ρ.level ≡ v → (x ≡ v → ⊥)
      → next G (waiting v ρ bs) x ≡ silently (counting k x (run_of 1 x) bs)
  marks v x ρ bs p e d =
      calm_step (waiting v ρ bs) x (rw (e, ne_eqb x v d) p) ∙ rw (e, ne_eqb x v d)

  -- the run that is kept is the run after the read, in every mode
  keeps_run : (s : State) (ρ : Run) (x : ℕ) → (listening s.mode G s ρ x).state.run ≡ ρ
  keeps_run s ρ x = go s.mode
    where
      either : (b : Bool) (one other : Moved) → one.state.run ≡ ρ → other.state.run ≡ ρ
          → (choose b one other).state.run ≡ ρ
      either true one other p q = p
      either false one other p q = q

      go : (m : Mode) → (listening m G s ρ x).state.run ≡ ρ
      go Hunting = refl
      go Ready = either (eqb x s.level) _ _ refl refl
      go Counting =
          either (eqb (s.left - 1) 0) _ _
          (either (eqb (length (s.bits ++ (bit_of s.level x ∷ []))) n) _ _ refl refl) refl
      go Waiting = either (eqb x s.level) _ _ refl refl

  -- and where the run is now Q too
  pub run_next : (s : State) (x : ℕ) → (next G s x).state.run ≡ run_after Q s.run x
  run_next s x = go (ℕ_discrete (run_after Q s.run x).reads Q)
    where
      go : Dec ((run_after Q s.run x).reads ≡ Q) → (next G s x).state.run ≡ run_after Q s.run x
      go (yes e) =
          ap (λ (m : Moved). m.state.run) (full_step s x e) ∙ ap (λ (reads : ℕ). run_of reads x) (sym e)
      go (no n) = ap (λ (m : Moved). m.state.run) (other_step s x n) ∙ keeps_run s (run_after Q s.run x) x
