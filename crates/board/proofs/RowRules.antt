-- A read takes a well formed state to a well formed one: each rule sets exactly the numbers that its mode asks for.
use Prim.Native.Nat.{ℕ, ◌+◌, ◌-◌, ◌≤◌, ◌<◌, min}
use mathlib.Core.Path.{◌≡◌, refl, ◌∙◌}
use mathlib.Core.List.{List, [], ◌∷◌, ◌++◌}
use mathlib.Core.Bool.{Bool, true, false}
use native.Mathlib.Omega.{arith}
use borrow.Author.Tests.{eq-eqb, eqb-true, eqb-false}
use lib.Dec.{eqb}
use lib.ListN.{length, length-append}
use Rattle.measure.specs.Choose.{choose}
use Rattle.measure.specs.Cells.{bit_of}
use Rattle.board.specs.declared.Mode.{Mode}
use Rattle.board.specs.declared.Mode.TheVariants.{Hunting, Ready, Counting, Waiting}
use Rattle.board.specs.Rows.{Settings, Run, State, Moved, run_after, hunting, ready, counting, waiting, fresh}
use Rattle.board.specs.Rows.{collected, listening, next}
use Rattle.board.proofs.PackedBits.{Binary, binary_none, binary_snoc}

-- the settings are in range
pub record Ranged (g : Settings) : Type 0 where
  pub k_least : 1 ≤ g.k
  pub k_most : g.k ≤ 511
  pub n_least : 1 ≤ g.n
  pub n_most : g.n ≤ 1024
  pub q_least : 2 ≤ g.Q
  pub q_most : g.Q ≤ 8191

-- what each mode asks of the run, what is left, the number of bits found and the level kept
abbrev pub Fitting : Mode → Settings → Run → (left found level : ℕ) → Type 0
Fitting Hunting g run left found level = (run.reads < g.Q) × (left ≡ 0) × (found ≡ 0) × (level ≡ 1)
Fitting Ready g run left found level = (run.reads ≡ g.Q) × (left ≡ 0) × (found ≡ 0) × (level ≡ run.level)
Fitting Counting g run left found level =
    (run.reads < g.Q) × (1 ≤ left) × (left ≤ g.k) × (found < g.n) × (level ≤ 1) × (1 ≤ run.reads)
Fitting Waiting g run left found level =
    (run.reads < g.Q) × (left ≡ 0) × (found < g.n) × (level ≤ 1) × (1 ≤ run.reads)

-- the run's level is a level, and high as long as there is no run
pub record Level (run : Run) : Type 0 where
  pub most : run.level ≤ 1
  pub high : run.reads ≡ 0 → run.level ≡ 1

-- a well formed state, however its bits are kept
pub record Valid (g : Settings) (s : State) : Type 0 where
  pub range : Ranged g
  pub fitting : Fitting s.mode g s.run s.left (length s.bits) s.level
  pub level : Level s.run
  pub binary : Binary s.bits

-- the run

pub run_most : (Q : ℕ) (run : Run) (read : ℕ) → 1 ≤ Q → (run_after Q run read).reads ≤ Q
run_most Q run read some = go (eqb read run.level)
  where
    go : (b : Bool) → choose b (min (run.reads + 1) Q) 1 ≤ Q
    go true = omega arith
    go false = omega arith

pub run_least : (Q : ℕ) (run : Run) (read : ℕ) → 1 ≤ Q → 1 ≤ (run_after Q run read).reads
run_least Q run read some = go (eqb read run.level)
  where
    go : (b : Bool) → 1 ≤ choose b (min (run.reads + 1) Q) 1
    go true = omega arith
    go false = omega arith

-- a read of its level leaves a full run full
pub run_full : (Q : ℕ) (run : Run) (read : ℕ) → run.reads ≡ Q → read ≡ run.level → (run_after Q run read).reads ≡ Q
run_full Q run read e h = rw (eq-eqb read run.level h) (omega arith)

pub run_level : (run : Run) → 1 ≤ run.reads → run.level ≤ 1 → Level run
run_level run some h = record { most = h; high = λ e. absurd (omega arith) }

pub bit_most : (mark sample : ℕ) → bit_of mark sample ≤ 1
bit_most mark sample = go (eqb sample mark)
  where
    go : (b : Bool) → choose b 0 1 ≤ 1
    go true = omega arith
    go false = omega arith

-- a choice between two moves that each lead to a well formed state
chosen : (g : Settings) (b : Bool) (m d : Moved) → (b ≡ true → Valid g m.state) → (b ≡ false → Valid g d.state)
    → Valid g (choose b m d).state
chosen g true m d f h = f refl
chosen g false m d f h = h refl

module _ (g : Settings) (r : Ranged g) where
  pub valid_hunting : (run : Run) → run.reads < g.Q → Level run → Valid g (hunting run)
  valid_hunting run h l = record { range = r; fitting = (h, refl, refl, refl); level = l; binary = binary_none }

  pub valid_fresh : Valid g fresh
  valid_fresh =
      valid_hunting fresh.run (omega (arith, r.q_least)) (record { most = omega arith; high = λ e. refl })

  pub valid_ready : (level : ℕ) → level ≤ 1 → Valid g (ready g.Q level)
  valid_ready level p =
      record {
        range = r;
        fitting = (refl, refl, refl, refl);
        level = run_level (ready g.Q level).run (omega (arith, r.q_least)) p;
        binary = binary_none;
      }

  -- the run has begun, and is short of Q
  pub record Runs (run : Run) : Type 0 where
    pub some : 1 ≤ run.reads
    pub below : run.reads < g.Q
    pub level : run.level ≤ 1

  pub valid_counting : (run : Run) (read : ℕ) (bits : List ℕ) → Runs run → read ≤ 1 → length bits < g.n → Binary bits
      → Valid g (counting g.k read run bits)
  valid_counting run read bits h p f b =
      record {
        range = r;
        fitting = (h.below, r.k_least, omega arith, f, p, h.some);
        level = run_level run h.some h.level;
        binary = b;
      }

  pub valid_waiting : (run : Run) (read : ℕ) (bits : List ℕ) → Runs run → read ≤ 1 → length bits < g.n → Binary bits
      → Valid g (waiting read run bits)
  valid_waiting run read bits h p f b =
      record {
        range = r;
        fitting = (h.below, refl, f, p, h.some);
        level = run_level run h.some h.level;
        binary = b;
      }

  valid_collected : (run : Run) (read : ℕ) (bits : List ℕ) → Runs run → read ≤ 1 → length bits ≤ g.n → Binary bits
      → Valid g (collected g run read bits).state
  valid_collected run read bits h p f b =
      chosen g (eqb (length bits) g.n) _ _
      (λ e. valid_hunting run h.below (run_level run h.some h.level))
      (λ e. let n = eqb-false (length bits) g.n e in valid_waiting run read bits h p (omega arith) b)

  -- after a read that does not make the run Q
  runs_after : (run : Run) (read : ℕ) → read ≤ 1 → (run_after g.Q run read).reads < g.Q
      → Runs (run_after g.Q run read)
  runs_after run read p h =
      record { some = run_least g.Q run read (omega (arith, r.q_least)); below = h; level = p }

  valid_listening : (m : Mode) (run : Run) (left level : ℕ) (bits : List ℕ) (read : ℕ)
      → Fitting m g run left (length bits) level → Binary bits → read ≤ 1
      → (run_after g.Q run read).reads < g.Q
      → Valid g
      (listening m g (record { mode = m; left = left; level = level; run = run; bits = bits })
      (run_after g.Q run read) read).state
  valid_listening Hunting run left level bits read f b p h =
      let now = runs_after run read p h in
      record {
        range = r;
        fitting = (h, f.1, f.2, f.3);
        level = run_level (run_after g.Q run read) now.some p;
        binary = b;
      }
  valid_listening Ready run left level bits read f b p h =
      chosen g (eqb read level) _ _
      (λ e. absurd (omega (arith, run_full g.Q run read f.0 (eqb-true read level e ∙ f.3))))
      (λ e. valid_counting (run_after g.Q run read) read bits (runs_after run read p h) p
      (omega (arith, r.n_least)) b)
  valid_listening Counting run left level bits read f b p h =
      chosen g (eqb (left - 1) 0) _ _
      (λ e.
      valid_collected (run_after g.Q run read) read (bits ++ bit_of level read ∷ []) (runs_after run read p h) p
      (omega (arith, length-append bits (bit_of level read ∷ [])))
      (binary_snoc bits (bit_of level read) b (bit_most level read)))
      (λ e.
      let n = eqb-false (left - 1) 0 e in
      let now = runs_after run read p h in
      record {
        range = r;
        fitting = (h, omega arith, omega arith, f.3, f.4, now.some);
        level = run_level (run_after g.Q run read) now.some p;
        binary = b;
      })
  valid_listening Waiting run left level bits read f b p h =
      let now = runs_after run read p h in
      chosen g (eqb read level) _ _
      (λ e. record {
        range = r;
        fitting = (h, f.1, f.2, f.3, now.some);
        level = run_level (run_after g.Q run read) now.some p;
        binary = b;
      })
      (λ e. valid_counting (run_after g.Q run read) read bits now p f.2 b)

-- every step from a well formed state gives a well formed state
pub valid_next : (g : Settings) (s : State) (read : ℕ) → Valid g s → read ≤ 1 → Valid g (next g s read).state
unfolding next
valid_next g s read v p =
    chosen g (eqb (run_after g.Q s.run read).reads g.Q) _ _ (λ e. valid_ready g v.range read p)
    (λ e.
    let n = eqb-false (run_after g.Q s.run read).reads g.Q e in
    valid_listening g v.range s.mode s.run s.left s.level s.bits read v.fitting v.binary p
    (omega (arith, run_most g.Q s.run read (omega (arith, v.range.q_least)))))
