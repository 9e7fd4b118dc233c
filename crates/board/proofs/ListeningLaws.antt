-- Listening goes read by read: each law says what the outcome from a place becomes of the read that stands there.
use Prim.Native.Nat.{ℕ, ◌+◌, ◌-◌, ◌≤◌, ◌<◌, min}
use mathlib.Core.Path.{◌≡◌, refl, ◌∙◌, ap}
use mathlib.Core.List.{List, [], ◌∷◌, ◌++◌}
use mathlib.Core.Bool.{Bool, true, false}
use native.Mathlib.Numerals.{add-one}
use native.Mathlib.Omega.{arith}
use borrow.Author.Tests.{le-leb, lt-leb, eq-eqb, ne_eqb}
use lib.Dec.{eqb}
use lib.ListN.{length, get_or, drop, drop_of_length-le}
use lib.Seq.{drop-cons}
use Rattle.measure.specs.Choose.{choose}
use Rattle.measure.specs.Cells.{bit_of}
use Rattle.board.specs.declared.Receiver.{Receiver}
use Rattle.board.specs.Rows.{Settings, Run, run_of, State, nothing, Moved, run_after, ready, counting, waiting}
use Rattle.board.specs.Rows.{quietened, marked, collected, listening, next}
use Rattle.board.specs.Answers.{reached, refusing}
use Rattle.board.specs.Listening.{longer, heard_from, moved_from}
use Rattle.board.proofs.RowRules.{run_most, run_least, run_full}

-- the reads are at their end, or at one that is no level, or at one that moves the state

pub heard_end : (x : Receiver) (g : Settings) (s : State) (i : ℕ) (reads : List ℕ) → i ≤ length reads → length reads ≤ i
    → heard_from x g s i (drop i reads) ≡ (reached g s nothing, length reads)
unfolding heard_from
heard_end x g s i reads h p = let e : i ≡ length reads = omega arith in rw (drop_of_length-le reads {i = i} p, e)

pub heard_bad : (x : Receiver) (g : Settings) (s : State) (i : ℕ) (reads : List ℕ) → i < length reads
    → 1 < get_or reads i 0
    → heard_from x g s i (drop i reads) ≡ (refusing x 2 i, 0)
unfolding heard_from
heard_bad x g s i reads h p = rw (drop-cons reads i 0 h, lt-leb (get_or reads i 0) 1 p)

pub heard_move : (x : Receiver) (g : Settings) (s : State) (m : Moved) (i : ℕ) (reads : List ℕ) → i < length reads
    → get_or reads i 0 ≤ 1
    → next g s (get_or reads i 0) ≡ m → heard_from x g s i (drop i reads) ≡ moved_from x g m (i + 1) (drop (i + 1) reads)
unfolding heard_from
heard_move x g s m i reads h p e = rw (drop-cons reads i 0 h, le-leb (get_or reads i 0) 1 p, e, add-one i)

-- the run

-- how long the run is after a read
abbrev pub grown : Run → (read : ℕ) → ℕ
grown run read = longer run.reads run.level read

run_longer : (Q : ℕ) (run : Run) (read : ℕ) → run.reads < Q → (run_after Q run read).reads ≡ grown run read
run_longer Q run read h = go (eqb read run.level)
  where
    go : (b : Bool) → choose b (min (run.reads + 1) Q) 1 ≡ choose b (run.reads + 1) 1
    go true = omega arith
    go false = refl

pub longer_most : (Q : ℕ) (run : Run) (read : ℕ) → run.reads < Q → grown run read ≤ Q
longer_most Q run read h = rw (run_longer Q run read h) at (run_most Q run read (omega arith))

pub longer_least : (Q : ℕ) (run : Run) (read : ℕ) → run.reads < Q → 1 ≤ grown run read
longer_least Q run read h = rw (run_longer Q run read h) at (run_least Q run read (omega arith))

-- one read, by what it does to the run

pub next_quiet : (g : Settings) (s : State) (read : ℕ) → s.run.reads < g.Q → grown s.run read ≡ g.Q
    → next g s read ≡ quietened g s read
unfolding next
next_quiet g s read h e = rw (run_longer g.Q s.run read h, eq-eqb (grown s.run read) g.Q e) refl

pub next_on : (g : Settings) (s : State) (read : ℕ) → s.run.reads < g.Q → (grown s.run read ≡ g.Q → ⊥)
    → next g s read ≡ listening s.mode g s (run_of (grown s.run read) read) read
unfolding next
next_on g s read h n = rw (run_longer g.Q s.run read h, ne_eqb (grown s.run read) g.Q n) refl

-- and in each mode

pub ready_on : (g : Settings) (level read : ℕ) → read ≡ level
    → next g (ready g.Q level) read ≡ record { state = ready g.Q level; event = nothing }
unfolding next
ready_on g level read e =
    rw (run_full g.Q (run_of g.Q level) read refl e, eq-eqb g.Q g.Q refl)
    (ap (λ (v : ℕ). record { state = ready g.Q v; event = nothing }) e)

pub ready_mark : (g : Settings) (level read : ℕ) → 2 ≤ g.Q → (read ≡ level → ⊥)
    → next g (ready g.Q level) read ≡ record { state = counting g.k read (run_of 1 read) []; event = nothing }
unfolding next
ready_mark g level read h d = rw (ne_eqb read level d, ne_eqb 1 g.Q (λ z. omega arith)) refl

module _ (g : Settings) (level : ℕ) (run : Run) (l : List ℕ) (read : ℕ) (h : run.reads < g.Q) where
  pub counting_on : (left : ℕ) → (grown run read ≡ g.Q → ⊥) → (left - 1 ≡ 0 → ⊥)
      → next g (counting left level run l) read
      ≡ record { state = counting (left - 1) level (run_of (grown run read) read) l; event = nothing }
  counting_on left n d = next_on g (counting left level run l) read h n ∙ rw (ne_eqb (left - 1) 0 d)

  pub counting_sample : (left : ℕ) → (grown run read ≡ g.Q → ⊥) → left - 1 ≡ 0
      → next g (counting left level run l) read
      ≡ collected g (run_of (grown run read) read) read (l ++ bit_of level read ∷ [])
  counting_sample left n d = next_on g (counting left level run l) read h n ∙ rw (eq-eqb (left - 1) 0 d)

  pub waiting_on : (grown run read ≡ g.Q → ⊥) → read ≡ level
      → next g (waiting level run l) read
      ≡ record { state = waiting level (run_of (grown run read) read) l; event = nothing }
  waiting_on n d = next_on g (waiting level run l) read h n ∙ rw (eq-eqb read level d)

  pub waiting_mark : (grown run read ≡ g.Q → ⊥) → (read ≡ level → ⊥)
      → next g (waiting level run l) read ≡ marked g (waiting level run l) (run_of (grown run read) read) read
  waiting_mark n d = next_on g (waiting level run l) read h n ∙ rw (ne_eqb read level d)
