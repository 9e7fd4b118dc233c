-- A receiver on reads turned over is the receiver turned over: its rules ask whether two levels are equal, and never
-- which they are. Only a fresh receiver's run has a level that no read gave it, and a run of 0 is looked at by no read.
use Prim.Native.Nat.{ℕ, zero, suc, ◌+◌, ◌-◌, ◌≤◌, min}
use mathlib.Core.Path.{◌≡◌, refl, sym, ◌∙◌, ap}
use mathlib.Core.List.{List, [], ◌∷◌, ◌++◌, map}
use mathlib.Core.Bool.{Bool, true, false}
use native.Mathlib.Omega.{arith}
use lib.Dec.{eqb}
use lib.ListN.{length}
use Rattle.measure.specs.Choose.{choose}
use Rattle.measure.specs.Levels.{Levels}
use Rattle.measure.specs.Cells.{bit_of}
use Rattle.board.specs.declared.Mode.{Mode}
use Rattle.board.specs.declared.Mode.TheVariants.{Hunting, Ready, Counting, Waiting}
use Rattle.board.specs.Rows.{Settings, Run, run_of, State, Moved, run_after, quietened, listening}
use Rattle.board.specs.Rows.{fresh, next}
use Rattle.board.specs.Feeding.{noted, reports_by, reports}
use Rattle.board.specs.Crossed.{turned, SameCrossed}

-- the level that a mode keeps, turned over: in hunting it is high, and stays so
abbrev kept : Mode → (level : ℕ) → ℕ
kept Hunting level = level
kept Ready level = turned level
kept Counting level = turned level
kept Waiting level = turned level

abbrev over : State → State
over s =
    record {
      mode = s.mode;
      left = s.left;
      level = kept s.mode s.level;
      run = run_of s.run.reads (turned s.run.level);
      bits = s.bits;
    }

abbrev moved : Moved → Moved
moved m = record { state = over m.state; event = m.event }

-- its levels are levels
pub record Leveled (s : State) : Type 0 where
  pub kept : s.level ≤ 1
  pub run : s.run.level ≤ 1

-- a choice turned over is a choice of what is turned over
either : (b : Bool) (one other : Moved) → moved (choose b one other) ≡ choose b (moved one) (moved other)
either true one other = refl
either false one other = refl

either_of_two : (b c : Bool) (one two other : Moved)
    → moved (choose b (choose c one two) other) ≡ choose b (choose c (moved one) (moved two)) (moved other)
either_of_two true true one two other = refl
either_of_two true false one two other = refl
either_of_two false c one two other = refl

-- two levels are equal where they are so turned over
same : (x y : ℕ) → x ≤ 1 → y ≤ 1 → eqb (turned x) (turned y) ≡ eqb x y
same zero zero p q = refl
same zero (suc zero) p q = refl
same (suc zero) zero p q = refl
same (suc zero) (suc zero) p q = refl
same (suc (suc x)) y p q = absurd (omega arith)
same zero (suc (suc y)) p q = absurd (omega arith)
same (suc zero) (suc (suc y)) p q = absurd (omega arith)

module _ (g : Settings) (x : ℕ) (lx : x ≤ 1) where
  -- the rule of each mode
  heard : (m : Mode) (left level reads : ℕ) (run : Run) (bits : List ℕ) → level ≤ 1
      → let s : State = record { mode = m; left = left; level = level; run = run; bits = bits } in
      listening m g (over s) (run_of reads (turned x)) (turned x) ≡ moved (listening m g s (run_of reads x) x)
  heard Hunting left level reads run bits p = refl
  heard Ready left level reads run bits p =
      rw (same x level lx p) (sym (either (eqb x level) _ _))
  heard Counting left level reads run bits p =
      rw (same x level lx p)
      (sym (either_of_two (eqb (left - 1) 0) (eqb (length (bits ++ bit_of level x ∷ [])) g.n) _ _ _))
  heard Waiting left level reads run bits p =
      rw (same x level lx p) (sym (either (eqb x level) _ _))

  pub next_over : (s : State) → Leveled s → next g (over s) (turned x) ≡ moved (next g s x)
  unfolding next
  next_over s l =
      rw (same x s.run.level lx l.run)
      (ap (λ (m : Moved). choose (eqb (run_after g.Q s.run x).reads g.Q) (moved (quietened g s x)) m)
      (heard s.mode s.left s.level (run_after g.Q s.run x).reads s.run s.bits l.kept)
      ∙ sym (either (eqb (run_after g.Q s.run x).reads g.Q) _ _))

-- levels stay levels

pick : (b : Bool) (one other : Moved) → Leveled one.state → Leveled other.state
    → Leveled (choose b one other).state
pick true one other p q = p
pick false one other p q = q

leveled_next : (g : Settings) (s : State) (x : ℕ) → x ≤ 1 → Leveled s → Leveled (next g s x).state
unfolding next
leveled_next g s x p l =
    pick (eqb (run_after g.Q s.run x).reads g.Q) _ _ (record { kept = p; run = p }) (go s.mode)
  where
    go : (m : Mode) → Leveled (listening m g s (run_after g.Q s.run x) x).state
    go Hunting = record { kept = l.kept; run = p }
    go Ready =
        pick (eqb x s.level) _ _ (record { kept = l.kept; run = p }) (record { kept = p; run = p })
    go Counting =
        pick (eqb (s.left - 1) 0) _ _
        (pick (eqb (length (s.bits ++ bit_of s.level x ∷ [])) g.n) _ _
        (record { kept = omega arith; run = p }) (record { kept = p; run = p }))
        (record { kept = l.kept; run = p })
    go Waiting =
        pick (eqb x s.level) _ _ (record { kept = l.kept; run = p }) (record { kept = p; run = p })

reports_over : (g : Settings) (reads : List ℕ) (place : ℕ) (s : State) → Leveled s → Levels reads
    → reports g (over s) place (map turned reads) ≡ reports g s place reads
unfolding reports_by
reports_over g [] place s l b = refl
reports_over g (x ∷ reads) place s l b =
    rw (next_over g x b.0 s l)
    (ap (noted place (next g s x).event)
    (reports_over g reads (suc place) (next g s x).state (leveled_next g s x b.0 l) b.1))

-- to a run of 0 a read of either level is the first
fresh_over : (g : Settings) (x : ℕ) → 2 ≤ g.Q → x ≤ 1 → next g fresh x ≡ next g (over fresh) x
unfolding next
fresh_over g zero q p = let one : min (0 + 1) g.Q ≡ 1 = omega arith in rw one
fresh_over g (suc zero) q p = let one : min (0 + 1) g.Q ≡ 1 = omega arith in rw one
fresh_over g (suc (suc x)) q p = absurd (omega arith)

pub same_crossed : SameCrossed
unfolding reports_by
same_crossed g place [] q b = refl
same_crossed g place (x ∷ reads) q b =
    rw (fresh_over g (turned x) q (omega arith))
    (reports_over g (x ∷ reads) place fresh (record { kept = omega arith; run = omega arith }) b)
