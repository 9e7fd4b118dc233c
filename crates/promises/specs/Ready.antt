-- When a row is ready: with nothing replaced, the read that delivers it lies within the code subcell of the row's last
-- cell. It stands beside demand 3, and asks the same.
use Rattle.std.specs.Prelude.{ℕ, suc, ◌+◌, ◌-◌, ◌≤◌, ◌<◌, ◌≡◌, List, [], ◌∷◌, length}
use Rattle.sender.specs.Sending.{Row, plan_wave}
use Rattle.board.specs.Rows.{row as delivered, fresh}
use Rattle.board.specs.Feeding.{Report, reports}
use Rattle.promises.specs.Places.{Scene, Link, scene, deliveries}
use Rattle.promises.specs.Demand3.{Fitting, receiver_settings}

-- D25: The read at this place, and the cell that ends before this cycle: the read ends no later than the cell, and
-- starts no earlier than the cell's code subcell. A whole cell comes before the cycle, so the difference does not stop
-- at 0.
pub record WithinCode (x : Scene) (cycle place : ℕ) : Type 0 where
  pub cell : x.a + x.b ≤ cycle
  pub read : place < length x.reads
  pub starts : x.starts (cycle - x.b) ≤ x.begins place
  pub ends : x.begins (suc place) ≤ x.starts cycle

-- D26: more sharply, one time unit at least is left on either side: after the code has settled, which takes g cycles,
-- and before the cell ends
pub record WithinSettledCode (x : Scene) (cycle place : ℕ) : Type 0 where
  pub cell : x.a + x.b ≤ cycle
  pub read : place < length x.reads
  pub starts : x.starts (cycle - x.b + x.g) + 1 ≤ x.begins place
  pub ends : x.begins (suc place) + 1 ≤ x.starts cycle

-- D25: rows, the first of which begins with this cycle, and reports: the rows in order and nothing else, each with a
-- read for which this holds of the cycle after the row
abbrev pub EachRow : (a b : ℕ) (holds : ℕ → ℕ → Type 0) (cycle : ℕ) → List Row → List Report → Type 0
EachRow a b holds cycle [] [] = Unit {0}
EachRow a b holds cycle [] (report ∷ reports) = ⊥
EachRow a b holds cycle (one ∷ rows) [] = ⊥
EachRow a b holds cycle (one ∷ rows) (report ∷ reports) =
    (report.event ≡ delivered one.bits)
    × holds (cycle + length (plan_wave a b (one ∷ []))) report.place
    × EachRow a b holds (cycle + length (plan_wave a b (one ∷ []))) rows reports

-- D25, D26: of whatever hears the reads as they are: its reports are those that demand 3 speaks of, and each read that
-- brings one lies within the code subcell
pub record Ready (x : Scene) (hear : List ℕ → List Report) : Type 0 where
  pub reported : hear x.reads ≡ deliveries x 0 x.rows
  pub within_code : EachRow x.a x.b (WithinCode x) 0 x.rows (hear x.reads)
  pub settled : EachRow x.a x.b (WithinSettledCode x) 0 x.rows (hear x.reads)

-- D25, D26: what is promised of the rules, for every g, on a straight pair and on a crossed one, with steady clocks and
-- with any others that keep to their ends and reach the wave's end
abbrev pub ReadyHolds : Type 0
ReadyHolds = (x : Link) → Fitting x → Ready (scene x) (reports (receiver_settings (scene x)) fresh 0)
