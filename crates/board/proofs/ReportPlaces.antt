-- Where reports stand: each at the place of a read that was fed, and where the reads are moved, so are the reports.
use mathlib.Core.Path.{◌≡◌, refl, ap, ◌∙◌}
use mathlib.Core.List.{List, [], ◌∷◌, map}
use Prim.Native.Nat.{ℕ, suc, ◌+◌, ◌≤◌, ◌<◌}
use native.Mathlib.Omega.{arith}
use lib.ListN.{length}
use Rattle.board.specs.Rows.{State, Event, nothing, row, broken}
use Rattle.board.specs.Feeding.{Report, noted, Step, reports_by}

-- each report stands from one place on and below another
abbrev pub Within : (from to : ℕ) → List Report → Type 0
Within from to [] = Unit {0}
Within from to (report ∷ reports) = (from ≤ report.place) × (report.place < to) × Within from to reports

-- a report at the place that f makes of its own
abbrev pub move_to : (ℕ → ℕ) → Report → Report
move_to f report = record { place = f report.place; event = report.event }

module _ (step : Step) where
  pub reports_within : (from to : ℕ) (reads : List ℕ) (place : ℕ) (s : State) → from ≤ place
      → place + length reads ≤ to → Within from to (reports_by step s place reads)
  unfolding reports_by
  reports_within from to [] place s lo hi = tt
  reports_within from to (read ∷ reads) place s lo hi =
      go (step s read).event
      (reports_within from to reads (suc place) (step s read).state (omega arith) (omega arith))
    where
      rest : List Report
      rest = reports_by step (step s read).state (suc place) reads

      go : (event : Event) → Within from to rest → Within from to (noted place event rest)
      go nothing h = h
      go (row bits) h = (lo, omega arith, h)
      go (broken found) h = (lo, omega arith, h)

  -- f takes the next place to the next
  pub reports_moved : (f : ℕ → ℕ) (reads : List ℕ) (place : ℕ) (s : State)
      → ((at : ℕ) → place ≤ at → f (suc at) ≡ suc (f at))
      → map (move_to f) (reports_by step s place reads) ≡ reports_by step s (f place) reads
  unfolding reports_by
  reports_moved f [] place s on = refl
  reports_moved f (read ∷ reads) place s on =
      go (step s read).event
      (reports_moved f reads (suc place) (step s read).state (λ at h. on at (omega arith))
      ∙ ap (λ (at : ℕ). reports_by step (step s read).state at reads) (on place (omega arith)))
    where
      rest : List Report
      rest = reports_by step (step s read).state (suc place) reads

      moved : List Report
      moved = reports_by step (step s read).state (suc (f place)) reads

      go : (event : Event) → map (move_to f) rest ≡ moved
          → map (move_to f) (noted place event rest) ≡ noted (f place) event moved
      go nothing e = e
      go (row bits) e = ap (λ (l : List Report). record { place = f place; event = row bits } ∷ l) e
      go (broken found) e = ap (λ (l : List Report). record { place = f place; event = broken found } ∷ l) e
