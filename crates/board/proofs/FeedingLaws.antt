-- Feeding reads in two parts is feeding them in one: the second part starts from the state that the first leaves, at
-- the place after it.
use Prim.Native.Nat.{ℕ, suc, ◌+◌, ◌≤◌}
use mathlib.Core.Path.{◌≡◌, refl}
use mathlib.Core.List.{List, [], ◌∷◌, ◌++◌, map}
use native.Mathlib.Omega.{arith}
use lib.ListN.{length, get_or}
use Rattle.board.specs.Rows.{State, Event, nothing, row, broken}
use Rattle.board.specs.Feeding.{Report, noted, Step, after_by, reports_by, used_of}

pub after_append : (step : Step) (s : State) (a b : List ℕ)
    → after_by step s (a ++ b) ≡ after_by step (after_by step s a) b
unfolding after_by
after_append step s [] b = refl
after_append step s (read ∷ a) b = after_append step (step s read).state a b

pub noted_append : (place : ℕ) (event : Event) (a b : List Report)
    → noted place event (a ++ b) ≡ noted place event a ++ b
noted_append place nothing a b = refl
noted_append place (row bits) a b = refl
noted_append place (broken found) a b = refl

pub reports_append : (step : Step) (s : State) (place : ℕ) (a b : List ℕ)
    → reports_by step s place (a ++ b) ≡ reports_by step s place a
    ++ reports_by step (after_by step s a) (place + length a) b
unfolding after_by reports_by
reports_append step s place [] b = let e : place + 0 ≡ place = omega arith in rw e
reports_append step s place (read ∷ a) b =
    let e : place + suc (length a) ≡ suc place + length a = omega arith in
    rw (reports_append step (step s read).state (suc place) a b, e)
    (noted_append place (step s read).event (reports_by step (step s read).state (suc place) a)
    (reports_by step (after_by step (step s read).state a) (suc place + length a) b))

-- what every read that is a level keeps, a list of levels keeps
pub after_keeps : (step : Step) (P : State → Type 0)
    → ((s : State) (read : ℕ) → P s → read ≤ 1 → P (step s read).state)
    → (s : State) (reads : List ℕ) → P s → ((i : ℕ) → get_or reads i 0 ≤ 1) → P (after_by step s reads)
unfolding after_by
after_keeps step P keeps s [] h levels = h
after_keeps step P keeps s (read ∷ reads) h levels =
    after_keeps step P keeps (step s read).state reads (keeps s read h (levels 0)) (λ i. levels (suc i))

-- a report so many places later
abbrev pub later : ℕ → Report → Report
later d report = record { place = report.place + d; event = report.event }

-- fed so many places later, the same reads bring the same reports so many places later
pub reports_later : (step : Step) (s : State) (place d : ℕ) (reads : List ℕ)
    → reports_by step s (place + d) reads ≡ map (later d) (reports_by step s place reads)
unfolding reports_by
reports_later step s place d [] = refl
reports_later step s place d (read ∷ reads) =
    let e : suc (place + d) ≡ suc place + d = omega arith in
    rw (e, reports_later step (step s read).state (suc place) d reads)
    (go (step s read).event (reports_by step (step s read).state (suc place) reads))
  where
    go : (event : Event) (reports : List Report)
        → noted (place + d) event (map (later d) reports) ≡ map (later d) (noted place event reports)
    go nothing reports = refl
    go (row bits) reports = refl
    go (broken found) reports = refl

-- the first report stands at a read that was fed
pub used_least : (step : Step) (s : State) (place : ℕ) (reads : List ℕ)
    → place ≤ used_of (reports_by step s place reads) (place + length reads)
unfolding reports_by
used_least step s place [] = omega arith
used_least step s place (read ∷ reads) =
    let e : place + suc (length reads) ≡ suc place + length reads = omega arith in
    rw e (go (step s read).event (used_least step (step s read).state (suc place) reads))
  where
    go : (event : Event)
        → suc place ≤ used_of (reports_by step (step s read).state (suc place) reads) (suc place + length reads)
        → place ≤ used_of (noted place event (reports_by step (step s read).state (suc place) reads))
        (suc place + length reads)
    go nothing h = omega arith
    go (row bits) h = omega arith
    go (broken found) h = omega arith
