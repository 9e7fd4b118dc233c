-- The outcome of a list of reads, which is stated by its reports, is the outcome read by read: each read is passed,
-- reported, or no level.
use Prim.Native.Nat.{ℕ, suc, ◌+◌, ◌-◌, ◌≤◌}
use mathlib.Core.Path.{◌≡◌, refl, sym, ◌∙◌, ap}
use mathlib.Core.List.{List, [], ◌∷◌}
use mathlib.Core.Bool.{Bool, true, false, ◌&&◌, and-false}
use native.Mathlib.Numerals.{add-one}
use native.Mathlib.Omega.{arith}
use native.Mathlib.Decide.{dec_le}
use borrow.Author.Tests.{le-leb, lt-leb, lt-ltb}
use lib.Dec.{leb, ltb, leb-suc-suc}
use lib.ListN.{length, take}
use lib.Seq.{take-nil}
use Rattle.measure.specs.Choose.{choose}
use Rattle.measure.specs.Ranges.{entries_most}
use Rattle.measure.specs.Lists.{first_above, some_above}
use Rattle.board.specs.declared.Receiver.{Receiver}
use Rattle.board.specs.Rows.{Settings, State, Event, nothing, row, broken, next}
use Rattle.board.specs.Feeding.{Report, noted, after_by, reports_by, reports, after, first_event, used_of}
use Rattle.board.specs.Packed.{settings_of, state_of}
use Rattle.board.specs.WellFormed.{well_formed}
use Rattle.board.specs.Answers.{Outcome, reached, refusing, levels_of, silent, to_event, listened, stepped}
use Rattle.board.specs.Listening.{heard_from, event_or_rest}
use Rattle.board.proofs.FeedingLaws.{used_least}

-- the outcome by reports: whether some read is no level and where the first of those stands, the reads before it, the
-- first at this place, and their reports
abbrev by_reports : Receiver → Settings → State → (place : ℕ) (bad : Bool) (at : ℕ) (levels : List ℕ)
    (reported : List Report) → Outcome × ℕ
by_reports x g s place bad at levels reported =
    choose (bad && silent reported) (refusing x 2 at, 0) (
      reached g (after g s (take (used_of reported (place + length levels) - place) levels)) (first_event reported),
      used_of reported (place + length levels),
    )

-- a read that brings nothing is passed
passed : (x : Receiver) (g : Settings) (s : State) (place : ℕ) (bad : Bool) (f read : ℕ) (levels : List ℕ)
    (reported : List Report)
    → suc place ≤ used_of reported (suc place + length levels)
    → by_reports x g s place bad (place + suc f) (read ∷ levels) reported
    ≡ by_reports x g (next g s read).state (suc place) bad (suc place + f) levels reported
unfolding after_by
passed x g s place bad f read levels reported h =
    let at : place + suc f ≡ suc place + f = omega arith in
    let all : place + suc (length levels) ≡ suc place + length levels = omega arith in
    let part : used_of reported (suc place + length levels) - place
    ≡ suc (used_of reported (suc place + length levels) - suc place) = omega arith in
    rw (at, all, part) refl

pub by_reads : (x : Receiver) (g : Settings) (s : State) (place : ℕ) (reads : List ℕ)
    → by_reports x g s place (some_above 1 reads) (place + first_above 1 reads) (levels_of reads)
    (reports g s place (levels_of reads)) ≡ heard_from x g s place reads
unfolding first_above after_by reports_by heard_from
by_reads x g s place [] = let e : place + 0 ≡ place = omega arith in rw (take-nil (place + 0 - place), e)
by_reads x g s place (read ∷ reads) = go (dec_le read 1) (by_reads x g (next g s read).state (suc place) reads)
  where
    f : ℕ
    f = first_above 1 reads

    rest : List Report
    rest = reports g (next g s read).state (suc place) (take f reads)

    came : (event : Event)
        → by_reports x g (next g s read).state (suc place) (some_above 1 reads) (suc place + f) (take f reads) rest
        ≡ heard_from x g (next g s read).state (suc place) reads
        → by_reports x g s place (some_above 1 reads) (place + suc f) (read ∷ take f reads) (noted place event rest)
        ≡ event_or_rest g (next g s read).state event (suc place)
        (heard_from x g (next g s read).state (suc place) reads)
    came nothing h =
        passed x g s place (some_above 1 reads) f read (take f reads) rest
        (used_least (next g) (next g s read).state (suc place) (take f reads)) ∙ h
    came (row bits) h = let e : place + 1 - place ≡ 1 = omega arith in
        rw (and-false (some_above 1 reads), e, add-one place) refl
    came (broken found) h = let e : place + 1 - place ≡ 1 = omega arith in
        rw (and-false (some_above 1 reads), e, add-one place) refl

    go : Dec (read ≤ 1)
        → by_reports x g (next g s read).state (suc place) (some_above 1 reads) (suc place + f) (take f reads) rest
        ≡ heard_from x g (next g s read).state (suc place) reads
        → by_reports x g s place (some_above 1 (read ∷ reads)) (place + first_above 1 (read ∷ reads))
        (levels_of (read ∷ reads)) (reports g s place (levels_of (read ∷ reads)))
        ≡ choose (leb read 1)
        (event_or_rest g (next g s read).state (next g s read).event (suc place)
        (heard_from x g (next g s read).state (suc place) reads)) (refusing x 2 place, 0)
    go (yes p) h = rw (le-leb read 1 p, leb-suc-suc (suc f) (length reads)) (came (next g s read).event h)
    go (no p) h =
        let e : place + 0 ≡ place = omega arith in
        rw (lt-leb read 1 (omega arith), lt-ltb 0 (suc (length reads)) (omega arith), e) refl

from_first : (x : Receiver) (g : Settings) (s : State) (bad : Bool) (f : ℕ) (levels : List ℕ) (reported : List Report)
    → by_reports x g s 0 bad (0 + f) levels reported
    ≡ choose (bad && silent reported) (refusing x 2 f, 0) (to_event g s levels reported)
from_first x g s bad f levels reported =
    let at : 0 + f ≡ f = omega arith in
    let all : 0 + length levels ≡ length levels = omega arith in
    let part : used_of reported (length levels) - 0 ≡ used_of reported (length levels) = omega arith in
    rw (at, all, part) refl

-- the outcome of the slice method, read by read
pub listened_is : (x : Receiver) (reads : List ℕ)
    → listened x reads
    ≡ choose (well_formed x)
    (choose (ltb entries_most (length reads)) (refusing x 3 0, 0) (heard_from x (settings_of x) (state_of x) 0 reads))
    (refusing x 1 0, 0)
unfolding listened
listened_is x reads =
    ap (λ (heard : Outcome × ℕ). choose (well_formed x)
    (choose (ltb entries_most (length reads)) (refusing x 3 0, 0) heard) (refusing x 1 0, 0))
    (sym
    (from_first x (settings_of x) (state_of x) (some_above 1 reads) (first_above 1 reads) (levels_of reads)
    (reports (settings_of x) (state_of x) 0 (levels_of reads)))
    ∙ by_reads x (settings_of x) (state_of x) 0 reads)

-- the outcome of the method for one read
pub stepped_is : (x : Receiver) (read : ℕ)
    → stepped x read ≡ choose (well_formed x) (heard_from x (settings_of x) (state_of x) 0 (read ∷ [])).0 (refusing x 1 0)
unfolding stepped heard_from
stepped_is x read =
    go (well_formed x) (leb read 1) (next (settings_of x) (state_of x) read).state
    (next (settings_of x) (state_of x) read).event
  where
    go : (well level : Bool) (s : State) (event : Event)
        → choose well (choose level (reached (settings_of x) s event) (refusing x 2 0)) (refusing x 1 0)
        ≡ choose well
        (choose level (event_or_rest (settings_of x) s event 1 (reached (settings_of x) s nothing, 1))
        (refusing x 2 0, 0)).0 (refusing x 1 0)
    go true true s nothing = refl
    go true true s (row bits) = refl
    go true true s (broken found) = refl
    go true false s event = refl
    go false level s event = refl

-- one read is a list of one
pub stepped_listened : (x : Receiver) (read : ℕ) → stepped x read ≡ (listened x (read ∷ [])).0
stepped_listened x read =
    stepped_is x read ∙ go (well_formed x) ∙ sym (ap (λ (heard : Outcome × ℕ). heard.0) (listened_is x (read ∷ [])))
  where
    go : (well : Bool)
        → choose well (heard_from x (settings_of x) (state_of x) 0 (read ∷ [])).0 (refusing x 1 0)
        ≡ (choose well (heard_from x (settings_of x) (state_of x) 0 (read ∷ [])) (refusing x 1 0, 0)).0
    go true = refl
    go false = refl
