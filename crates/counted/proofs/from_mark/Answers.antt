-- `from_mark` meets its contract: the first read that is unlike the level is the mark.
use Rattle.std.proofs.Common.{◌≡◌, ◌≢◌, ℕ, List, ◌∷◌, ◌+◌, ◌-◌, length, take, drop, sym, arith, rules, tests, refl}
use Rattle.std.proofs.lemmas.List.{take_all, length-drop}
use Rattle.std.proofs.lemmas.Iterator.{IsFirst-from_position, YieldsList-from_slice, index_from_first}
use Rattle.std.specs.Option.{unwrap_or}
use borrow.Author.Tests.{eq-eqb, ne_eqb}
use Rattle.counted.specs.Counted.{from_mark}
use Rattle.counted.proofs.Marks.{mark_dropped, marked_few}
use Rattle.counted.proofs.from_mark.Goals as goal
use Rattle.counted.proofs.from_mark.Goals.{After-position}

-- how many reads come before the mark
abbrev before : (level : ℕ) (reads : List ℕ) → ℕ
before level reads = length reads - length (from_mark level reads)

before_mark : (level read : ℕ) (reads : List ℕ) → read ≢ level → before level (read ∷ reads) ≡ 0
unfolding from_mark
before_mark level read reads differs = rw (ne_eqb read level differs) (omega arith)

before_more : (level read : ℕ) (reads : List ℕ) → read ≡ level → before level (read ∷ reads) ≡ before level reads + 1
unfolding from_mark
before_more level read reads same = rw (eq-eqb read level same) (omega (arith, marked_few level reads))

-- from the mark's place on stand the reads that `from_mark` gives
marked_at : (level : ℕ) (reads : List ℕ) (mark size : ℕ) → mark ≡ before level reads → size ≡ length reads - mark
    → take size (drop mark reads) ≡ from_mark level reads
marked_at level reads mark size place room =
    let rest = drop (before level reads) reads in
    rw (room, place, take_all (length reads - before level reads) rest (omega (arith, length-drop (before level reads) reads)))
    (sym (mark_dropped level reads))

-- the search finds the mark's place, or none where all reads come before it
found : (c : After-position) → before c.args.level c.args.reads.now ≡ unwrap_or c.position.result (length c.args.reads.now)
unfolding from_mark
found c =
    let level = c.args.level in
    let reads = c.args.reads.now in
    let first = IsFirst-from_position _ _ _ (λ x. x ≢ level) (λ x. x ≡ level) c.position.ensures.ran (YieldsList-from_slice reads cc) (λ x q k. search (rules, tests)) (λ x q k. search (rules, tests)) in
    index_from_first (before level) (λ x. x ≢ level) (λ x. x ≡ level) refl (before_mark level) (before_more level) reads c.position.result first

pub returns-in-Some : goal.returns-in-Some
returns-in-Some c = marked_at c.args.level c.args.reads.now _ _ (omega (arith, rw c.in-Some.is at (found (goal.at.returns-in-Some c).After-position))) (omega arith)

pub returns-in-None : goal.returns-in-None
returns-in-None c = marked_at c.args.level c.args.reads.now _ _ (sym (rw c.in-None.is at (found (goal.at.returns-in-None c).After-position))) refl
