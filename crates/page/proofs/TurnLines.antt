-- A turn that goes on leaves fewer reads, since an event takes at least the read that brings it; so the number of turns
-- does not matter once it passes that of the reads.
use Rattle.std.proofs.Common.{ℕ, zero, suc, ◌+◌, ◌<◌, ◌≡◌, refl, ap, Bool, true, false, List, [], ◌++◌, add-one, arith, length, drop, length-drop}
use Rattle.measure.specs.Choose.{choose}
use Rattle.measure.specs.Refusals.{Answer, given, refused, refused_after}
use Rattle.board.specs.Rows.{Event, nothing, row, broken}
use Rattle.board.specs.Answers.{listened}
use Rattle.board.proofs.HeardLaws.{Brings, heard_all}
use Rattle.page.specs.Walk.{Walk, after_turn, line_at, goes_on, lines_from, lines_of}

-- more lines follow an event alone
pub goes_brings : (answer : Answer Event) → goes_on answer ≡ true → Brings answer
goes_brings (given nothing) e = let z : ◌≡◌ {A = ℕ} 0 1 = cc in absurd (omega arith)
goes_brings (given (row bits)) e = tt
goes_brings (given (broken found)) e = tt
goes_brings (refused number place) e = let z : ◌≡◌ {A = ℕ} 0 1 = cc in absurd (omega arith)
goes_brings (refused_after number place count) e = let z : ◌≡◌ {A = ℕ} 0 1 = cc in absurd (omega arith)

-- a turn that goes on leaves fewer reads
fewer : (w : Walk) (left : List ℕ) → goes_on (listened w.receiver left).0.answer ≡ true
    → length (drop (listened w.receiver left).1 left) < length left
fewer w left e =
    let heard = heard_all w.receiver left in
    omega (
      arith,
      length-drop (listened w.receiver left).1 left,
      heard.least (goes_brings (listened w.receiver left).0.answer e),
      heard.most,
    )

-- the lines of more turns than reads are the same, however many turns
enough : (turns others : ℕ) (w : Walk) (left : List ℕ) → length left < turns → length left < others
    → lines_from turns w left ≡ lines_from others w left
unfolding lines_from
enough zero others w left h k = absurd (omega arith)
enough (suc turns) zero w left h k = absurd (omega arith)
enough (suc turns) (suc others) w left h k =
    ap (λ (lines : List ℕ). line_at (after_turn w (listened w.receiver left)) (listened w.receiver left).0.answer
    ++ lines)
    (go (goes_on (listened w.receiver left).0.answer) refl (enough turns others))
  where
    go : (more : Bool) → goes_on (listened w.receiver left).0.answer ≡ more
        → ((w : Walk) (left : List ℕ) → length left < turns → length left < others
        → lines_from turns w left ≡ lines_from others w left)
        → choose more
        (lines_from turns (after_turn w (listened w.receiver left)) (drop (listened w.receiver left).1 left)) []
        ≡ choose more
        (lines_from others (after_turn w (listened w.receiver left)) (drop (listened w.receiver left).1 left)) []
    go true e rest =
        let size : length (drop (listened w.receiver left).1 left) < length left = fewer w left e in
        rest (after_turn w (listened w.receiver left)) (drop (listened w.receiver left).1 left) (omega arith)
        (omega arith)
    go false e rest = refl

-- all lines are that of a turn and, where it goes on, all that follow
pub turn_lines : (w : Walk) (left : List ℕ) → lines_of w left
    ≡ line_at (after_turn w (listened w.receiver left)) (listened w.receiver left).0.answer
    ++ choose (goes_on (listened w.receiver left).0.answer)
    (lines_of (after_turn w (listened w.receiver left)) (drop (listened w.receiver left).1 left)) []
unfolding lines_from
turn_lines w left =
    rw (add-one (length left))
    (ap (λ (lines : List ℕ). line_at (after_turn w (listened w.receiver left)) (listened w.receiver left).0.answer
    ++ lines)
    (go (goes_on (listened w.receiver left).0.answer) refl))
  where
    go : (more : Bool) → goes_on (listened w.receiver left).0.answer ≡ more
        → choose more
        (lines_from (length left) (after_turn w (listened w.receiver left))
        (drop (listened w.receiver left).1 left)) []
        ≡ choose more
        (lines_of (after_turn w (listened w.receiver left)) (drop (listened w.receiver left).1 left)) []
    go true e =
        enough (length left) (length (drop (listened w.receiver left).1 left) + 1)
        (after_turn w (listened w.receiver left)) (drop (listened w.receiver left).1 left)
        (fewer w left e) (omega arith)
    go false e = refl
