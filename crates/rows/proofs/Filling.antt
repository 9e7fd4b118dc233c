-- A page is filled turn by turn: the lines on it and all those from where the program stands are all the lines from
-- where it began.
use Prim.Native.Nat.{ℕ, ◌+◌, ◌-◌, ◌≤◌, ◌<◌}
use mathlib.Core.Path.{◌≡◌, refl, sym, ap, subst, ◌∙◌}
use mathlib.Core.Bool.{Bool, true, false}
use mathlib.Core.List.{List, [], ◌++◌, append_assoc, append-nil}
use native.Mathlib.Omega.{arith}
use Rattle.std.proofs.Common.{Option, Some, None}
use lib.ListN.{length, take, drop, length-append, length-drop, drop_of_length-le}
use lib.Seq.{take_all, take-append-add, take-append_seam, drop-drop, length-take-le}
use Rattle.measure.specs.Choose.{choose}
use Rattle.measure.specs.Lists.{onto}
use Rattle.measure.specs.Refusals.{Answer, given, refused, refused_after}
use Rattle.board.specs.Rows.{Event, nothing, row, broken}
use Rattle.board.specs.Answers.{Outcome, listened}
use Rattle.page.specs.Walk.{Walk, rows_after, after_turn, goes_on, lines_of}
use Rattle.board.proofs.HeardLaws.{Heard, heard_all}
use Rattle.page.proofs.TurnLines.{goes_brings, turn_lines}
use Rattle.rows.specs.Turns.{Ready, turn_line, turned, lines_on, Filled}

-- the part of a list from a place to its end, as it is lent
abbrev pub tail : ℕ → List ℕ → List ℕ
tail i l = take (length l - i) (drop i l)

pub tail_all : (i : ℕ) (l : List ℕ) → tail i l ≡ drop i l
tail_all i l = take_all (length l - i) (drop i l) (omega (arith, length-drop i l))

tail_none : (i : ℕ) (l : List ℕ) → drop (length l - i) (drop i l) ≡ []
tail_none i l = drop_of_length-le (drop i l) {i = length l - i} (omega (arith, length-drop i l))

-- the reads that are lent to a turn are those that are left
pub ready_left : (at : Walk) (reads : List ℕ) → Ready at (length reads)
    → Ready at (at.place + length (tail at.place reads))
ready_left at reads r =
    let e : at.place + length (tail at.place reads) ≡ length reads =
    omega (arith, ap length (tail_all at.place reads), length-drop at.place reads, r.within) in
    rw e r

-- a page that is being filled, from where the program began to where it stands
pub record Filling (w : Walk) (reads page₀ page : List ℕ) (at : Walk) (bytes : ℕ) : Type 0 where
  pub lines : lines_of w (drop w.place reads) ≡ take bytes page ++ lines_of at (drop at.place reads)
  pub room : bytes ≤ length page
  pub size : length page ≡ length page₀
  pub ready : Ready at (length reads)
  pub onwards : w.place ≤ at.place
  pub further : 1 ≤ bytes → w.place < at.place

pub filling_none : (w : Walk) (reads page : List ℕ) → Ready w (length reads) → Filling w reads page page w 0
filling_none w reads page r =
    record {
      lines = refl;
      room = omega arith;
      size = refl;
      ready = r;
      onwards = omega arith;
      further =
          λ h. absurd (omega arith);
    }

-- reads bring no more rows than they are
rows_most : (all rows : ℕ) (heard : Outcome × ℕ) → Heard all heard → rows_after heard.0.answer rows ≤ rows + heard.1
rows_most all rows heard h = go heard.0.answer (λ e. h.least (goes_brings heard.0.answer e))
  where
    go : (answer : Answer Event) → (goes_on answer ≡ true → 1 ≤ heard.1) → rows_after answer rows ≤ rows + heard.1
    go (given nothing) least = omega arith
    go (given (row bits)) least = omega (arith, least refl)
    go (given (broken found)) least = omega arith
    go (refused number place) least = omega arith
    go (refused_after number place count) least = omega arith

-- a line on a page after so many bytes
line_after : (page line : List ℕ) (bytes : ℕ) → bytes ≤ length page
    → take (bytes + length line) (take bytes page ++ onto line (drop bytes page)) ≡ take bytes page ++ line
line_after page line bytes h =
    let n : length (take bytes page) ≡ bytes = length-take-le bytes page h in
    ap (λ (k : ℕ). take (k + length line) (take bytes page ++ onto line (drop bytes page))) (sym n)
    ∙ take-append-add (take bytes page) (onto line (drop bytes page)) (length line)
    ∙ rw (take-append_seam line (drop (length line) (drop bytes page)))

-- a page with the part from so many bytes on as it came back: what lies beyond that part is nothing
abbrev pub back : List ℕ → ℕ → List ℕ → List ℕ
back page bytes out = take bytes page ++ (out ++ drop (length page - bytes) (drop bytes page))

-- where the program stands next, if it goes on
lines_chosen : (reads : List ℕ) (after : Walk) (more : Bool)
    → choose more (lines_of after (drop after.place reads)) [] ≡ lines_on reads (choose more (Some after) None)
lines_chosen reads after true = refl
lines_chosen reads after false = refl

next_is : (more : Bool) (one after : Walk) → choose more (Some one) None ≡ Some after → (more ≡ true) × (one ≡ after)
next_is true one after e = (refl, cc)
next_is false one after e = let z : ◌≡◌ {A = ℕ} 0 1 = cc in absurd (omega arith)

-- what a turn makes of a page that is being filled
pub record TurnedPage (w : Walk) (reads page₀ page : List ℕ) (at : Walk) (bytes : ℕ) (next : Option Walk) (n : ℕ)
    (out : List ℕ) : Type 0 where
  pub size : length (back page bytes out) ≡ length page₀
  pub most : bytes + n ≤ length page₀
  pub filled : Filled w reads (back page bytes out) next (bytes + n)
  pub further : (after : Walk) → next ≡ Some after → at.place < after.place
  pub filling : (after : Walk) → next ≡ Some after → Filling w reads page₀ (back page bytes out) after (bytes + n)

module _ (w : Walk) (reads page₀ page : List ℕ) (at : Walk) (bytes : ℕ) (f : Filling w reads page₀ page at bytes) where
  left : List ℕ
  left = drop at.place reads

  heard : Outcome × ℕ
  heard = listened at.receiver left

  known : Heard (length left) heard
  unfolding heard
  known = heard_all at.receiver left

  -- the turn as it is defined
  filled_defined : length (turn_line at left) ≤ length page - bytes
      → Filled w reads (take bytes page ++ onto (turn_line at left) (drop bytes page))
      (choose (goes_on heard.0.answer) (Some (after_turn at heard)) None) (bytes + length (turn_line at left))
  unfolding left heard
  filled_defined fits =
      let n : length (take bytes page) ≡ bytes = length-take-le bytes page f.room in
      let r : Ready at (length reads) = f.ready in
      let count : length left ≡ length reads - at.place = length-drop at.place reads in
      let passed : drop heard.1 left ≡ drop (at.place + heard.1) reads = drop-drop heard.1 at.place reads in
      record {
        lines =
            f.lines
            ∙ ap (λ (l : List ℕ). take bytes page ++ l) (turn_lines at left)
            ∙ rw (passed, line_after page (turn_line at left) bytes f.room)
            (sym (append_assoc (take bytes page) (turn_line at left)
            (choose (goes_on heard.0.answer)
            (lines_of (after_turn at heard) (drop (at.place + heard.1) reads)) []))
            ∙ ap (λ (l : List ℕ). take bytes page ++ turn_line at left ++ l)
            (lines_chosen reads (after_turn at heard) (goes_on heard.0.answer)));
        room = omega (
          arith,
          length-append (take bytes page) (onto (turn_line at left) (drop bytes page)),
          length-append (turn_line at left) (drop (length (turn_line at left)) (drop bytes page)),
          length-drop (length (turn_line at left)) (drop bytes page),
          length-drop bytes page,
        );
        ready = λ after e.
            let next = next_is (goes_on heard.0.answer) (after_turn at heard) after e in
            subst (λ (stand : Walk). Ready stand (length reads)) next.1
            (record {
              within = omega (arith, known.most, r.within);
              few = r.few;
              fewer = omega (arith, rows_most (length left) at.rows heard known, r.fewer);
            });
        further = λ after e.
            let next = next_is (goes_on heard.0.answer) (after_turn at heard) after e in
            omega (
              arith,
              known.least (goes_brings heard.0.answer next.0),
              f.onwards,
              ap (λ (stand : Walk). stand.place) next.1,
            );
      }

  -- The turn as the code has it: the part of a list up to its end is lent by its length.
  pub turned_page : (next : Option Walk) (n : ℕ) (out : List ℕ)
      → turned at (tail at.place reads) (tail bytes page) ≡ (next, n, out)
      → length out ≡ length (tail bytes page) → TurnedPage w reads page₀ page at bytes next n out
  unfolding turned left heard
  turned_page next n out e kept =
      let told : turned at (drop at.place reads) (drop bytes page) ≡ (next, n, out) =
      rw (tail_all at.place reads, tail_all bytes page) at e in
      let size : length out ≡ length page - bytes = kept ∙ rw (tail_all bytes page) (length-drop bytes page) in
      let back_is : back page bytes out ≡ take bytes page ++ out = rw (tail_none bytes page, append-nil out) in
      let back-size : length (back page bytes out) ≡ length page₀ =
      rw back_is
      (length-append (take bytes page) out
      ∙ omega (arith, size, length-take-le bytes page f.room, f.room, f.size)) in
      let out-is : onto (turn_line at left) (drop bytes page) ≡ out =
      ap (λ (t : Option Walk × ℕ × List ℕ). t.2) told in
      let whole : length out
      ≡ length (turn_line at left) + length (drop (length (turn_line at left)) (drop bytes page)) =
      ap length (sym out-is)
      ∙ length-append (turn_line at left) (drop (length (turn_line at left)) (drop bytes page)) in
      let filled : Filled w reads (back page bytes out) next (bytes + n) =
      rw back_is
      (subst (λ (t : Option Walk × ℕ × List ℕ). Filled w reads (take bytes page ++ t.2) t.0 (bytes + t.1)) told
      (filled_defined (omega (arith, size, whole)))) in
      let stands : choose (goes_on heard.0.answer) (Some (after_turn at heard)) None ≡ next =
      ap (λ (t : Option Walk × ℕ × List ℕ). t.0) told in
      let further : (after : Walk) → next ≡ Some after → at.place < after.place =
      λ after on.
      let stand = next_is (goes_on heard.0.answer) (after_turn at heard) after (stands ∙ on) in
      omega (
        arith,
        known.least (goes_brings heard.0.answer stand.0),
        ap (λ (stand : Walk). stand.place) stand.1,
      ) in
      record {
        size = back-size;
        most = omega (arith, filled.room, back-size);
        filled = filled;
        further = further;
        filling = λ after on.
            let on-filled : Filled w reads (back page bytes out) (Some after) (bytes + n) = rw on at filled in
            record {
              lines = on-filled.lines;
              room = on-filled.room;
              size = back-size;
              ready = on-filled.ready after refl;
              onwards = omega (arith, f.onwards, further after on);
              further = λ _. omega (arith, f.onwards, further after on);
            };
      }
