-- A piece that has room is stored, and the place after it given; so a line is put piece by piece, each where the one
-- before it ends, and stands whole at the front of the output.
use Rattle.std.proofs.Common.{◌-◌, refl, rules, tests, Bool, Option, Some, None, ◌≡◌, sym, ap, subst, ◌∙◌, true, false, List, [], ◌∷◌, ◌++◌, append_assoc, append-nil, ℕ, ◌+◌, ◌≤◌, ◌<◌, add-zero, arith, lt-ltb, le-ltb, le-leb, leb, length, length-append, length-take, length-drop, take, drop, drop-drop}
use Rattle.std.specs.List.{concat}
use Rattle.std.proofs.lemmas.List.Edits.{sets, sets-eq}
use Rattle.std.proofs.lemmas.List.Folds.{concat-append}
use Rattle.std.proofs.Math.Seq.{length-sets}
use borrow.Author.Tests.{lt-leb}
use borrow.Rule.Slice.PartMut.{put_mid}
use Rattle.measure.specs.Choose.{choose}
use Rattle.measure.specs.Lists.{onto}
use Rattle.measure.specs.Refusals.{given, refused, lent}
use Rattle.measure.proofs.Laid.{laid_first, sets_joined}
use Rattle.measure.proofs.Stores.{Stored, stored_none, stored_part, stored_next}
use Rattle.text.specs.Putting.{put_at, puts, end_within}

module _ (piece : List ℕ) (at : ℕ) (output : List ℕ) where
  pub put_whole : leb (at + length piece) (length output) ≡ true
      → put_at piece at output ≡ (at + length piece, sets output at piece)
  unfolding put_at
  put_whole e = rw e

  pub put_short : leb (at + length piece) (length output) ≡ false → put_at piece at output ≡ (at, output)
  unfolding put_at
  put_short e = rw e

  -- what a call that put a piece with room gives and leaves
  pub put_gives : (end : ℕ) (left : List ℕ) → at + length piece ≤ length output
      → put_at piece at output ≡ (end, left) → (end ≡ at + length piece) × (left ≡ sets output at piece)
  put_gives end left h e =
      let same : ◌≡◌ {A = ℕ × List ℕ} (end, left) (at + length piece, sets output at piece) =
      sym e ∙ put_whole (le-leb (at + length piece) (length output) h) in
      (ap (λ (p : ℕ × List ℕ). p.0) same, ap (λ (p : ℕ × List ℕ). p.1) same)

-- a place after so many bytes that was found, and one that was not
module _ (at size room : ℕ) where
  pub end_found : (end : ℕ) → end_within at size room ≡ Some end → (at + size ≤ room) × (end ≡ at + size)
  end_found end e = go (leb (at + size) room) refl e
    where
      go : (fits : Bool) → leb (at + size) room ≡ fits → choose fits (Some (at + size)) None ≡ Some end
          → (at + size ≤ room) × (end ≡ at + size)
      go true k f = (search (rules, tests), cc)
      go false k f = let z : ◌≡◌ {A = ℕ} 0 1 = cc in absurd (omega arith)

  pub end_missed : end_within at size room ≡ None → room < at + size
  end_missed e = go (leb (at + size) room) refl e
    where
      go : (fits : Bool) → leb (at + size) room ≡ fits → ◌≡◌ {A = Option ℕ} (choose fits (Some (at + size)) None) None
          → room < at + size
      go true k f = let z : ◌≡◌ {A = ℕ} 0 1 = cc in absurd (omega arith)
      go false k f = search (rules, tests)

-- a part of the output that a piece was copied to
pub part_put : (piece output : List ℕ) (at end : ℕ) → end_within at (length piece) (length output) ≡ Some end
    → put_at piece at output ≡ (end, put_mid at (end - at) output piece)
part_put piece output at end e =
    let found = end_found at (length piece) (length output) end e in
    let place : at + length piece ≡ end = sym found.1 in
    let size : end - at ≡ length piece = omega (arith, found.1) in
    put_whole piece at output (le-leb (at + length piece) (length output) found.0)
    ∙ rw (place, size, drop-drop (length piece) at output, sets-eq piece output at found.0, append_assoc) refl

-- that part is as long as the piece
pub part_size : (piece output : List ℕ) (at end : ℕ) → end_within at (length piece) (length output) ≡ Some end
    → length (take (end - at) (drop at output)) ≡ length piece
part_size piece output at end e =
    let found = end_found at (length piece) (length output) end e in
    omega (arith, found.0, found.1, length-take (end - at) (drop at output), length-drop at output)

pub part_short : (piece output : List ℕ) (at : ℕ) → end_within at (length piece) (length output) ≡ None
    → put_at piece at output ≡ (at, output)
part_short piece output at e =
    put_short piece at output (lt-leb _ _ (end_missed at (length piece) (length output) e))

-- two pieces that have room together, the second put where the first ends
pub put_both : (one other output middle left : List ℕ) (at place end : ℕ) → at + length (one ++ other) ≤ length output
    → put_at one at output ≡ (place, middle) → put_at other place middle ≡ (end, left)
    → put_at (one ++ other) at output ≡ (end, left)
put_both one other output middle left at place end h e f =
    let size = length-append one other in
    let first = put_gives one at output place middle (omega (arith, size)) e in
    let kept : length middle ≡ length output = ap length first.1 ∙ length-sets output at one in
    let second = put_gives other place middle end left (omega (arith, size, first.0, kept)) f in
    let place_is : at + length (one ++ other) ≡ end = omega (arith, size, first.0, second.0) in
    let stored : sets output at (one ++ other) ≡ left =
    sym (sets_joined output one other at) ∙ rw (← first.0, ← first.1) (sym second.1) in
    put_whole (one ++ other) at output (le-leb _ _ h) ∙ cc (place_is, stored)

-- pieces that have room together are put as one
puts_room : (pieces : List (List ℕ)) (output left : List ℕ) (at end : ℕ) → at + length (concat pieces) ≤ length output
    → puts pieces at output ≡ (end, left) → put_at (concat pieces) at output ≡ (end, left)
unfolding puts
puts_room [] output left at end h e = put_whole [] at output (le-leb _ _ h) ∙ rw add-zero e
puts_room (piece ∷ pieces) output left at end h e =
    let size = length-append piece (concat pieces) in
    let first = put_gives piece at output _ _ (omega (arith, size)) refl in
    let kept : length (put_at piece at output).1 ≡ length output = ap length first.1 ∙ length-sets output at piece in
    put_both piece (concat pieces) output _ left at _ end h refl
    (puts_room pieces _ left _ end (omega (arith, size, first.0, kept)) e)

pub puts_whole : (pieces : List (List ℕ)) (bytes output left : List ℕ) (at end room : ℕ) → concat pieces ≡ bytes
    → end_within at (length bytes) (length output) ≡ Some room → puts pieces at output ≡ (end, left)
    → put_at bytes at output ≡ (end, left)
puts_whole pieces bytes output left at end room joined found laid =
    let within = end_found at (length bytes) (length output) room found in
    rw (← joined) (puts_room pieces output left at end (rw joined within.0) laid)

-- what is put in parts: first some, and then the others
pub puts_append : (some others : List (List ℕ)) (output : List ℕ) (at : ℕ)
    → puts (some ++ others) at output ≡ puts others (puts some at output).0 (puts some at output).1
unfolding puts
puts_append [] others output at = refl
puts_append (piece ∷ some) others output at = puts_append some others (put_at piece at output).1 (put_at piece at output).0

pub puts_both : (some others : List (List ℕ)) (output middle left : List ℕ) (at place end : ℕ)
    → puts some at output ≡ (place, middle) → puts others place middle ≡ (end, left)
    → puts (some ++ others) at output ≡ (end, left)
puts_both some others output middle left at place end e f =
    puts_append some others output at ∙ rw e f

-- the parts of two pieces
pub joined_both : (some others : List (List ℕ)) (one other : List ℕ) → concat some ≡ one → concat others ≡ other
    → concat (some ++ others) ≡ one ++ other
joined_both some others one other e f = concat-append some others ∙ rw (e, f) refl

-- of a line that has room, a piece is put, and what follows it is still to come
module _ {output : List ℕ} {line stored : List ℕ} {at : ℕ} (room : length line ≤ length output) where
  pub put_next : (piece : List ℕ) {rest : List ℕ} (left : List ℕ) (end : ℕ)
      → Stored output 0 line stored at (piece ++ rest) → put_at piece at stored ≡ (end, left)
      → Stored output 0 line left end rest
  put_next piece {rest} left end q e =
      let put = put_gives piece at stored end left (stored_next piece rest q (omega arith)) e in
      stored_part piece left end q put.1 put.0

  -- a last piece: the line is lent whole
  pub put_last : (piece left : List ℕ) (end : ℕ) → Stored output 0 line stored at piece
      → put_at piece at stored ≡ (end, left) → lent line output ≡ (given end, left)
  put_last piece left end q e =
      let whole : Stored output 0 line stored at (piece ++ []) =
      subst (Stored output 0 line stored at) (sym (append-nil piece)) q in
      let done = put_next piece left end whole e in
      let size : length line ≡ end = omega (arith, done.reach) in
      let laid : onto line output ≡ left = sym (laid_first line output room) ∙ sym done.whole in
      rw (le-ltb (length output) (length line) room, laid, size)

-- a line of one piece
pub put_one : (a output left : List ℕ) (end : ℕ) → length a ≤ length output → put_at a 0 output ≡ (end, left)
    → lent a output ≡ (given end, left)
put_one a output left end room e = put_last room a left end (stored_none output 0 a) e

-- a line that has no room is refused
pub one_short : (a output : List ℕ) → length output < length a → lent a output ≡ (refused 4 0, output)
one_short a output h = rw (lt-ltb (length output) (length a) h)

-- how long a line of four and of five pieces is
module _ (a b c d output : List ℕ) where
  pub length_four : length (a ++ b ++ c ++ d) ≡ length a + length b + length c + length d
  length_four = simp length-append

module _ (a b c d z output : List ℕ) where
  pub length_five : length (a ++ b ++ c ++ d ++ z) ≡ length a + length b + length c + length d + length z
  length_five = simp length-append

-- a whole line at the front of the output
pub line_put : (line output left : List ℕ) (end room : ℕ) → end_within 0 (length line) (length output) ≡ Some room
    → put_at line 0 output ≡ (end, left) → lent line output ≡ (given end, left)
line_put line output left end room e f =
    let found = end_found 0 (length line) (length output) room e in
    put_one line output left end (omega (arith, found.0)) f

pub line_short_of : (line output : List ℕ) → end_within 0 (length line) (length output) ≡ None
    → lent line output ≡ (refused 4 0, output)
line_short_of line output e =
    let missed = end_missed 0 (length line) (length output) e in
    one_short line output (omega (arith, missed))
