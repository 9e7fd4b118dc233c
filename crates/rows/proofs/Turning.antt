-- A turn's line fits a buffer that has room for the longest, so it is put whole; where the program stands after it
-- follows from the receiver's answer.
use Prim.Native.Nat.{ℕ, ◌+◌, ◌≤◌}
use mathlib.Core.Path.{◌≡◌, sym, ap, ◌∙◌}
use mathlib.Core.Bool.{true}
use mathlib.Core.List.{List}
use native.Mathlib.Omega.{arith}
use borrow.Author.Tests.{le-ltb}
use lib.ListN.{length}
use Rattle.std.proofs.Common.{Option, Result, Ok, Some, None}
use Rattle.measure.specs.Choose.{choose}
use Rattle.measure.specs.Lists.{onto}
use Rattle.measure.specs.Refusals.{Answer, given, lent}
use Rattle.measure.specs.declared.Refusal.{Refusal}
use Rattle.board.specs.Rows.{Event}
use Rattle.board.specs.Answers.{event_says, listened, listened_says}
use Rattle.board.specs.declared.Event.{Event as CodeEvent}
use Rattle.board.specs.declared.Listened.{Listened}
use Rattle.page.specs.Answers.{put_says}
use Rattle.page.specs.Walk.{Walk, rows_after, line_at, goes_on}
use Rattle.board.proofs.HeardLaws.{Heard, heard_all}
use Rattle.page.proofs.TurnLines.{goes_brings}
use Rattle.page.proofs.Longest.{longest}
use Rattle.rows.specs.Turns.{line_most, turned}

-- what was heard, by its parts
module _ {heard : Result (Option CodeEvent) Refusal} {part : Option CodeEvent} (e : heard ≡ Ok part) where
  pub no_event : part ≡ None → heard ≡ Ok None
  no_event f = e ∙ ap Ok f

  pub some_event : {one event : CodeEvent} → part ≡ Some one → one ≡ event → heard ≡ Ok (Some event)
  some_event f g = e ∙ ap Ok (f ∙ ap Some g)

-- a line that has room is put whole
pub put_whole : (line out out' : List ℕ) (put : Result ℕ Refusal) (bytes : ℕ) → length line ≤ length out
    → lent line out ≡ (put_says put, out')
    → ((n : ℕ) → put_says put ≡ given n → bytes ≡ n)
    → (bytes ≡ length line) × (out' ≡ onto line out)
put_whole line out out' put bytes h e size =
    let whole : lent line out ≡ (given (length line), onto line out) = rw (le-ltb (length out) (length line) h) in
    let both : ◌≡◌ {A = Answer ℕ × List ℕ} (put_says put, out') (given (length line), onto line out) = sym e ∙ whole in
    (size (length line) (ap (λ (p : Answer ℕ × List ℕ). p.0) both), ap (λ (p : Answer ℕ × List ℕ). p.1) both)

-- and so it can be taken off the buffer
pub put_within : (line out out' : List ℕ) (put : Result ℕ Refusal) (bytes : ℕ) → length line ≤ length out
    → lent line out ≡ (put_says put, out')
    → ((n : ℕ) → put_says put ≡ given n → bytes ≡ n)
    → length out' ≡ length out
    → bytes ≤ length out'
put_within line out out' put bytes h e size kept = omega (arith, (put_whole line out out' put bytes h e size).0, kept)

module _ (w : Walk) (left : List ℕ) (heard : Listened) (e : listened w.receiver left ≡ listened_says heard) where
  -- what listening tells, of the receiver's answer as the code has it
  pub known : Heard (length left) (listened_says heard)
  known = rw e at (heard_all w.receiver left)

  -- where the program stands then
  abbrev pub stands : Answer Event → Walk
  stands answer =
      record { receiver = heard.receiver; place = w.place + heard.used.0; rows = rows_after answer w.rows }

  -- an event takes at least the read that brings it
  pub event_takes : (event : Result (Option CodeEvent) Refusal) → heard.event ≡ event
      → goes_on (event_says heard.receiver.bare.settings.n heard.row event) ≡ true → 1 ≤ heard.used.0
  event_takes event is on =
      known.least (goes_brings (event_says heard.receiver.bare.settings.n heard.row heard.event) (rw is on))

  pub turn_is : (event : Result (Option CodeEvent) Refusal) → heard.event ≡ event → (out out' : List ℕ) (put : Result ℕ Refusal) (bytes : ℕ)
      → line_most ≤ length out
      → lent (line_at (stands (event_says heard.receiver.bare.settings.n heard.row event))
      (event_says heard.receiver.bare.settings.n heard.row event)) out ≡ (put_says put, out')
      → ((n : ℕ) → put_says put ≡ given n → bytes ≡ n)
      → turned w left out
      ≡ (
        choose (goes_on (event_says heard.receiver.bare.settings.n heard.row event))
            (Some (stands (event_says heard.receiver.bare.settings.n heard.row event))) None,
        bytes,
        out',
      )
  unfolding turned
  turn_is event is out out' put bytes h l size =
      let answer : Answer Event = event_says heard.receiver.bare.settings.n heard.row event in
      let fits : length (line_at (stands answer) answer) ≤ length out =
      omega (arith, longest (stands answer) heard.receiver.bare.settings.n heard.row event (omega (arith, known.size))) in
      let whole = put_whole (line_at (stands answer) answer) out out' put bytes fits l size in
      rw (e, is, whole.0, whole.1)
