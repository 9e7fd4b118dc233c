-- Numbers that make a receiver give what that receiver's operation brings, and others the refusal: the definitions'
-- test is decided, and what is left is the equation of what was called.
use mathlib.Core.Path.{◌≡◌, refl, ap, ◌∙◌}
use mathlib.Core.Bool.{Bool, true, false}
use mathlib.Core.List.{List, [], ◌∷◌}
use Prim.Native.Nat.{ℕ}
use Rattle.measure.specs.Refusals.{Answer, given, refused, refused_after}
use Rattle.board.specs.Rows.{Event, nothing, row, broken}
use Rattle.board.specs.Packed.{whole}
use Rattle.board.specs.WellFormed.{well_formed}
use Rattle.board.specs.Answers.{Outcome, listened, in_lent, event_says, told_says}
use Rattle.board.specs.declared.Bare.{Bare}
use Rattle.board.specs.declared.Receiver.{Receiver}
use Rattle.board.specs.declared.Told.{Told}
use Rattle.board.proofs.ListenedLaws.{stepped_listened}
use Rattle.board.proofs.HeardLaws.{Refuses, refused_same}
use Rattle.siengulot.specs.Crossing.{flag}
use Rattle.siengulot.specs.Receivers.{named, numbers_fit, receiver_lent, Lent, Reply, answered, brought, handed}
use Rattle.siengulot.specs.Receivers.{no_receiver, stepped_lent, listened_lent, well_formed_lent}

module _ (lent : Lent) {reply : Reply} (unfit : numbers_fit (named lent.numbers) ≡ false) where
  pub step_refused : (read : ℕ) → no_receiver ≡ reply → stepped_lent lent read ≡ (reply, lent)
  unfolding stepped_lent
  step_refused read refuses = rw unfit (ap (λ (r : Reply). (r, lent)) refuses)

  pub listen_refused : (reads : List ℕ) → no_receiver ≡ reply → listened_lent lent reads ≡ ((reply, lent), 0)
  unfolding listened_lent
  listen_refused reads refuses = rw unfit (ap (λ (r : Reply). ((r, lent), 0)) refuses)

-- what crosses of an outcome that stands where it is lent
abbrev in_place : Lent → Outcome → Reply × Lent
in_place lent outcome =
    let crossed = handed lent.numbers outcome.receiver outcome.answer in
    (crossed.0, record { numbers = crossed.1; bytes = outcome.receiver.bits; row = outcome.row })

-- a refusal has left the receiver, and so its bytes
placed : (lent : Lent) (x next : Receiver) (bits : List ℕ) (answer : Answer Event) (used : ℕ) → x.bits ≡ lent.bytes
    → (Refuses answer → next ≡ x)
    → answered lent next bits answer
    ≡ in_place lent (in_lent lent.row (record { receiver = next; answer = answer; row = bits }, used)).0
placed lent x next bits (given nothing) used same left = refl
placed lent x next bits (given (row delivered)) used same left = refl
placed lent x next bits (given (broken found)) used same left = refl
placed lent x next bits (refused number place) used same left = rw (left tt, same)
placed lent x next bits (refused_after number place count) used same left = rw (left tt, same)

module _ (lent : Lent) (bare : Bare) (told : Told) {bytes room numbers : List ℕ} {reply : Reply}
    (fit : numbers_fit (named lent.numbers) ≡ true)
    (lends : (bits : List ℕ) → receiver_lent (named lent.numbers) bits ≡ whole bare bits)
    (hands : (bits delivered : List ℕ)
    → handed lent.numbers (whole told.bare bits) (event_says told.bare.settings.n delivered told.event)
    ≡ (reply, numbers)) where
  crosses : (reads : List ℕ)
      → in_lent lent.row (listened (whole bare lent.bytes) reads) ≡ told_says told bytes room
      → brought lent (listened (whole bare lent.bytes) reads).0
      ≡ (reply, record { numbers = numbers; bytes = bytes; row = room })
  crosses reads operation =
      let x = whole bare lent.bytes in
      let heard = listened x reads in
      placed lent x heard.0.receiver heard.0.row heard.0.answer heard.1 refl (refused_same x reads)
      ∙ ap (λ (t : Outcome × ℕ). in_place lent t.0) operation
      ∙ rw (hands bytes room)

  pub step_brought : (read : ℕ)
      → in_lent lent.row (listened (whole bare lent.bytes) (read ∷ [])) ≡ told_says told bytes room
      → stepped_lent lent read ≡ (reply, record { numbers = numbers; bytes = bytes; row = room })
  unfolding stepped_lent
  step_brought read operation =
      rw (fit, lends lent.bytes, stepped_listened (whole bare lent.bytes) read) (crosses (read ∷ []) operation)

  pub listen_brought : (reads : List ℕ)
      → in_lent lent.row (listened (whole bare lent.bytes) reads) ≡ told_says told bytes room
      → listened_lent lent reads ≡ ((reply, record { numbers = numbers; bytes = bytes; row = room }), told.used.0)
  unfolding listened_lent
  listen_brought reads operation =
      let used : (listened (whole bare lent.bytes) reads).1 ≡ told.used.0
      = ap (λ (t : Outcome × ℕ). t.1) operation in
      rw (fit, lends lent.bytes) (ap (λ (t : Reply × Lent). (t, (listened (whole bare lent.bytes) reads).1))
      (crosses reads operation) ∙ rw used)

pub ill_formed : (numbers bytes : List ℕ) → numbers_fit (named numbers) ≡ false → well_formed_lent numbers bytes ≡ 0
unfolding well_formed_lent
ill_formed numbers bytes unfit = rw unfit

pub well_formed_brought : (numbers bytes : List ℕ) {x : Receiver} {yes : Bool} {answer : ℕ}
    → numbers_fit (named numbers) ≡ true → receiver_lent (named numbers) bytes ≡ x → yes ≡ well_formed x
    → flag yes ≡ answer → well_formed_lent numbers bytes ≡ answer
unfolding well_formed_lent
well_formed_brought numbers bytes fit lends operation crosses = rw (fit, lends, ← operation) crosses
