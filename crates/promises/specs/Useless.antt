-- Rule D34: useless operations that the demands shut out, senders by demand 1 and receivers by demand 3.
use Rattle.std.specs.Prelude.{ℕ, ◌+◌, Bool, false, ◌≡◌, List, [], ◌∷◌, eqb, length, set}
use Rattle.measure.specs.Choose.{choose}
use Rattle.measure.specs.Lists.{onto}
use Rattle.measure.specs.Refusals.{Answer, given, refused, refused_after}
use Rattle.sender.specs.Sending.{wave}
use Rattle.sender.specs.Answers.{sent_message}
use Rattle.board.specs.Rows.{Settings, run_of, State, Event, nothing, row, broken, Moved, fresh, listening, next}
use Rattle.board.specs.Feeding.{Step, reports_by}
use Rattle.board.specs.declared.Mode.{Mode}
use Rattle.board.specs.declared.Mode.TheVariants.{Hunting, Ready, Counting, Waiting}
use Rattle.promises.specs.Promised.{Test, Answered, Fills}
use Rattle.promises.specs.GoodInput as Good
use Rattle.promises.specs.Demand3.{Demand3, receiver_settings}
use Rattle.promises.specs.Tried.{p10_read, at, crossed_read}

-- D34: What could be put in the place of `send`, and demand 1's line for it.
abbrev pub Sender : Type 0
Sender = (a b p1 : ℕ) (bits output : List ℕ) → Answer ℕ × List ℕ

-- D34
abbrev pub Line : Sender → Type 0
Line sender = (a b p1 : ℕ) (bits output : List ℕ)
    → Fills (Good.send a b p1 bits output) (wave a b p1 bits) output (sender a b p1 bits output)

-- D34: one that refuses everything, and one that refuses nothing
abbrev pub refuses_everything : Sender
refuses_everything a b p1 bits output = (refused 1 0, output)

-- D34
abbrev pub refuses_nothing : Sender
refuses_nothing a b p1 bits output = (given (length (wave a b p1 bits)), onto (wave a b p1 bits) output)

-- D34: one that sends by the rules and answers a count that is one too high
abbrev pub one_more : Answer ℕ → Answer ℕ
one_more (given count) = given (count + 1)
one_more (refused number place) = refused number place
one_more (refused_after number place count) = refused_after number place count

-- D34
abbrev pub invents_count : Sender
invents_count a b p1 bits output =
    (one_more (sent_message a b p1 bits output).0, (sent_message a b p1 bits output).1)

-- D34: one that always sends the same message
abbrev pub fixed_message : Sender
fixed_message a b p1 bits output = sent_message a b p1 (1 ∷ []) output

-- D34: one that sends by the rules and spoils the first entry past the result
abbrev pub spoils_entry : Sender
spoils_entry a b p1 bits output = (
  (sent_message a b p1 bits output).0,
  set (sent_message a b p1 bits output).1 (length (wave a b p1 bits)) 2,
)

-- D34: one that refuses with the right number and always with place 0
abbrev pub placeless : Answer ℕ → Answer ℕ
placeless (given count) = given count
placeless (refused number place) = refused number 0
placeless (refused_after number place count) = refused_after number place count

-- D34
abbrev pub loses_place : Sender
loses_place a b p1 bits output =
    (placeless (sent_message a b p1 bits output).0, (sent_message a b p1 bits output).1)

-- D34: The line is false of each. And no line of demand 1 leaves a choice: two outcomes of which it holds are equal, so
-- what differs from an operation anywhere is shut out there.
pub record ShutOut1 : Type 1 where
  pub refusing : Line refuses_everything → ⊥
  pub accepting : Line refuses_nothing → ⊥
  pub counting : Line invents_count → ⊥
  pub repeating : Line fixed_message → ⊥
  pub spoiling : Line spoils_entry → ⊥
  pub misplacing : Line loses_place → ⊥
  pub no_choice : {O : Type 0} (tests : List Test) (one other result : O) (refusal : ℕ → ℕ → O)
      → Answered tests one result refusal → Answered tests other result refusal → one ≡ other

-- D34: A receiver that refuses everything: nothing is reported, and the state comes back unchanged.
abbrev pub refuses_all : Step
refuses_all s read = record { state = s; event = nothing }

-- D34: one that reports by the rules and leaves its state unchanged
abbrev pub leaves_state : Settings → Step
leaves_state g s read = record { state = s; event = (next g s read).event }

-- D34: One that delivers a first row and hunts ever after. That it has delivered it remembers by a read left in
-- hunting, which the rules never leave.
abbrev pub delivered : State
delivered = record { mode = Hunting; left = 1; level = 1; run = run_of 0 1; bits = [] }

-- D34
abbrev pub has_delivered : Mode → ℕ → Bool
has_delivered Hunting left = eqb left 1
has_delivered Ready left = false
has_delivered Counting left = false
has_delivered Waiting left = false

-- D34
abbrev pub remembering : Moved → Event → Moved
remembering moved nothing = moved
remembering moved (row bits) = record { state = delivered; event = row bits }
remembering moved (broken found) = moved

-- D34
abbrev pub delivers_once : Settings → Step
delivers_once g s read =
    choose (has_delivered s.mode s.left) (record { state = s; event = nothing })
    (remembering (next g s read) (next g s read).event)

-- D34: One that is ready after high alone: a low read makes no run, and the next high one begins it.
abbrev pub ready_after_high : Settings → Step
ready_after_high g s read = choose (eqb read 1) (next g s read) (listening s.mode g s (run_of 0 1) read)

-- D34: demand 3 is false of each; the third does deliver the first row. The last is refuted by the wave that is turned
-- over: where the pair is straight it delivers both rows, and where it is crossed none.
pub record ShutOut : Type 0 where
  pub refusing : Demand3 p10_read (reports_by refuses_all fresh 0) → ⊥
  pub leaving : Demand3 p10_read (reports_by (leaves_state (receiver_settings p10_read)) fresh 0) → ⊥
  pub once : Demand3 p10_read (reports_by (delivers_once (receiver_settings p10_read)) fresh 0) → ⊥
  pub once_is : reports_by (delivers_once (receiver_settings p10_read)) fresh 0 p10_read.reads
      ≡ at 51 (row (1 ∷ 0 ∷ [])) ∷ []
  pub high : Demand3 crossed_read (reports_by (ready_after_high (receiver_settings crossed_read)) fresh 0) → ⊥
  pub high_is : reports_by (ready_after_high (receiver_settings p10_read)) fresh 0 p10_read.reads
      ≡ at 51 (row (1 ∷ 0 ∷ [])) ∷ at 111 (row (0 ∷ 1 ∷ [])) ∷ []
  pub high_is_not : reports_by (ready_after_high (receiver_settings crossed_read)) fresh 0 crossed_read.reads ≡ []
