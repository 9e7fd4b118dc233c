-- Listening, read by read. The private functions promise each other what stands here; no public promise cites it.
use Rattle.std.specs.Prelude.{ℕ, suc, ◌+◌, ◌≤◌, ◌<◌, ◌≡◌, true, List, [], ◌∷◌, length, drop, leb, eqb}
use Rattle.std.specs.Prelude.{Option, None, Some, Result, Ok, Err}
use Rattle.std.specs.declared.ops.ControlFlow.{ControlFlow}
use Rattle.std.specs.declared.ops.ControlFlow.TheVariants.{Continue, Break}
use Rattle.measure.specs.Choose.{choose}
use Rattle.measure.specs.Refusals.{given, number_of, place_of}
use Rattle.measure.specs.declared.ReadCycles.{ReadCycles}
use Rattle.measure.specs.declared.Refusal.{Refusal}
use Rattle.board.specs.Rows.{Settings, Run, run_of, State, Event, nothing, row, broken, Moved, next}
use Rattle.board.specs.Packed.{kept, settings_as, state_of, receiver_of}
use Rattle.board.specs.WellFormed.{well_formed}
use Rattle.board.specs.Answers.{Outcome, reached, refusing, event_of}
use Rattle.board.specs.declared.Mode.TheVariants.{Hunting, Ready, Counting, Waiting}
use Rattle.board.specs.declared.Numbers.{Numbers}
use Rattle.board.specs.declared.Receiver.{Receiver}
use Rattle.board.specs.declared.Event.{Event as CodeEvent}
use Rattle.board.specs.declared.Event.TheVariants.{Row, Broken}
use Rattle.board.specs.declared.listening.Heard.{Heard}
use Rattle.board.specs.declared.listening.Found.{Found}

-- the receiver that keeps settings, numbers and bytes
abbrev pub keeping : Settings → Numbers → List ℕ → Receiver
keeping g now bytes = record { bare = record { settings = settings_as g; numbers = now }; bits = bytes }

-- the numbers of hunting and of ready, at a mark, and at a sample that does not complete its row

abbrev pub hunting_at : ReadCycles → (run_level : ℕ) → Numbers
hunting_at run run_level =
    record { mode = Hunting; run = run; runlevel = run_level; left = record { 0 = 0 }; level = 1; found = 0 }

abbrev pub ready_at : ReadCycles → (level : ℕ) → Numbers
ready_at run level =
    record { mode = Ready; run = run; runlevel = level; left = record { 0 = 0 }; level = level; found = 0 }

abbrev pub marked_at : (k run : ReadCycles) (mark found : ℕ) → Numbers
marked_at k run mark found =
    record { mode = Counting; run = run; runlevel = mark; left = k; level = mark; found = found }

abbrev pub sampled_at : ReadCycles → (sample found : ℕ) → Numbers
sampled_at run sample found =
    record { mode = Waiting; run = run; runlevel = sample; left = record { 0 = 0 }; level = sample; found = found }

-- they make a well formed receiver, and one that can be recovered from its state: no bit is lost in the bytes
pub record Keeps (g : Settings) (now : Numbers) (bytes : List ℕ) : Type 0 where
  pub well : well_formed (keeping g now bytes) ≡ true
  pub whole : receiver_of g (state_of (keeping g now bytes)) ≡ keeping g now bytes

-- how long a run is that was still short of Q, one read later
abbrev pub longer : (run run_level read : ℕ) → ℕ
longer run run_level read = choose (eqb read run_level) (run + 1) 1

-- a move that brings an event is the outcome, with the reads used by then; one that brings nothing leaves it to the
-- rest of the reads
abbrev pub event_or_rest : Settings → State → Event → (used : ℕ) (rest : Outcome × ℕ) → Outcome × ℕ
event_or_rest g s nothing used rest = rest
event_or_rest g s (row bits) used rest = (reached g s (row bits), used)
event_or_rest g s (broken found) used rest = (reached g s (broken found), used)

-- the outcome of reads from a state on, the first of them at this place: up to the first event, the first read that is
-- no level, or the end
unfoldable pub heard_from : Receiver → Settings → State → (place : ℕ) (reads : List ℕ) → Outcome × ℕ
heard_from x g s place [] = (reached g s nothing, place)
heard_from x g s place (read ∷ reads) =
    choose (leb read 1)
    (event_or_rest g (next g s read).state (next g s read).event (suc place)
    (heard_from x g (next g s read).state (suc place) reads))
    (refusing x 2 place, 0)

-- the same from a move on
abbrev pub moved_from : Receiver → Settings → Moved → (place : ℕ) (reads : List ℕ) → Outcome × ℕ
moved_from x g m place reads = event_or_rest g m.state m.event place (heard_from x g m.state place reads)

-- the bytes that are left of bits once what was heard is told: those of an event keep none
abbrev pub bytes_left : (bytes : List ℕ) → Option CodeEvent → List ℕ
bytes_left bytes None = bytes
bytes_left bytes (Some event) = kept []

-- and the bytes that then hold a row
abbrev pub row_bytes : (bytes : List ℕ) → Option CodeEvent → List ℕ
row_bytes bytes None = kept []
row_bytes bytes (Some Row) = bytes
row_bytes bytes (Some (Broken found)) = kept []

-- what the code heard, beside the bytes that it leaves
abbrev pub heard_says : Settings → (bytes : List ℕ) → Heard → Outcome × ℕ
heard_says g bytes heard = (
  record {
    receiver = keeping g heard.numbers (bytes_left bytes heard.event);
    answer = given (event_of g.n bytes heard.event);
    row = row_bytes bytes heard.event;
  },
  heard.used.0,
)

-- the same where it may refuse a read
abbrev pub tried_says : Receiver → Settings → (bytes : List ℕ) → Result Heard Refusal → Outcome × ℕ
tried_says x g bytes (Ok heard) = heard_says g bytes heard
tried_says x g bytes (Err refusal) = (refusing x (number_of refusal) (place_of refusal), 0)

-- listening from a place on: whatever receiver a refusal hands back, the outcome of the reads is what the case says
abbrev pub Hears : Settings → State → (from : ℕ) (reads bytes : List ℕ) → Result Heard Refusal → Type 0
Hears g s from reads bytes heard =
    (x : Receiver) → heard_from x g s from (drop from reads) ≡ tried_says x g bytes heard

-- how a search ends: with what was heard or a refusal, or with the read that it finds
abbrev pub Sought : Type 0
Sought = ControlFlow (Result Heard Refusal) Found

-- what each case of a search says: where it finds its read, which is then the run's level, what is done with that read
-- follows
abbrev pub sought_says : Receiver → Settings → (done : Run → ℕ → Moved) (bits reads : List ℕ) → Sought → Outcome × ℕ
sought_says x g done bits reads (Continue found) =
    moved_from x g (done (run_of found.run.0 found.level) found.level) found.used (drop found.used reads)
sought_says x g done bits reads (Break end) = tried_says x g (kept bits) end

-- a read that is found stands after the place of departure, is a level, and leaves a run below Q
abbrev pub Lands : (from all Q : ℕ) → Sought → Type 0
Lands from all Q (Continue found) =
    (from < found.used) × (found.used ≤ all) × (1 ≤ found.run.0) × (found.run.0 < Q) × (found.level ≤ 1)
Lands from all Q (Break end) = Unit {0}

-- A search from a place on, in a row of so many bits: it lands, and the outcome of the reads is what the case says. The
-- state in which it starts and what is done with the read that it finds are known for each list of bits.
pub record Seeks (g : Settings) (found from : ℕ) (reads : List ℕ) (start : List ℕ → State)
    (done : List ℕ → Run → ℕ → Moved) (sought : Sought) : Type 0 where
  pub lands : Lands from (length reads) g.Q sought
  pub says : (x : Receiver) (bits : List ℕ) → length bits ≡ found
      → heard_from x g (start bits) from (drop from reads) ≡ sought_says x g (done bits) bits reads sought
