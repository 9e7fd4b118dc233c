-- Rules B and R: what starting, one read, and reads up to the first event answer, for all input; and what each case of
-- the code says.
use Rattle.std.specs.Prelude.{ℕ, List, [], ◌∷◌, Bool, true, false, ◌&&◌, length, take, leb, ltb, Option, None, Some, Result}
use Rattle.measure.specs.Choose.{choose}
use Rattle.measure.specs.Ranges.{entries_most, row_settings_fit}
use Rattle.measure.specs.Lists.{first_above, some_above}
use Rattle.measure.specs.Refusals.{Answer, given, refused, refused_after, says}
use Rattle.measure.specs.declared.Refusal.{Refusal}
use Rattle.board.specs.Rows.{Settings, State, Event, nothing, row, broken, next, fresh}
use Rattle.board.specs.Feeding.{Report, reports, after, first_event, used_of}
use Rattle.board.specs.Packed.{unpacked, kept, whole, settings_of, state_of, receiver_of}
use Rattle.board.specs.WellFormed.{well_formed}
use Rattle.board.specs.declared.Mode.TheVariants.{Hunting}
use Rattle.board.specs.declared.Receiver.{Receiver}
use Rattle.board.specs.declared.Event.{Event as CodeEvent}
use Rattle.board.specs.declared.Event.TheVariants.{Row, Broken}
use Rattle.board.specs.declared.Stepped.{Stepped}
use Rattle.board.specs.declared.Listened.{Listened}
use Rattle.board.specs.declared.Told.{Told}

-- R50: the receiver afterwards, what the reads brought or the refusal, and a delivered row's bits as they are kept (all
-- 0 otherwise)
pub record Outcome : Type 0 where
  pub receiver : Receiver
  pub answer : Answer Event
  pub row : List ℕ

-- B31: the bits of a delivered row
abbrev pub row_of : Event → List ℕ
row_of nothing = []
row_of (row bits) = bits
row_of (broken found) = []

-- B31: the outcome of a state that was reached
abbrev pub reached : Settings → State → Event → Outcome
reached g s event = record { receiver = receiver_of g s; answer = given event; row = kept (row_of event) }

-- R30: a refusal leaves the receiver unchanged
abbrev pub refusing : Receiver → (number place : ℕ) → Outcome
refusing x number place = record { receiver = x; answer = refused number place; row = kept [] }

-- R33: a refused fresh state is hunting, and every number and bit of it is 0, both levels too
abbrev pub refused_fresh : Receiver
refused_fresh =
    record {
      bare = record {
        settings = record { k = record { 0 = 0 }; n = 0; q = record { 0 = 0 } };
        numbers = record {
          mode = Hunting;
          run = record { 0 = 0 };
          runlevel = 0;
          left = record { 0 = 0 };
          level = 0;
          found = 0;
        };
      };
      bits = kept [];
    }

-- R48, R33: starting: a fresh receiver, or refusal 1 for k, n or Q out of range
unfoldable pub begun : (k n Q : ℕ) → Answer Event × Receiver
begun k n Q =
    choose (row_settings_fit k n Q) (given nothing, receiver_of (record { k = k; n = n; Q = Q }) fresh)
    (refused 1 0, refused_fresh)

-- R50: one read: refusal 1 for a state that is not well formed, 2 for a read above 1
unfoldable pub stepped : Receiver → (read : ℕ) → Outcome
stepped x read =
    choose (well_formed x)
    (choose (leb read 1)
    (reached (settings_of x) (next (settings_of x) (state_of x) read).state (next (settings_of x) (state_of x) read).event)
    (refusing x 2 0))
    (refusing x 1 0)

-- R51: the reads before the first that is no level
abbrev pub levels_of : (reads : List ℕ) → List ℕ
levels_of reads = take (first_above 1 reads) reads

-- B43: nothing is reported
abbrev pub silent : List Report → Bool
silent [] = true
silent (report ∷ more) = false

-- B40, B41: the outcome of the reads up to and with the first that brings an event, or of all, and how many these are
abbrev pub to_event : Settings → State → (reads : List ℕ) (reported : List Report) → Outcome × ℕ
to_event g s reads reported = (
  reached g (after g s (take (used_of reported (length reads)) reads)) (first_event reported),
  used_of reported (length reads),
)

-- R51, R34: Reads up to and with the first that brings an event: refusal 1 as above, 3 for a list over its limit, 2 for
-- a read that is no level where no event comes before it. With a refusal no read is used.
unfoldable pub listened : Receiver → (reads : List ℕ) → Outcome × ℕ
listened x reads =
    choose (well_formed x)
    (choose (ltb entries_most (length reads)) (refusing x 3 0, 0)
    (choose (some_above 1 reads && silent (reports (settings_of x) (state_of x) 0 (levels_of reads)))
    (refusing x 2 (first_above 1 reads), 0)
    (to_event (settings_of x) (state_of x) (levels_of reads) (reports (settings_of x) (state_of x) 0 (levels_of reads)))))
    (refusing x 1 0, 0)

-- B32: of bytes that are lent for a row: they hold it where one is delivered, and are otherwise left
abbrev pub row_lent : Answer Event → (delivered before : List ℕ) → List ℕ
row_lent (given nothing) delivered before = before
row_lent (given (row bits)) delivered before = delivered
row_lent (given (broken found)) delivered before = before
row_lent (refused number place) delivered before = before
row_lent (refused_after number place count) delivered before = before

-- B32, R51: an outcome where the bytes for a row are lent
abbrev pub in_lent : (before : List ℕ) → Outcome × ℕ → Outcome × ℕ
in_lent before (outcome, used) = (
  record {
    receiver = outcome.receiver;
    answer = outcome.answer;
    row = row_lent outcome.answer outcome.row before;
  },
  used,
)

-- A8: what each case of the code's events is; a row's bits stand beside the event, n of them
abbrev pub event_of : (n : ℕ) (bytes : List ℕ) → Option CodeEvent → Event
event_of n bytes None = nothing
event_of n bytes (Some Row) = row (take n (unpacked 8 bytes))
event_of n bytes (Some (Broken found)) = broken found

-- A8: and what the code's answers say
abbrev pub event_says : (n : ℕ) (bytes : List ℕ) → Result (Option CodeEvent) Refusal → Answer Event
event_says n bytes answer = says (event_of n bytes) answer

-- A8: the same of starting, of one read, and of reads up to an event
abbrev pub start_says : Result (Unit {0}) Refusal → Answer Event
start_says answer = says (λ started. nothing) answer

-- A8
abbrev pub stepped_says : Stepped → Outcome
stepped_says x =
    record { receiver = x.receiver; answer = event_says x.receiver.bare.settings.n x.row x.event; row = x.row }

-- A8
abbrev pub listened_says : Listened → Outcome × ℕ
listened_says x = (
  record { receiver = x.receiver; answer = event_says x.receiver.bare.settings.n x.row x.event; row = x.row },
  x.used.0,
)

-- A8: of bare numbers, beside the bits and the row's bytes as they are left
abbrev pub told_says : Told → (bits row : List ℕ) → Outcome × ℕ
told_says x bits bytes = (
  record { receiver = whole x.bare bits; answer = event_says x.bare.settings.n bytes x.event; row = bytes },
  x.used.0,
)
