-- How a caller hears a stream of reads: one read a call or a list a call, in Rust and from C. Each way turns reads into
-- reports, and each is to hear what the rules hear.
use Rattle.std.specs.Prelude.{ℕ, zero, suc, ◌+◌, ◌-◌, ◌≤◌, ◌≡◌, List, [], ◌∷◌, eqb, leb, length, take, drop}
use Rattle.measure.specs.Choose.{choose}
use Rattle.measure.specs.Ranges.{entries_most}
use Rattle.measure.specs.Refusals.{Answer, given, refused, refused_after}
use Rattle.board.specs.Rows.{Settings, Event, nothing, row, broken, fresh, next}
use Rattle.board.specs.Feeding.{Report, noted, Step, reports_by}
use Rattle.board.specs.Packed.{unpacked}
use Rattle.board.specs.Answers.{begun, stepped, listened}
use Rattle.board.specs.declared.Receiver.{Receiver}
use Rattle.siengulot.specs.Receivers.{named, Lent, Reply, begun_lent, stepped_lent, listened_lent}

-- R50: what a call with one read answers, and the receiver that comes back
abbrev pub Stepping : Type 0 → Type 0
Stepping X = X → ℕ → Answer Event × X

-- R51: a call with a list of reads: the same, and how many of the reads were used
abbrev pub Listening : Type 0 → Type 0
Listening X = X → List ℕ → (Answer Event × X) × ℕ

-- B43: the report of a call before those of later calls; a refusal reports nothing
abbrev pub told : ℕ → Answer Event → List Report → List Report
told place (given event) more = noted place event more
told place (refused number at) more = more
told place (refused_after number at count) more = more

-- D10: One read a call: each call is given the receiver that came back from the one before. A read that is refused is
-- passed over.
unfoldable pub one_by_one : {X : Type 0} → Stepping X → X → ℕ → List ℕ → List Report
one_by_one step x place [] = []
one_by_one step x place (read ∷ reads) = told place (step x read).0 (one_by_one step (step x read).1 (suc place) reads)

-- B40, R34: What a caller does with the answer to a part of its stream, where `on` goes on with the reads that are
-- left. Reads that were used are done with, and the last of them brought the event. After refusal 2 at a place the
-- reads before it are given by themselves, the one there is passed over. Another refusal would end it.
abbrev pub going_on : {X : Type 0} → Listening X → (X → ℕ → List ℕ → List Report) → X → ℕ → List ℕ
    → (Answer Event × X) × ℕ → List Report
going_on listen on x place reads ((given event, next), used) =
    noted (place + used - 1) event (on next (place + used) (drop used reads))
going_on listen on x place reads ((refused number at, next), used) =
    choose (eqb number 2) (on (listen x (take at reads)).0.1 (place + at + 1) (drop (at + 1) reads)) []
going_on listen on x place reads ((refused_after number at count, next), used) = []

-- B40: A list a call, in parts of at most so many reads, and so many calls at most.
unfoldable pub by_lists : {X : Type 0} → Listening X → ℕ → ℕ → X → ℕ → List ℕ → List Report
by_lists listen part zero x place reads = []
by_lists listen part (suc calls) x place reads =
    going_on listen (by_lists listen part calls) x place reads (listen x (take part reads))

-- R50: Rust's two operations
abbrev pub step : Stepping Receiver
step x read = ((stepped x read).answer, (stepped x read).receiver)

-- R51
abbrev pub listen : Listening Receiver
listen x reads = (((listened x reads).0.answer, (listened x reads).0.receiver), (listened x reads).1)

-- H9: What a C caller makes of the numbers it is told: number 0 is no refusal; event 1 is a row, whose n bits stand in
-- the lent bytes, and event 2 a broken one.
abbrev pub event_from_c : Reply → Lent → Answer Event
event_from_c reply lent =
    choose (eqb reply.number 0)
    (given (choose (eqb reply.event 1) (row (take (named lent.numbers).n (unpacked 8 lent.row)))
    (choose (eqb reply.event 2) (broken reply.found) nothing)))
    (refused reply.number reply.place)

-- H9: and C's two entry points
abbrev pub step_from_c : Stepping Lent
step_from_c lent read =
    (event_from_c (stepped_lent lent read).0 (stepped_lent lent read).1, (stepped_lent lent read).1)

-- H9
abbrev pub listen_from_c : Listening Lent
listen_from_c lent reads = (
  (
    event_from_c (listened_lent lent reads).0.0 (listened_lent lent reads).0.1,
    (listened_lent lent reads).0.1,
  ),
  (listened_lent lent reads).1,
)

-- H7: a receiver that C starts, beside the bytes that it lends for a row
abbrev pub started_from_c : Settings → List ℕ → Lent
started_from_c g room =
    let started = begun_lent (begun g.k g.n g.Q) in
    record { numbers = started.1; bytes = started.2; row = room }

-- D10: the four ways to hear a stream: by `step`, by `listen` with lists of at most so many reads, and the same from C,
-- which lends bytes for a row
pub data Caller : Type 0 where
  steps : Caller
  listens : (part : ℕ) → 1 ≤ part → part ≤ entries_most → Caller
  steps_from_c : (room : List ℕ) → Caller
  listens_from_c : (room : List ℕ) (part : ℕ) → 1 ≤ part → part ≤ entries_most → Caller

-- D10: what is reported so, from a fresh receiver on; of lists, a call for each read is enough
abbrev pub hearing : Caller → Settings → List ℕ → List Report
hearing steps g reads = one_by_one step (begun g.k g.n g.Q).1 0 reads
hearing (listens part some few) g reads = by_lists listen part (length reads) (begun g.k g.n g.Q).1 0 reads
hearing (steps_from_c room) g reads = one_by_one step_from_c (started_from_c g room) 0 reads
hearing (listens_from_c room part some few) g reads =
    by_lists listen_from_c part (length reads) (started_from_c g room) 0 reads

-- B5: one read by the rules; an entry that is no level is passed over
abbrev pub heeding : Settings → Step
heeding g s read = choose (leb read 1) (next g s read) (record { state = s; event = nothing })

-- D2: whatever comes in, the reports are those of the rules
abbrev pub Hears : Settings → (List ℕ → List Report) → Type 0
Hears g hear = (reads : List ℕ) → hear reads ≡ reports_by (heeding g) fresh 0 reads
