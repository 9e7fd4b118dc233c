-- Rules B: what one read does. The bits so far are a list here; how they are kept is said in Packed.
use Rattle.std.specs.Prelude.{ℕ, ◌+◌, ◌-◌, min, List, [], ◌∷◌, ◌++◌, Bool, true, false, length, eqb}
use Rattle.measure.specs.Choose.{choose}
use Rattle.measure.specs.Cells.{bit_of}
use Rattle.board.specs.declared.Mode.{Mode}
use Rattle.board.specs.declared.Mode.TheVariants.{Hunting, Ready, Counting, Waiting}

-- B1: the sampling count, the bits of a row, the quiet count
pub record Settings : Type 0 where
  pub k : ℕ
  pub n : ℕ
  pub Q : ℕ

-- B1: a run of equal reads: how many they are, counted up to Q, and their level
pub record Run : Type 0 where
  pub reads : ℕ
  pub level : ℕ

-- B1
abbrev pub run_of : (reads level : ℕ) → Run
run_of reads level = record { reads = reads; level = level }

-- B1: the mode, the reads left up to the sample, the level or mark kept, the run of equal reads, the bits so far
pub record State : Type 0 where
  pub mode : Mode
  pub left : ℕ
  pub level : ℕ
  pub run : Run
  pub bits : List ℕ

-- B4: what a read brings: nothing, a row with its bits, or a row broken after so many bits
pub data Event : Type 0 where
  nothing : Event
  row : List ℕ → Event
  broken : ℕ → Event

-- B5: the state after a read, and what the read brought
pub record Moved : Type 0 where
  pub state : State
  pub event : Event

-- B10: A read of the run's level makes the run longer by one until it stands at Q, and any other begins a run of 1.
-- Either way the run's level is then that of the read.
abbrev pub run_after : (Q : ℕ) → Run → (read : ℕ) → Run
run_after Q run read = run_of (choose (eqb read run.level) (min (run.reads + 1) Q) 1) read

-- B19: the four modes with what each keeps; in hunting the level is high, in ready it is the run's, and in both there
-- are no bits
abbrev pub hunting : Run → State
hunting run = record { mode = Hunting; left = 0; level = 1; run = run; bits = [] }

-- B11, B19: after so many reads of a level
abbrev pub ready : (reads level : ℕ) → State
ready reads level = record { mode = Ready; left = 0; level = level; run = run_of reads level; bits = [] }

-- B15
abbrev pub counting : (left mark : ℕ) → Run → (bits : List ℕ) → State
counting left mark run bits = record { mode = Counting; left = left; level = mark; run = run; bits = bits }

-- B18
abbrev pub waiting : (sample : ℕ) → Run → (bits : List ℕ) → State
waiting sample run bits = record { mode = Waiting; left = 0; level = sample; run = run; bits = bits }

-- B3: where a receiver starts, with nothing heard and nothing found
abbrev pub fresh : State
fresh = hunting (run_of 0 1)

-- B2: only these two modes are inside a row
abbrev pub in_progress : Mode → Bool
in_progress Hunting = false
in_progress Ready = false
in_progress Counting = true
in_progress Waiting = true

-- B12: nothing but the run changes, and nothing is reported
abbrev pub stays : State → Run → Moved
stays s run =
    record {
      state = record { mode = s.mode; left = s.left; level = s.level; run = run; bits = s.bits };
      event = nothing;
    }

-- B11: whatever the mode was it is now ready at the level of the read, and a row that was under way is lost, which is
-- reported with how many bits it had
abbrev pub quietened : Settings → State → (read : ℕ) → Moved
quietened g s read =
    record { state = ready g.Q read; event = choose (in_progress s.mode) (broken (length s.bits)) nothing }

-- B15: its level is kept, and its sample is k reads away
abbrev pub marked : Settings → State → Run → (read : ℕ) → Moved
marked g s run read = record { state = counting g.k read run s.bits; event = nothing }

-- B17, B18: the n-th completes the row, which is delivered, and nothing is kept but the run; before that the receiver
-- waits, keeping the sample's level
abbrev pub collected : Settings → Run → (sample : ℕ) (bits : List ℕ) → Moved
collected g run sample bits =
    choose (eqb (length bits) g.n) (record { state = hunting run; event = row bits })
    (record { state = waiting sample run bits; event = nothing })

-- B16: this read takes one from what is left, and when that leaves nothing it is the sample
abbrev pub counted_down : Settings → State → Run → (read : ℕ) → Moved
counted_down g s run read =
    choose (eqb (s.left - 1) 0) (collected g run read (s.bits ++ bit_of s.level read ∷ []))
    (record { state = counting (s.left - 1) s.level run s.bits; event = nothing })

-- B13, B14: the first read unlike the level kept is a mark
abbrev pub awaited : Settings → State → Run → (read : ℕ) → Moved
awaited g s run read = choose (eqb read s.level) (stays s run) (marked g s run read)

-- B12 to B16: what the read does in each mode, and in hunting it does nothing
abbrev pub listening : Mode → Settings → State → Run → (read : ℕ) → Moved
listening Hunting g s run read = stays s run
listening Ready g s run read = awaited g s run read
listening Counting g s run read = counted_down g s run read
listening Waiting g s run read = awaited g s run read

-- B10, B11: the run first, and only then the mode
unfoldable pub next : Settings → State → (read : ℕ) → Moved
next g s read =
    choose (eqb (run_after g.Q s.run read).reads g.Q) (quietened g s read)
    (listening s.mode g s (run_after g.Q s.run read) read)
