-- What C holds between calls is a receiver as it crosses, from which that receiver can be recovered, and a row's bits
-- can be recovered from its bytes. So a run of calls from C is a run of the operations.
use Prim.Native.Nat.{ℕ, ◌≤◌, ◌<◌}
use mathlib.Core.Path.{◌≡◌, refl, sym, ap, ◌∙◌}
use mathlib.Core.Bool.{true}
use mathlib.Core.List.{List}
use native.Mathlib.Omega.{arith}
use lib.ListN.{length}
use Rattle.measure.specs.Ranges.{entries_most, row_settings_fit}
use Rattle.measure.specs.Refusals.{given, refused}
use Rattle.board.specs.declared.Mode.{Mode}
use Rattle.board.specs.declared.Mode.TheVariants.{Hunting, Ready, Counting, Waiting}
use Rattle.board.specs.declared.Receiver.{Receiver}
use Rattle.board.specs.Rows.{Settings, Run, State, Event, nothing, row, broken, fresh, next}
use Rattle.board.specs.Packed.{kept, receiver_of}
use Rattle.board.specs.Answers.{Outcome, reached, refusing, begun, stepped, listened}
use Rattle.board.proofs.RowRules.{Ranged, Fitting, Valid, valid_fresh}
use Rattle.board.proofs.Standing.{ranged_of}
use Rattle.board.proofs.CellLaws.{row_read}
use Rattle.board.proofs.CallLaws.{Whole, whole_next, stepped_level, stepped_other}
use Rattle.siengulot.specs.Receivers.{Lent, Reply, put_back, brought, stepped_lent, brought_by, listened_lent}
use Rattle.siengulot.proofs.CallAfterCall.{next_step, next_listen}
use Rattle.promises.specs.Hearing.{event_from_c, step_from_c, listen_from_c, started_from_c, Caller, steps, listens}
use Rattle.promises.specs.Hearing.{steps_from_c, listens_from_c, hearing, Hears}
use Rattle.promises.proofs.Hearing.{Steps, Listens, one_by_one_lem, by_lists_lem, step_hears, listen_hears}

level_low : (m : Mode) (g : Settings) (run : Run) (left found level : ℕ) → Fitting m g run left found level
    → run.level ≤ 1 → level ≤ 255
level_low Hunting g run left found level f low = omega (arith, f.3)
level_low Ready g run left found level f low = omega (arith, f.3)
level_low Counting g run left found level f low = omega (arith, f.4)
level_low Waiting g run left found level f low = omega (arith, f.3)

module _ (g : Settings) where
  -- the receiver that keeps a state, lent beside some bytes for a row
  abbrev Holds : State → Lent → Type 0
  Holds s lent = (room : List ℕ) × (lent ≡ put_back (receiver_of g s) room)

  -- what an event crosses as is that event, and the receiver crosses with it
  crosses : (s : State) (room : List ℕ) (x : Receiver) (event : Event) → Ranged g → Whole g event
      → (crossed : Reply × Lent) → brought (put_back x room) (reached g s event) ≡ crossed
      → (event_from_c crossed.0 crossed.1 ≡ given event) × Holds s crossed.1
  crosses s room x nothing range whole crossed e = rw (← e) (refl, (room, refl))
  crosses s room x (row bits) range whole crossed e =
      rw (← e) (
        ap (λ (l : List ℕ). given (row l)) (row_read bits g.n whole.1 whole.0 range.n_most),
        (kept bits, refl),
      )
  crosses s room x (broken found) range whole crossed e = rw (← e) (refl, (room, refl))

  module _ (s : State) (v : Valid g s) (room : List ℕ) where
    abbrev x : Receiver
    x = receiver_of g s

    run_byte : x.bare.numbers.runlevel ≤ 255
    run_byte = omega (arith, v.level.most)

    byte : x.bare.numbers.level ≤ 255
    byte = level_low s.mode g s.run s.left (length s.bits) s.level v.fitting v.level.most

    step_crosses : (read : ℕ) (outcome : Outcome) → stepped x read ≡ outcome
        → stepped_lent (put_back x room) read ≡ brought (put_back x room) outcome
    step_crosses read outcome e =
        next_step x run_byte byte room read ∙ ap (λ (o : Outcome). brought (put_back x room) o) e

    listen_crosses : (reads : List ℕ) (outcome : Outcome) (used : ℕ) → listened x reads ≡ (outcome, used)
        → listened_lent (put_back x room) reads ≡ (brought (put_back x room) outcome, used)
    listen_crosses reads outcome used e =
        next_listen x run_byte byte room reads ∙ ap (λ (o : Outcome × ℕ). brought_by (put_back x room) o) e

  c_steps : Steps g Holds step_from_c
  c_steps = record { level = level; other = other }
    where
      level : (s : State) (lent : Lent) (read : ℕ) → Valid g s → Holds s lent → read ≤ 1
          → ((step_from_c lent read).0 ≡ given (next g s read).event)
          × Holds (next g s read).state (step_from_c lent read).1
      level s lent read v (room, is) low =
          rw is
          (crosses (next g s read).state room (receiver_of g s) (next g s read).event v.range
          (whole_next g s read v)
          (stepped_lent (put_back (receiver_of g s) room) read)
          (sym (step_crosses s v room read _ (stepped_level g s v read low))))

      other : (s : State) (lent : Lent) (read : ℕ) → Valid g s → Holds s lent → 1 < read
          → ((step_from_c lent read).0 ≡ refused 2 0) × Holds s (step_from_c lent read).1
      other s lent read v (room, is) high =
          rw (is, step_crosses s v room read _ (stepped_other g s v read high)) (refl, (room, refl))

  c_listens : Listens g Holds listen_from_c
  c_listens = record { brings = brings; stops = stops }
    where
      brings : (s t : State) (lent : Lent) (reads : List ℕ) → Valid g s → Holds s lent → (event : Event) (many : ℕ)
          → Whole g event → listened (receiver_of g s) reads ≡ (reached g t event, many)
          → ((listen_from_c lent reads).0.0 ≡ given event)
          × (((listen_from_c lent reads).1 ≡ many) × Holds t (listen_from_c lent reads).0.1)
      brings s t lent reads v (room, is) event many whole e =
          let crossed = listen_crosses s v room reads (reached g t event) many e in
          let done = crosses t room (receiver_of g s) event v.range whole
          (listened_lent (put_back (receiver_of g s) room) reads).0
          (sym (ap (λ (c : (Reply × Lent) × ℕ). c.0) crossed)) in
          rw is (done.0, (ap (λ (c : (Reply × Lent) × ℕ). c.1) crossed, done.1))

      stops : (s : State) (lent : Lent) (reads : List ℕ) → Valid g s → Holds s lent → (place : ℕ)
          → listened (receiver_of g s) reads ≡ (refusing (receiver_of g s) 2 place, 0)
          → (listen_from_c lent reads).0.0 ≡ refused 2 place
      stops s lent reads v (room, is) place e =
          rw (is, listen_crosses s v room reads (refusing (receiver_of g s) 2 place) 0 e)

module _ (g : Settings) (range : row_settings_fit g.k g.n g.Q ≡ true) (room : List ℕ) where
  valid : Valid g fresh
  valid = valid_fresh g (ranged_of g range)

  -- it starts with a fresh receiver
  started : started_from_c g room ≡ put_back (receiver_of g fresh) room
  unfolding begun
  started = rw range

  pub c_step_hears : Hears g (hearing (steps_from_c room) g)
  c_step_hears reads =
      one_by_one_lem g (Holds g) step_from_c (c_steps g) fresh (started_from_c g room) 0 reads valid (room, started)

  pub c_listen_hears : (part : ℕ) (some : 1 ≤ part) (few : part ≤ entries_most)
      → Hears g (hearing (listens_from_c room part some few) g)
  c_listen_hears part some few reads =
      by_lists_lem g (Holds g) listen_from_c (c_listens g) part some few (length reads) fresh (started_from_c g room) 0 reads
      valid (room, started) (omega arith)

pub every_caller : (g : Settings) → row_settings_fit g.k g.n g.Q ≡ true → (caller : Caller)
    → Hears g (hearing caller g)
every_caller g range steps = step_hears g range
every_caller g range (listens part some few) = listen_hears g range part some few
every_caller g range (steps_from_c room) = c_step_hears g range room
every_caller g range (listens_from_c room part some few) = c_listen_hears g range room part some few
