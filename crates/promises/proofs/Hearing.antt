-- A receiver in force keeps a well formed state, whoever holds it; each call takes that state where the rules take it,
-- so what the calls report one after another is what the rules report.
use Prim.Native.Nat.{ℕ, zero, suc, ◌+◌, ◌-◌, ◌≤◌, ◌<◌}
use mathlib.Core.Path.{◌≡◌, refl, sym, ap, ◌∙◌}
use mathlib.Core.Logic.{inl, inr}
use mathlib.Core.Bool.{true}
use mathlib.Core.List.{List, [], ◌∷◌, ◌++◌, map}
use native.Mathlib.Nat.{zero-add}
use native.Mathlib.Numerals.{add-one}
use native.Mathlib.Omega.{arith}
use native.Mathlib.Decide.{dec_le}
use borrow.Author.Tests.{le-leb, lt-leb}
use lib.ListN.{length, get_or, take, drop, length-take, length-drop, take-append-drop}
use lib.Seq.{take-append-le, take-length, get_or-take, drop-cons}
use Rattle.measure.specs.Ranges.{entries_most, row_settings_fit}
use Rattle.measure.specs.Refusals.{Answer, given, refused}
use Rattle.board.specs.Rows.{Settings, State, Event, nothing, fresh, next}
use Rattle.board.specs.Feeding.{Report, noted, after_by, reports_by, after, reports}
use Rattle.board.specs.Packed.{receiver_of}
use Rattle.board.specs.Answers.{Outcome, reached, refusing, begun, listened}
use Rattle.board.specs.declared.Receiver.{Receiver}
use Rattle.board.proofs.PackedBits.{Binary}
use Rattle.board.proofs.RowRules.{Valid, valid_fresh, valid_next}
use Rattle.board.proofs.Standing.{ranged_of}
use Rattle.board.proofs.FeedingLaws.{reports_append, later, reports_later}
use Rattle.board.proofs.CallLaws.{Whole, Ends, Stops, Brings, Heard, hears, noted_some}
use Rattle.board.proofs.CallLaws.{stepped_level, stepped_other, listened_valid}
use Rattle.board.proofs.HeardLaws.{listened_levels, begun_fresh}
use Rattle.promises.specs.Hearing.{Stepping, Listening, one_by_one, going_on, by_lists, step, listen}
use Rattle.promises.specs.Hearing.{steps, listens, hearing, heeding, Hears}

module _ (g : Settings) where
  -- levels are heeded as the rules have it
  pub heeded_reports : (s : State) (place : ℕ) (reads : List ℕ) → Binary reads
      → reports_by (heeding g) s place reads ≡ reports g s place reads
  unfolding reports_by
  heeded_reports s place [] levels = refl
  heeded_reports s place (read ∷ reads) levels =
      rw (le-leb read 1 (levels 0), heeded_reports (next g s read).state (suc place) reads (λ i. levels (suc i)))

  pub heeded_after : (s : State) (reads : List ℕ) → Binary reads → after_by (heeding g) s reads ≡ after g s reads
  unfolding after_by
  heeded_after s [] levels = refl
  heeded_after s (read ∷ reads) levels =
      rw (le-leb read 1 (levels 0)) (heeded_after (next g s read).state reads (λ i. levels (suc i)))

  -- a caller's receiver keeps a state
  module _ {X : Type 0} (Keeps : State → X → Type 0) where
    -- a call with one read
    pub record Steps (step : Stepping X) : Type 0 where
      pub level : (s : State) (x : X) (read : ℕ) → Valid g s → Keeps s x → read ≤ 1
          → ((step x read).0 ≡ given (next g s read).event) × Keeps (next g s read).state (step x read).1
      pub other : (s : State) (x : X) (read : ℕ) → Valid g s → Keeps s x → 1 < read
          → ((step x read).0 ≡ refused 2 0) × Keeps s (step x read).1

    pub one_by_one_lem : (step : Stepping X) → Steps step → (s : State) (x : X) (place : ℕ) (reads : List ℕ) → Valid g s
        → Keeps s x
        → one_by_one step x place reads ≡ reports_by (heeding g) s place reads
    unfolding one_by_one reports_by
    one_by_one_lem step does s x place [] v keeps = refl
    one_by_one_lem step does s x place (read ∷ reads) v keeps =
        go (dec_le read 1) (λ t y w kept. one_by_one_lem step does t y (suc place) reads w kept)
      where
        go : Dec (read ≤ 1)
            → ((t : State) (y : X) → Valid g t → Keeps t y
            → one_by_one step y (suc place) reads ≡ reports_by (heeding g) t (suc place) reads)
            → one_by_one step x place (read ∷ reads) ≡ reports_by (heeding g) s place (read ∷ reads)
        go (yes level) more =
            let done = does.level s x read v keeps level in
            rw (
              done.0,
              le-leb read 1 level,
              more (next g s read).state (step x read).1
                  (valid_next g s read v level) done.1,
            )
        go (no other) more =
            let done = does.other s x read v keeps (omega arith) in
            rw (done.0, lt-leb read 1 (omega arith), more s (step x read).1 v done.1)

    -- a call with a list: where Rust's brings an event, or nothing, or stops at a read that is no level, so does it
    pub record Listens (listen : Listening X) : Type 0 where
      pub brings : (s t : State) (x : X) (reads : List ℕ) → Valid g s → Keeps s x → (event : Event) (many : ℕ)
          → Whole g event → listened (receiver_of g s) reads ≡ (reached g t event, many)
          → ((listen x reads).0.0 ≡ given event) × (((listen x reads).1 ≡ many) × Keeps t (listen x reads).0.1)
      pub stops : (s : State) (x : X) (reads : List ℕ) → Valid g s → Keeps s x → (place : ℕ)
          → listened (receiver_of g s) reads ≡ (refusing (receiver_of g s) 2 place, 0)
          → (listen x reads).0.0 ≡ refused 2 place

    module _ (listen : Listening X) (does : Listens listen)
        (part : ℕ) (some : 1 ≤ part) (few : part ≤ entries_most) where
      -- calls from any state on hear what the rules do
      abbrev Hear : ℕ → Type 0
      Hear calls = (s : State) (x : X) (place : ℕ) (reads : List ℕ) → Valid g s → Keeps s x → length reads ≤ calls
          → by_lists listen part calls x place reads ≡ reports_by (heeding g) s place reads

      -- what one call and those after it hear of reads whose first part is given
      module _ (calls : ℕ) (more : Hear calls) (s : State) (x : X) (place : ℕ) (reads : List ℕ) (v : Valid g s)
          (kept : Keeps s x) (h : length reads ≤ suc calls) where
        abbrev given_part : List ℕ
        given_part = take part reads

        within : length given_part ≤ entries_most
        within = omega (arith, length-take part reads)

        abbrev outcome : Outcome × ℕ
        outcome = listened (receiver_of g s) given_part

        abbrev going : List Report
        going = going_on listen (by_lists listen part calls) x place reads (listen x given_part)

        -- reads before a place in the part, heeded as they are by the rules, and what follows them
        parted : (u : ℕ) → u ≤ length given_part → Binary (take u given_part)
            → reports_by (heeding g) s place reads
            ≡ reports g s place (take u given_part)
            ++ reports_by (heeding g) (after g s (take u given_part)) (place + u) (drop u reads)
        parted u le levels =
            let front : take u given_part ≡ take u reads =
            sym (take-append-le u given_part (drop part reads) le)
            ∙ ap (take u) (take-append-drop part reads) in
            let size : length (take u reads) ≡ u = omega (arith, length-take u reads, length-take part reads) in
            ap (reports_by (heeding g) s place) (sym (take-append-drop u reads))
            ∙ reports_append (heeding g) s place (take u reads) (drop u reads)
            ∙ rw (
              size,
              ← front,
              heeded_reports s place (take u given_part) levels,
              heeded_after s (take u given_part) levels,
            )

        reported : (u : ℕ) (told : List Report) → reports g s 0 (take u given_part) ≡ told
            → reports g s place (take u given_part) ≡ map (later place) told
        reported u told e =
            rw zero-add at (reports_later (next g) s 0 place (take u given_part)) ∙ ap (map (later place)) e

        -- after an event, or with nothing, the caller goes on with the reads that are left
        goes_on : (u : ℕ) (event : Event) → Whole g event
            → outcome ≡ (reached g (after g s (take u given_part)) event, u)
            → Valid g (after g s (take u given_part)) → length reads ≤ calls + u
            → going ≡ noted (place + u - 1) event
            (reports_by (heeding g) (after g s (take u given_part)) (place + u) (drop u reads))
        goes_on u event whole is valid enough =
            let t : State = after g s (take u given_part) in
            let done = does.brings s t x given_part v kept event u whole is in
            rw (done.0, done.1.0)
            (ap (noted (place + u - 1) event)
            (more t (listen x given_part).0.1 (place + u) (drop u reads) valid done.1.1
            (omega (arith, length-drop u reads))))

        by_end : Ends (receiver_of g s) g s 0 given_part → going ≡ reports_by (heeding g) s place reads
        by_end ends =
            let u : ℕ = length given_part in
            let all : take u given_part ≡ given_part = take-length given_part in
            let is : outcome ≡ (reached g (after g s (take u given_part)) nothing, u) =
            listened_valid g s v given_part within ∙ ends.is ∙ rw (all, zero-add) in
            goes_on u nothing tt is (rw all ends.valid) (omega (arith, length-take part reads))
            ∙ sym (parted u (omega arith) (rw all ends.levels) ∙ rw (reported u [] (rw all ends.silent)))

        by_event : Brings (receiver_of g s) g s 0 given_part → going ≡ reports_by (heeding g) s place reads
        by_event brings =
            let u : ℕ = brings.used in
            let is : outcome ≡ (reached g (after g s (take u given_part)) brings.event, u) =
            listened_valid g s v given_part within ∙ brings.is ∙ rw zero-add in
            let here : place + u - 1 ≡ 0 + u - 1 + place = omega (arith, brings.least) in
            goes_on u brings.event brings.whole is brings.valid (omega (arith, brings.least))
            ∙ noted_some (place + u - 1) brings.event brings.some _
            ∙ rw here (sym (parted u brings.most brings.levels ∙ rw (reported u _ brings.told)))

        -- a read that is no level: those before it are given by themselves, and it is passed over
        by_stop : Stops (receiver_of g s) g s 0 given_part → going ≡ reports_by (heeding g) s place reads
        unfolding reports_by
        by_stop stops =
            let p : ℕ = stops.at in
            let t : State = after g s (take p given_part) in
            let is : outcome ≡ (refusing (receiver_of g s) 2 p, 0) =
            listened_valid g s v given_part within ∙ stops.is ∙ rw zero-add in
            let answer : (listen x given_part).0.0 ≡ refused 2 p = does.stops s x given_part v kept p is in
            let there : p < length reads = omega (arith, stops.there, length-take part reads) in
            let size : length (take p reads) ≡ p = omega (arith, length-take p reads) in
            let front : take p given_part ≡ take p reads =
            sym (take-append-le p given_part (drop part reads) (omega (arith, stops.there)))
            ∙ ap (take p) (take-append-drop part reads) in
            let bad : 1 < get_or reads p 0 =
            rw (get_or-take part reads p 0 (omega (arith, stops.there, length-take part reads))) at stops.bad in
            let all : take (length (take p reads)) (take p reads) ≡ take p reads = take-length (take p reads) in
            let again : listened (receiver_of g s) (take p reads) ≡ (reached g t nothing, length (take p reads)) =
            listened_levels g s (take p reads) v (rw front at stops.levels)
            (omega (arith, length-take p reads, stops.there, length-take part reads))
            ∙ rw (rw front at stops.silent, all, front) in
            let rest : by_lists listen part calls (listen x (take p reads)).0.1 (place + p + 1) (drop (p + 1) reads)
            ≡ reports_by (heeding g) t (place + p + 1) (drop (p + 1) reads) =
            more t (listen x (take p reads)).0.1 (place + p + 1) (drop (p + 1) reads) stops.valid
            (does.brings s t x (take p reads) v kept nothing (length (take p reads)) tt again).1.1
            (omega (arith, length-drop (p + 1) reads)) in
            let left : going ≡ reports_by (heeding g) t (place + p + 1) (drop (p + 1) reads) = rw answer rest in
            let right : reports_by (heeding g) s place reads
            ≡ reports_by (heeding g) t (place + p + 1) (drop (p + 1) reads) =
            parted p (omega (arith, stops.there)) stops.levels
            ∙ rw (
              reported p [] stops.silent,
              drop-cons reads p 0 there,
              lt-leb (get_or reads p 0) 1 bad,
              add-one p,
              add-one (place + p),
            ) in
            left ∙ sym right

        one_call : going ≡ reports_by (heeding g) s place reads
        one_call = go (hears (receiver_of g s) g s 0 given_part v)
          where
            go : Heard (receiver_of g s) g s 0 given_part → going ≡ reports_by (heeding g) s place reads
            go (inl ends) = by_end ends
            go (inr (inl stops)) = by_stop stops
            go (inr (inr brings)) = by_event brings

      pub by_lists_lem : (calls : ℕ) → Hear calls
      unfolding by_lists reports_by
      by_lists_lem zero s x place [] v kept h = refl
      by_lists_lem zero s x place (read ∷ reads) v kept h = absurd (omega arith)
      by_lists_lem (suc calls) s x place reads v kept h = one_call calls (by_lists_lem calls) s x place reads v kept h

-- Rust's receiver keeps a state by being the one that does
module _ (g : Settings) where
  abbrev Is : State → Receiver → Type 0
  Is s x = x ≡ receiver_of g s

  rust_steps : Steps g Is step
  rust_steps = record {
    level = λ s x read v is level. rw is (
      ap (λ (o : Outcome). o.answer) (stepped_level g s v read level),
      ap (λ (o : Outcome). o.receiver) (stepped_level g s v read level),
    );
    other = λ s x read v is other. rw is (
      ap (λ (o : Outcome). o.answer) (stepped_other g s v read other),
      ap (λ (o : Outcome). o.receiver) (stepped_other g s v read other),
    );
  }

  rust_listens : Listens g Is listen
  rust_listens = record {
    brings = λ s t x reads v is event many whole e. rw (is, e) (refl, (refl, refl));
    stops = λ s x reads v is place e. rw (is, e);
  }

module _ (g : Settings) (range : row_settings_fit g.k g.n g.Q ≡ true) where
  valid : Valid g fresh
  valid = valid_fresh g (ranged_of g range)

  started : (begun g.k g.n g.Q).1 ≡ receiver_of g fresh
  started = ap (λ (p : Answer Event × Receiver). p.1) (begun_fresh g.k g.n g.Q range)

  pub step_hears : Hears g (hearing steps g)
  step_hears reads =
      one_by_one_lem g (Is g) step (rust_steps g) fresh (begun g.k g.n g.Q).1 0 reads valid
      started

  pub listen_hears : (part : ℕ) (some : 1 ≤ part) (few : part ≤ entries_most)
      → Hears g (hearing (listens part some few) g)
  listen_hears part some few reads =
      by_lists_lem g (Is g) listen (rust_listens g) part some few (length reads) fresh (begun g.k g.n g.Q).1 0
      reads valid started (omega arith)
