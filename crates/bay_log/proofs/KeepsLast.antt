-- With no clearing, each event that is logged is kept last, so that the last 64 of them are kept.
use Prim.Native.Nat.{ℕ, suc, ◌+◌, ◌-◌, ◌<◌, ◌≤◌}
use mathlib.Core.Path.{◌≡◌, refl, sym, ap, ◌∙◌}
use mathlib.Core.Bool.{Bool, true, false, ◌&&◌, and-false}
use mathlib.Core.Logic.{dite}
use mathlib.Core.List.{List, [], ◌∷◌, ◌++◌, map, append_assoc, append-nil}
use native.Mathlib.Decide.{dec_le}
use native.Mathlib.Omega.{arith}
use lib.Dec.{leb, ltb}
use lib.ListN.{length, take, drop, length-append, length-drop, length-map}
use lib.Seq.{drop-drop, drop-append-le, take_at}
use borrow.Author.Tests.{lt-ltb, le-ltb, ltb-true, le-leb, eq-eqb}
use Rattle.measure.specs.Choose.{choose}
use Rattle.measure.specs.Ranges.{log_records, record_bytes, bits_most}
use Rattle.measure.specs.Refusals.{Answer, given}
use Rattle.measure.proofs.Both.{both}
use Rattle.bay_log.specs.Records.{Log, Record, record_at, event_record}
use Rattle.bay_log.specs.Sequence.{Call, logs, clears, lists, Kept, State, ran, after, added, event_fits, newer}
use Rattle.bay_log.specs.Sequence.{placed, at_first, Shows}
use Rattle.bay_log.specs.LastEvents.{Event, call_of, record_of, NoClearing, logged_from, last_of, ShowsRecords}
use Rattle.bay_log.specs.LastEvents.{KeepsLast}
use Rattle.bay_log.proofs.Calls.{any_sequence}

abbrev events_of : List Kept → List Record
events_of kept = map (λ one. one.event) kept

-- one more at the end, and the first dropped where there are so many already
module _ {A : Type 0} (most : ℕ) where
  abbrev pushed : List A → A → List A
  pushed l new = choose (ltb (length l) most) l (drop 1 l) ++ (new ∷ [])

  last_more : (all : List A) (new : A) → 0 < most → pushed (last_of most all) new ≡ last_of most (all ++ (new ∷ []))
  last_more all new some =
      let longer : length (all ++ (new ∷ [])) ≡ length all + 1 = length-append all (new ∷ []) in
      let size : length (last_of most all) ≡ length all - (length all - most) =
      length-drop (length all - most) all in
      dite (dec_le most (length all))
      (λ h.
      let next : length all + 1 - most ≡ length all - most + 1 = omega arith in
      rw (le-ltb (length (last_of most all)) most (omega (arith, size)), longer, next)
      (ap (λ (l : List A). l ++ (new ∷ [])) (drop-drop 1 (length all - most) all)
      ∙ sym (drop-append-le (length all - most + 1) all (new ∷ []) (omega arith))))
      (λ h.
      let none : length all - most ≡ 0 = omega arith in
      let still : length all + 1 - most ≡ 0 = omega arith in
      rw (lt-ltb (length (last_of most all)) most (omega (arith, size)), longer, none, still))

-- what is added to what is kept, seen by its records
added_events : (kept : List Kept) (place : ℕ) (new : Record)
    → events_of (added (record { place = place; event = new }) kept) ≡ pushed log_records (events_of kept) new
added_events kept place new =
    rw (length-map kept (λ one. one.event)) (go (ltb (length kept) log_records))
  where
    more : (l : List Kept) → events_of (l ++ (record { place = place; event = new } ∷ [])) ≡ events_of l ++ (new ∷ [])
    more [] = refl
    more (x ∷ l) = ap (λ (m : List Record). x.event ∷ m) (more l)

    fewer : (l : List Kept) → events_of (drop 1 l) ≡ drop 1 (events_of l)
    fewer [] = refl
    fewer (x ∷ l) = refl

    go : (b : Bool)
        → events_of (choose b kept (drop 1 kept) ++ (record { place = place; event = new } ∷ []))
        ≡ choose b (events_of kept) (drop 1 (events_of kept)) ++ (new ∷ [])
    go true = more kept
    go false = more (drop 1 kept) ∙ ap (λ (l : List Record). l ++ (new ∷ [])) (fewer kept)

-- a read number that is above all that is kept, after more is kept or less
newer_more : (one other : ℕ) (kept : List Kept) → newer one kept ≡ true → one ≤ other → newer other kept ≡ true
newer_more one other [] e h = refl
newer_more one other (x ∷ kept) e h =
    let q = both (ltb x.event.number one) (newer one kept) e in
    let below : x.event.number < one = ltb-true x.event.number one q.0 in
    rw (lt-ltb x.event.number other (omega arith), newer_more one other kept q.1 h)

newer_fewer : (number : ℕ) (kept : List Kept) → newer number kept ≡ true → newer number (drop 1 kept) ≡ true
newer_fewer number [] e = refl
newer_fewer number (x ∷ kept) e = (both (ltb x.event.number number) (newer number kept) e).1

newer_last : (number : ℕ) (kept : List Kept) (new : Kept)
    → newer number (kept ++ (new ∷ [])) ≡ newer number kept && ltb new.event.number number
newer_last number [] new = go (ltb new.event.number number)
  where
    go : (b : Bool) → b && true ≡ b
    go true = refl
    go false = refl
newer_last number (x ∷ kept) new = go (ltb x.event.number number) (newer_last number kept new)
  where
    go : (b : Bool) → newer number (kept ++ (new ∷ [])) ≡ newer number kept && ltb new.event.number number
        → b && newer number (kept ++ (new ∷ [])) ≡ b && newer number kept && ltb new.event.number number
    go true e = e
    go false e = refl

-- a new event is above exactly those read numbers that the one added last is below
newer_added : (kept : List Kept) (new : Kept) → newer new.event.number kept ≡ true → (number : ℕ)
    → newer number (added new kept) ≡ leb (suc new.event.number) number
newer_added kept new e number = go (ltb (length kept) log_records)
  where
    rest : (l : List Kept) → newer new.event.number l ≡ true
        → newer number (l ++ (new ∷ [])) ≡ leb (suc new.event.number) number
    rest l all =
        dite (dec_le (suc new.event.number) number)
        (λ h.
        newer_last number l new
        ∙ rw (
          newer_more new.event.number number l all (omega arith),
          lt-ltb new.event.number number h,
        ))
        (λ h.
        newer_last number l new
        ∙ rw (le-ltb new.event.number number (omega arith))
        (and-false (newer number l)))

    go : (b : Bool) → newer number (choose b kept (drop 1 kept) ++ (new ∷ [])) ≡ leb (suc new.event.number) number
    go true = rest kept e
    go false = rest (drop 1 kept) (newer_fewer new.event.number kept e)

-- from a least read number on, all events that have their sizes are kept, each last
abbrev From : (least : ℕ) → List Kept → Type 0
From least kept = (number : ℕ) → newer number kept ≡ leb least number

keeps_from : (calls : List Call) (least : ℕ) (state : State) (done : List Record) → NoClearing calls
    → From least state.kept → events_of state.kept ≡ last_of log_records done
    → events_of (ran calls state).kept ≡ last_of log_records (done ++ logged_from least calls)
keeps_from [] least state done none from e = e ∙ ap (last_of log_records) (sym (append-nil done))
keeps_from (clears place ∷ calls) least state done none from e = absurd none
keeps_from (lists output ∷ calls) least state done none from e = keeps_from calls least state done none from e
keeps_from (logs number bits count broken ∷ calls) least state done none from e =
    rw (← (from number)) (go (event_fits bits count && newer number state.kept) refl
    (λ m s d. keeps_from calls m s d none))
  where
    event : Record
    event = event_record number bits count broken

    new : Kept
    new = placed state.log event

    next : (taken : Bool) → State
    next taken = record {
      log = after (logs number bits count broken) state.log;
      kept = choose taken (added new state.kept) state.kept;
    }

    go : (taken : Bool) → event_fits bits count && newer number state.kept ≡ taken
        → ((m : ℕ) (s : State) (d : List Record) → From m s.kept → events_of s.kept ≡ last_of log_records d
        → events_of (ran calls s).kept ≡ last_of log_records (d ++ logged_from m calls))
        → events_of (ran calls (next taken)).kept
        ≡ last_of log_records
        (done ++ choose taken (event ∷ logged_from (suc number) calls) (logged_from least calls))
    go false f more = more least (next false) done from e
    go true f more =
        more (suc number) (next true) (done ++ (event ∷ []))
        (newer_added state.kept new (both (event_fits bits count) (newer number state.kept) f).1)
        (added_events state.kept new.place event
        ∙ ap (λ (l : List Record). pushed log_records l event) e
        ∙ last_more log_records done event (omega arith))
        ∙ ap (last_of log_records) (append_assoc done (event ∷ []) (logged_from (suc number) calls))

map_places : (log : Log) (kept : List Kept)
    → map (record_at log) (map (λ one. one.place) kept) ≡ map (λ one. record_at log one.place) kept
map_places log [] = refl
map_places log (one ∷ kept) = ap (λ (l : List Record). record_at log one.place ∷ l) (map_places log kept)

-- a log that shows what is kept shows the records of it
shows_records : (state : State) → Shows state → (records : List Record) → events_of state.kept ≡ records
    → ShowsRecords state.log records
shows_records state shows records e output room =
    let size : length records ≡ length state.kept =
    ap length (sym e) ∙ length-map state.kept (λ one. one.event) in
    let answer = shows.listing output (omega (arith, size)) in (
      ap (λ (x : Answer ℕ × List ℕ). x.0) answer ∙ ap given (sym size),
      ap (λ (x : Answer ℕ × List ℕ). map (record_at state.log) (take (length records) x.1)) answer
          ∙ ap (map (record_at state.log))
          (take_at (map (λ one. one.place) state.kept)
          (drop (length (map (λ one. one.place) state.kept)) output) (length records)
          (length-map state.kept (λ one. one.place) ∙ sym size))
          ∙ map_places state.log state.kept ∙ shows.records ∙ e,
    )

pub keeps_last : KeepsLast
keeps_last calls none =
    shows_records (ran calls at_first) (any_sequence calls) (last_of log_records (logged_from 0 calls))
    (keeps_from calls 0 at_first [] none (λ number. rw (le-leb 0 number (omega arith))) refl)

-- Events that have their sizes and whose read numbers rise, from a least one on, are logged one after another.
abbrev pub Rise : (least : ℕ) → List Event → Type 0
Rise least [] = Unit {0}
Rise least (event ∷ events) =
    (length event.bits ≡ record_bytes) × (event.count ≤ bits_most) × (least ≤ event.number)
    × Rise (suc event.number) events

pub rise_logged : (events : List Event) (least : ℕ) → Rise least events
    → logged_from least (map call_of events) ≡ map record_of events
rise_logged [] least rise = refl
rise_logged (event ∷ events) least rise =
    rw (
      eq-eqb (length event.bits) record_bytes rise.0,
      le-leb event.count bits_most rise.1,
      le-leb least event.number rise.2,
    )
    (ap (λ (l : List Record). record_of event ∷ l) (rise_logged events (suc event.number) rise.3))

pub none_cleared : (events : List Event) → NoClearing (map call_of events)
none_cleared [] = tt
none_cleared (event ∷ events) = none_cleared events
