-- Each call keeps the log in step with what is kept: a new event takes a free place, or that of the oldest, and comes
-- last; a cleared one goes; and every other record and its order stay.
use Prim.Native.Nat.{ℕ, zero, suc, ◌+◌, ◌-◌, ◌*◌, ◌<◌, ◌≤◌}
use mathlib.Core.Path.{◌≡◌, refl, sym, ap, ◌∙◌}
use mathlib.Core.Bool.{Bool, true, false, ◌&&◌}
use mathlib.Core.Logic.{dite}
use mathlib.Core.List.{List, [], ◌∷◌, ◌++◌, map}
use native.Mathlib.Decide.{dec_le, ℕ_discrete}
use native.Mathlib.Omega.{arith}
use lib.Dec.{leb, ltb, eqb}
use lib.ListN.{length, take, drop, get_or, replicate, length-replicate, get_or-replicate, replicate-append-replicate}
use lib.ListN.{length-map}
use lib.Seq.{get_or-set_same, get_or-set_other, take_at, drop_at}
use borrow.Author.Tests.{lt-ltb, le-ltb, ltb-true, eq-eqb, ne_eqb, eqb-true, eqb-false}
use Rattle.measure.specs.Choose.{choose}
use Rattle.measure.specs.Ranges.{log_records, record_bytes, bits_most}
use Rattle.measure.specs.Lists.{first_above}
use Rattle.measure.specs.Refusals.{Answer, given, refused, ranged}
use Rattle.measure.proofs.Above.{above_none}
use Rattle.measure.proofs.Both.{both}
use Rattle.bay_log.specs.Records.{Log, Record, record_at, put, is_free, marked, no_bits, event_record, free_record}
use Rattle.bay_log.specs.Records.{broken_records, empty_log}
use Rattle.bay_log.specs.Order.{older, in_order, takes, later}
use Rattle.bay_log.specs.Answers.{log_fits, count_holds, logged, cleared, listed}
use Rattle.bay_log.specs.Sequence.{Call, logs, clears, lists, Kept, added, without, State, ran}
use Rattle.bay_log.specs.Sequence.{event_fits, newer, after, keeps, at_first, Shows, AnySequence}
use Rattle.bay_log.proofs.Older.{older_differs}
use Rattle.bay_log.proofs.InOrder.{Each, each_at, each_map, Sorted, each_in_order, in_order_free, in_order_below}
use Rattle.bay_log.proofs.InOrder.{in_order_each, sorted_in_order}
use Rattle.bay_log.specs.Lent.{Sized}
use Rattle.bay_log.proofs.Count.{among_none}
use Rattle.bay_log.proofs.Changed.{left_out, OneApart, order_freed, order_newest}
use Rattle.bay_log.proofs.PutLaws.{put_sized, put_here, put_there}
use Rattle.bay_log.proofs.InUse.{later_all, all_later, above_found, listed_full, listed_fewer}

abbrev pub places_of : List Kept → List ℕ
places_of kept = map (λ one. one.place) kept

-- the records of what is kept stand at their places
abbrev pub Held : Log → List Kept → Type 0
Held log [] = Unit {0}
Held log (one ∷ kept) = (record_at log one.place ≡ one.event) × Held log kept

pub record Good (log : Log) (kept : List Kept) : Type 0 where
  pub sized : Sized log
  pub places : in_order log.numbers log.free log_records ≡ places_of kept
  pub held : Held log kept
  pub freed : (place : ℕ) → place < log_records → 0 < get_or log.free place 0 → record_at log place ≡ free_record
  pub count : log.broken_count ≡ broken_records log.broken log.free

-- what is kept without a place, seen by its places and by its records
module _ (q : ℕ) where
  without_places : (kept : List Kept) → places_of (without q kept) ≡ left_out q (places_of kept)
  without_places [] = refl
  without_places (one ∷ kept) = go (eqb one.place q) (without_places kept)
    where
      go : (b : Bool) → places_of (without q kept) ≡ left_out q (places_of kept)
          → places_of (choose b (without q kept) (one ∷ without q kept))
          ≡ choose b (left_out q (places_of kept)) (one.place ∷ left_out q (places_of kept))
      go true e = e
      go false e = ap (λ (l : List ℕ). one.place ∷ l) e

  without_none : (kept : List Kept) → Each (λ place. place ≡ q → ⊥) (places_of kept) → without q kept ≡ kept
  without_none [] all = refl
  without_none (one ∷ kept) all =
      rw (ne_eqb one.place q all.0) (ap (λ (l : List Kept). one ∷ l) (without_none kept all.1))

  without_held : (log : Log) (new : Record) → Sized log → q < log_records → length new.bits ≡ record_bytes
      → (kept : List Kept) → Held log kept → Held (put log q new) (without q kept)
  without_held log new sized there whole [] held = tt
  without_held log new sized there whole (one ∷ kept) held =
      go (eqb one.place q) refl (without_held log new sized there whole kept held.1)
    where
      go : (b : Bool) → eqb one.place q ≡ b → Held (put log q new) (without q kept)
          → Held (put log q new) (choose b (without q kept) (one ∷ without q kept))
      go true e rest = rest
      go false e rest =
          (put_there log q new sized there whole one.place (eqb-false one.place q e) ∙ held.0, rest)

held_more : (log : Log) (kept : List Kept) (one : Kept) → Held log kept → record_at log one.place ≡ one.event
    → Held log (kept ++ (one ∷ []))
held_more log [] one held e = (e, tt)
held_more log (x ∷ kept) one held e = (held.0, held_more log kept one held.1 e)

places_more : (kept : List Kept) (one : Kept) → places_of (kept ++ (one ∷ [])) ≡ places_of kept ++ (one.place ∷ [])
places_more [] one = refl
places_more (x ∷ kept) one = ap (λ (l : List ℕ). x.place ∷ l) (places_more kept one)

-- only the place where a record is put has another read number or mark
put_apart : (log : Log) (q : ℕ) (new : Record)
    → OneApart log.numbers log.free (put log q new).numbers (put log q new).free q
put_apart log q new = record {
  number = λ place apart. get_or-set_other log.numbers q place new.number 0 apart;
  mark = λ place apart. get_or-set_other log.free q place new.free 0 apart;
}

-- the place that is taken, and what is kept no longer once it is
pub record Taken (log : Log) (kept : List Kept) (q : ℕ) : Type 0 where
  pub there : q < log_records
  pub rest : choose (ltb (length kept) log_records) kept (drop 1 kept) ≡ without q kept

-- the first that is kept, and the others, none of which stands at its place
first_out : (numbers : List ℕ) (kept : List Kept) → Sorted numbers (places_of kept) → 0 < length kept
    → drop 1 kept ≡ without (get_or (places_of kept) 0 0) kept
first_out numbers [] sorted h = absurd (omega arith)
first_out numbers (one ∷ kept) sorted h =
    rw (eq-eqb one.place one.place refl)
    (sym (without_none one.place kept
    (each_map (λ place. older numbers one.place place ≡ true) (λ place. place ≡ one.place → ⊥) (places_of kept)
    (λ place older-one e. older_differs numbers one.place place older-one (sym e)) sorted.0)))

module _ (log : Log) (kept : List Kept) (good : Good log kept) where
  size : length (in_order log.numbers log.free log_records) ≡ length kept
  size = ap length good.places ∙ length-map kept (λ one. one.place)

  -- a free place is not among those of what is kept
  pub free_apart : (q : ℕ) → 0 < get_or log.free q 0 → Each (λ place. place ≡ q → ⊥) (places_of kept)
  free_apart q unused =
      rw (← good.places)
      (each_in_order (λ place. place ≡ q → ⊥) log.numbers log.free log_records
      (λ place h used e. let marked-too : 0 < get_or log.free place 0 = rw e unused in omega arith))

  taken_free : first_above 0 log.free < length log.free → Taken log kept (takes log.numbers log.free)
  unfolding takes
  taken_free some =
      let there : first_above 0 log.free < log_records = omega (arith, good.sized.free) in
      let unused : 0 < get_or log.free (first_above 0 log.free) 0 = above_found 0 log.free some in
      let fewer : length kept < log_records =
      omega (
        arith,
        size,
        listed_fewer log.numbers log.free log_records (first_above 0 log.free) there unused,
      ) in
      rw (lt-ltb (first_above 0 log.free) (length log.free) some)
      (record {
        there = there;
        rest = rw (lt-ltb (length kept) log_records fewer)
            (sym (without_none (first_above 0 log.free) kept (free_apart (first_above 0 log.free) unused)));
      })

  -- where none is free the first that is kept stands at the place taken, and nothing else does
  taken_oldest : length log.free ≤ first_above 0 log.free → Taken log kept (takes log.numbers log.free)
  unfolding takes
  taken_oldest none =
      let used : (place : ℕ) → place < log_records → get_or log.free place 0 ≤ 0 =
      λ place h. above_none 0 log.free none place (omega (arith, good.sized.free)) in
      let full : length (in_order log.numbers log.free log_records) ≡ log_records =
      listed_full log.numbers log.free log_records used in
      let all : length kept ≡ log_records = omega (arith, size, full) in
      rw (le-ltb (first_above 0 log.free) (length log.free) none)
      (record {
        there = each_at (λ place. place < log_records) (in_order log.numbers log.free log_records)
            (in_order_below log.numbers log.free log_records) 0 (omega (arith, full));
        rest = rw (le-ltb (length kept) log_records (omega arith), good.places)
            (first_out log.numbers kept
            (rw good.places at (sorted_in_order log.numbers log.free log_records))
            (omega arith));
      })

  pub taken : Taken log kept (takes log.numbers log.free)
  taken =
      dite (dec_le (length log.free) (first_above 0 log.free)) taken_oldest (λ h. taken_free (omega arith))

-- the bits of an event's record are 128 bytes
event_whole : (number : ℕ) (bits : List ℕ) (count broken : ℕ) → length bits ≡ record_bytes
    → length (event_record number bits count broken).bits ≡ record_bytes
event_whole number bits count broken h = go (marked broken)
  where
    go : (b : Bool) → length (choose b no_bits bits) ≡ record_bytes
    go true = length-replicate {A = ℕ} record_bytes 0
    go false = h

-- a record that is in use and whose read number is above all others comes last
module _ (log : Log) (kept : List Kept) (good : Good log kept) (q : ℕ) (there : q < log_records) (new : Record)
    (whole : length new.bits ≡ record_bytes) where
  good_newest : new.free ≡ 0
      → ((place : ℕ) → place < log_records → get_or log.free place 0 ≤ 0 → get_or log.numbers place 0 < new.number)
      → Good (put log q new) (without q kept ++ (record { place = q; event = new } ∷ []))
  good_newest used above =
      let number-here : get_or (put log q new).numbers q 0 ≡ new.number =
      get_or-set_same log.numbers q new.number 0 (omega (arith, good.sized.numbers)) in
      let mark_here : get_or (put log q new).free q 0 ≡ new.free =
      get_or-set_same log.free q new.free 0 (omega (arith, good.sized.free)) in
      record {
        sized = put_sized log q new good.sized there whole;
        places =
            order_newest log.numbers log.free (put log q new).numbers (put log q new).free q
            (put_apart log q new) log_records there (omega (arith, mark_here))
            (λ place h u. omega (arith, number-here, above place h u)) log_records there (omega arith)
            ∙ ap (λ (l : List ℕ). left_out q l ++ (q ∷ [])) good.places
            ∙ ap (λ (l : List ℕ). l ++ (q ∷ [])) (sym (without_places q kept))
            ∙ sym (places_more (without q kept) (record { place = q; event = new }));
        held = held_more (put log q new) (without q kept) (record { place = q; event = new })
            (without_held q log new good.sized there whole kept good.held)
            (put_here log q new good.sized there whole);
        freed = λ place h unused.
            let apart : place ≡ q → ⊥ =
            λ e. let unused-here : 0 < get_or (put log q new).free q 0 = rw e at unused in omega (arith, mark_here) in
            put_there log q new good.sized there whole place apart
            ∙ good.freed place h (rw (get_or-set_other log.free q place new.free 0 apart) at unused);
        count = refl;
      }

-- a record that was cleared is kept no longer
good_freed : (log : Log) (kept : List Kept) → Good log kept → (q : ℕ) → q < log_records
    → Good (put log q free_record) (without q kept)
good_freed log kept good q there =
    let whole : length free_record.bits ≡ record_bytes = length-replicate {A = ℕ} record_bytes 0 in
    let mark_here : get_or (put log q free_record).free q 0 ≡ 1 =
    get_or-set_same log.free q 1 0 (omega (arith, good.sized.free)) in
    record {
      sized = put_sized log q free_record good.sized there whole;
      places =
          order_freed log.numbers log.free (put log q free_record).numbers (put log q free_record).free q
          (put_apart log q free_record) (omega (arith, mark_here)) log_records
          ∙ ap (left_out q) good.places ∙ sym (without_places q kept);
      held = without_held q log free_record good.sized there whole kept good.held;
      freed = λ place h unused.
          dite (ℕ_discrete place q)
          (λ e. rw e (put_here log q free_record good.sized there whole))
          (λ apart.
          put_there log q free_record good.sized there whole place apart
          ∙ good.freed place h (rw (get_or-set_other log.free q place 1 0 apart) at unused));
      count = refl;
    }

fits_sized : (log : Log) → Sized log → log_fits log ≡ true
fits_sized log sized =
    rw (
      eq-eqb (length log.numbers) log_records sized.numbers,
      eq-eqb (length log.bits) (record_bytes * log_records) sized.bits,
      eq-eqb (length log.counts) log_records sized.counts,
      eq-eqb (length log.broken) log_records sized.broken,
      eq-eqb (length log.free) log_records sized.free,
    )

-- a read number is above those of all that is kept exactly if it is above those of all records in use
module _ (log : Log) (number : ℕ) where
  newer_each : (kept : List Kept) → Held log kept → newer number kept ≡ true
      → Each (λ place. get_or log.numbers place 0 < number) (places_of kept)
  newer_each [] held e = tt
  newer_each (one ∷ kept) held e =
      let q = both (ltb one.event.number number) (newer number kept) e in
      let same : get_or log.numbers one.place 0 ≡ one.event.number = ap (λ (r : Record). r.number) held.0 in (
        rw same (ltb-true one.event.number number q.0),
        newer_each kept held.1 q.1,
      )

  each_newer : (kept : List Kept) → Held log kept
      → Each (λ place. get_or log.numbers place 0 < number) (places_of kept) → newer number kept ≡ true
  each_newer [] held all = refl
  each_newer (one ∷ kept) held all =
      let same : get_or log.numbers one.place 0 ≡ one.event.number = ap (λ (r : Record). r.number) held.0 in
      let below : one.event.number < number = rw same at all.0 in
      rw (lt-ltb one.event.number number below, each_newer kept held.1 all.1)

-- two tests that hold together fail together
same_test : (one other : Bool) → (one ≡ true → other ≡ true) → (other ≡ true → one ≡ true) → one ≡ other
same_test true other f h = sym (f refl)
same_test false true f h = h refl
same_test false false f h = refl

-- each call
module _ (log : Log) (kept : List Kept) (good : Good log kept) where
  later_newer : (number : ℕ) → later log.numbers log.free number log_records ≡ newer number kept
  later_newer number =
      same_test (later log.numbers log.free number log_records) (newer number kept)
      (λ e.
      each_newer log number kept good.held
      (rw (← good.places)
      (each_in_order (λ place. get_or log.numbers place 0 < number) log.numbers log.free log_records
      (later_all log.numbers log.free number log_records e))))
      (λ e.
      all_later log.numbers log.free number log_records
      (in_order_each (λ place. get_or log.numbers place 0 < number) log.numbers log.free log_records
      (rw good.places (newer_each log number kept good.held e))))

  count_holds_lem : count_holds log ≡ true
  count_holds_lem = eq-eqb log.broken_count (broken_records log.broken log.free) good.count

  -- what logging does, said of what is kept
  logged_kept : (number : ℕ) (bits : List ℕ) (count broken : ℕ)
      → logged number bits count broken log
      ≡ ranged (event_fits bits count) log
      (choose (newer number kept) (
        given (takes log.numbers log.free),
        put log (takes log.numbers log.free) (event_record number bits count broken),
      )
      (refused 12 0, log))
  unfolding logged
  logged_kept number bits count broken = rw (fits_sized log good.sized, count_holds_lem, later_newer number)

  -- and what clearing does
  cleared_kept : (place : ℕ)
      → cleared place log
      ≡ ranged (ltb place log_records) log (given tt, choose (is_free log place) log (put log place free_record))
  unfolding cleared
  cleared_kept place = rw (fits_sized log good.sized, count_holds_lem)

  pub good_logs : (number : ℕ) (bits : List ℕ) (count broken : ℕ)
      → Good (after (logs number bits count broken) log) (keeps (logs number bits count broken) log kept)
  good_logs number bits count broken =
      rw (logged_kept number bits count broken, after) (go (event_fits bits count) refl (newer number kept) refl)
    where
      q : ℕ
      q = takes log.numbers log.free

      event : Record
      event = event_record number bits count broken

      answer : Bool → Bool → Answer ℕ × Log
      answer fits above =
          ranged fits log (choose above (given q, put log q event) (refused 12 0, log))

      go : (fits : Bool) → event_fits bits count ≡ fits → (above : Bool) → newer number kept ≡ above
          → Good (answer fits above).1 (choose (fits && above) (added (record { place = q; event = event }) kept) kept)
      go false e above f = good
      go true e false f = good
      go true e true f =
          let taken_here = taken log kept good in
          rw taken_here.rest
          (good_newest log kept good q taken_here.there event
          (event_whole number bits count broken
          (eqb-true (length bits) record_bytes (both (eqb (length bits) record_bytes) (leb count bits_most) e).0))
          refl
          (later_all log.numbers log.free number log_records (later_newer number ∙ f)))

  good_clears : (place : ℕ) → Good (after (clears place) log) (keeps (clears place) log kept)
  good_clears place =
      rw (cleared_kept place, after) (go (ltb place log_records) refl (is_free log place) refl)
    where
      answer : Bool → Bool → Answer (Unit {0}) × Log
      answer fits unused = ranged fits log (given tt, choose unused log (put log place free_record))

      go : (fits : Bool) → ltb place log_records ≡ fits → (unused : Bool) → is_free log place ≡ unused
          → Good (answer fits unused).1 (choose fits (without place kept) kept)
      go false e unused f = good
      go true e true f =
          rw (without_none place kept (free_apart log kept good place (ltb-true 0 (get_or log.free place 0) f))) good
      go true e false f = good_freed log kept good place (ltb-true place log_records e)

  -- what the two answer
  answer_logs : (number : ℕ) (bits : List ℕ) (count broken : ℕ)
      → (logged number bits count broken log).0
      ≡ choose (event_fits bits count)
      (choose (newer number kept) (given (takes log.numbers log.free)) (refused 12 0))
      (refused 1 0)
  answer_logs number bits count broken =
      rw (logged_kept number bits count broken) (go (event_fits bits count) (newer number kept))
    where
      q : ℕ
      q = takes log.numbers log.free

      new : Log
      new = put log q (event_record number bits count broken)

      go : (fits above : Bool)
          → (ranged fits log (choose above (given q, new) (refused 12 0, log))).0
          ≡ choose fits (choose above (given q) (refused 12 0)) (refused 1 0)
      go true true = refl
      go true false = refl
      go false above = refl

  answer_clears : (place : ℕ) → (cleared place log).0 ≡ choose (ltb place log_records) (given tt) (refused 1 0)
  answer_clears place = rw (cleared_kept place) (go (ltb place log_records))
    where
      done : Answer (Unit {0}) × Log
      done = (given tt, choose (is_free log place) log (put log place free_record))

      go : (fits : Bool) → (ranged fits log done).0 ≡ choose fits done.0 (refused 1 0)
      go true = refl
      go false = refl

-- an empty log
none_listed : (numbers free : List ℕ) (n : ℕ) → ((place : ℕ) → place < n → 0 < get_or free place 0)
    → in_order numbers free n ≡ []
unfolding in_order
none_listed numbers free zero all = refl
none_listed numbers free (suc n) all =
    in_order_free numbers free n (all n (omega arith))
    ∙ none_listed numbers free n (λ place h. all place (omega arith))

-- a part of a list of zeros
zeros_part : (a m left : ℕ) → take {A = ℕ} m (drop a (replicate (a + (m + left)) 0)) ≡ replicate m 0
zeros_part a m left =
    rw (← (replicate-append-replicate {A = ℕ} a (m + left) 0), ← (replicate-append-replicate {A = ℕ} m left 0))
    (ap (take {A = ℕ} m)
    (drop_at {A = ℕ} (replicate a 0) (replicate m 0 ++ replicate left 0) a (length-replicate {A = ℕ} a 0))
    ∙ take_at {A = ℕ} (replicate m 0) (replicate left 0) m (length-replicate {A = ℕ} m 0))

empty_bits : (place : ℕ) → place < log_records
    → take record_bytes (drop (record_bytes * place) (replicate (record_bytes * log_records) 0)) ≡ no_bits
empty_bits place h =
    let left : ℕ = record_bytes * log_records - record_bytes * place - record_bytes in
    let parts : record_bytes * log_records ≡ record_bytes * place + (record_bytes + left) = omega arith in
    ap (λ (n : ℕ). take {A = ℕ} record_bytes (drop (record_bytes * place) (replicate n 0))) parts
    ∙ zeros_part (record_bytes * place) record_bytes left

pub good_empty : Good empty_log []
good_empty = record {
  sized = record {
    numbers = length-replicate {A = ℕ} log_records 0;
    bits = length-replicate {A = ℕ} (record_bytes * log_records) 0;
    counts = length-replicate {A = ℕ} log_records 0;
    broken = length-replicate {A = ℕ} log_records 0;
    free = length-replicate {A = ℕ} log_records 1;
  };
  places = none_listed (replicate log_records 0) (replicate log_records 1) log_records
      (λ place h. omega (arith, get_or-replicate {A = ℕ} log_records place 1 0 h));
  held = tt;
  freed = λ place h unused.
      rw (
        get_or-replicate {A = ℕ} log_records place 0 0 h,
        get_or-replicate {A = ℕ} log_records place 1 0 h,
        empty_bits place h,
      );
  count = sym (among_none (replicate log_records 0) (replicate log_records 1) log_records
      (λ place h. omega (arith, get_or-replicate {A = ℕ} log_records place 1 0 h)));
}

pub good_ran : (calls : List Call) (state : State) → Good state.log state.kept
    → Good (ran calls state).log (ran calls state).kept
good_ran [] state good = good
good_ran (logs number bits count broken ∷ calls) state good =
    good_ran calls _ (good_logs state.log state.kept good number bits count broken)
good_ran (clears place ∷ calls) state good = good_ran calls _ (good_clears state.log state.kept good place)
good_ran (lists output ∷ calls) state good = good_ran calls _ good

-- what is listed, where the log is in step
held_records : (log : Log) (kept : List Kept) → Held log kept
    → map (λ one. record_at log one.place) kept ≡ map (λ one. one.event) kept
held_records log [] held = refl
held_records log (one ∷ kept) held = rw (held.0, held_records log kept held.1)

pub good_shows : (state : State) → Good state.log state.kept → Shows state
unfolding listed
good_shows state good =
    record {
      listing = λ output room.
          rw (
            eq-eqb (length state.log.numbers) log_records good.sized.numbers,
            eq-eqb (length state.log.free) log_records good.sized.free,
            good.places,
            length-map state.kept (λ one. one.place),
            le-ltb (length output) (length state.kept) room,
          );
      records = held_records state.log state.kept good.held;
      free = λ place h unused. good.freed place h (ltb-true 0 (get_or state.log.free place 0) unused);
      count = good.count;
      logging = λ number bits count broken. answer_logs state.log state.kept good number bits count broken;
      clearing = λ place. answer_clears state.log state.kept good place;
    }

pub any_sequence : AnySequence
any_sequence calls = good_shows (ran calls at_first) (good_ran calls at_first good_empty)
