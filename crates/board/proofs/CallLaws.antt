-- One call after another: a call ends with its reads, stops at one that is no level, or brings an event; each way its
-- reads are those that the rules were fed.
use Prim.Native.Nat.{ℕ, zero, suc, ◌+◌, ◌-◌, ◌≤◌, ◌<◌}
use mathlib.Core.Path.{◌≡◌, refl, ap, ◌∙◌}
use mathlib.Core.Logic.{◌⊎◌, inl, inr}
use mathlib.Core.Bool.{Bool, true, false, false≢true}
use mathlib.Core.List.{List, [], ◌∷◌, ◌++◌}
use native.Mathlib.Omega.{arith}
use native.Mathlib.Decide.{dec_le}
use borrow.Author.Tests.{le-leb, lt-leb, le-ltb, eqb-true}
use lib.Dec.{eqb}
use lib.ListN.{length, get_or, take}
use Rattle.measure.specs.Choose.{choose}
use Rattle.measure.specs.Ranges.{entries_most}
use Rattle.measure.specs.Cells.{bit_of}
use Rattle.board.specs.declared.Mode.{Mode}
use Rattle.board.specs.declared.Mode.TheVariants.{Hunting, Ready, Counting, Waiting}
use Rattle.board.specs.declared.Receiver.{Receiver}
use Rattle.board.specs.Rows.{Settings, Run, State, Event, nothing, row, broken, Moved, run_after, next}
use Rattle.board.specs.Rows.{collected, listening, in_progress}
use Rattle.board.specs.Feeding.{Report, noted, after_by, reports_by, after, reports}
use Rattle.board.specs.Packed.{receiver_of}
use Rattle.board.specs.Answers.{Outcome, reached, refusing, stepped, listened}
use Rattle.board.specs.Listening.{event_or_rest, heard_from}
use Rattle.board.proofs.PackedBits.{Binary, binary_snoc}
use Rattle.board.proofs.RowRules.{Fitting, Valid, bit_most, valid_next}
use Rattle.board.proofs.Standing.{state_of_receiver, well_formed_of}
use Rattle.board.proofs.ListenedLaws.{listened_is}
use Rattle.board.proofs.HeardLaws.{Some}

-- a row that is delivered has n bits, each 0 or 1, and one that is broken had fewer
abbrev pub Whole : Settings → Event → Type 0
Whole g nothing = Unit {0}
Whole g (row bits) = (length bits ≡ g.n) × Binary bits
Whole g (broken found) = found < g.n

module _ (g : Settings) where
  whole_either : (test : Bool) (m d : Moved) → (test ≡ true → Whole g m.event) → (test ≡ false → Whole g d.event)
      → Whole g (choose test m d).event
  whole_either true m d f h = f refl
  whole_either false m d f h = h refl

  whole_quiet : (test : Bool) (found : ℕ) → (test ≡ true → found < g.n) → Whole g (choose test (broken found) nothing)
  whole_quiet true found fewer = fewer refl
  whole_quiet false found fewer = tt

  -- a row in progress has fewer than n bits
  in_row : (m : Mode) (run : Run) (left found level : ℕ) → Fitting m g run left found level → in_progress m ≡ true
      → found < g.n
  in_row Hunting run left found level fits e = absurd (false≢true e)
  in_row Ready run left found level fits e = absurd (false≢true e)
  in_row Counting run left found level fits e = fits.3
  in_row Waiting run left found level fits e = fits.2

  whole_collected : (run : Run) (read : ℕ) (bits : List ℕ) → Binary bits → Whole g (collected g run read bits).event
  whole_collected run read bits b =
      whole_either (eqb (length bits) g.n) _ _ (λ e. (eqb-true (length bits) g.n e, b)) (λ e. tt)

  whole_listening : (m : Mode) (s : State) (run : Run) (read : ℕ) → Binary s.bits
      → Whole g (listening m g s run read).event
  whole_listening Hunting s run read b = tt
  whole_listening Ready s run read b = whole_either (eqb read s.level) _ _ (λ e. tt) (λ e. tt)
  whole_listening Counting s run read b =
      whole_either (eqb (s.left - 1) 0) _ _
      (λ e. whole_collected run read (s.bits ++ bit_of s.level read ∷ [])
      (binary_snoc s.bits (bit_of s.level read) b (bit_most s.level read))) (λ e. tt)
  whole_listening Waiting s run read b = whole_either (eqb read s.level) _ _ (λ e. tt) (λ e. tt)

  pub whole_next : (s : State) (read : ℕ) → Valid g s → Whole g (next g s read).event
  unfolding next
  whole_next s read v =
      whole_either (eqb (run_after g.Q s.run read).reads g.Q) _ _
      (λ e. whole_quiet (in_progress s.mode) (length s.bits)
      (in_row s.mode s.run s.left (length s.bits) s.level v.fitting))
      (λ e. whole_listening s.mode s (run_after g.Q s.run read) read v.binary)

pub noted_some : (place : ℕ) (event : Event) → Some event → (more : List Report)
    → noted place event more ≡ record { place = place; event = event } ∷ more
noted_some place nothing some more = absurd some
noted_some place (row bits) some more = refl
noted_some place (broken found) some more = refl

event_some : (g : Settings) (s : State) (event : Event) → Some event → (used : ℕ) (rest : Outcome × ℕ)
    → event_or_rest g s event used rest ≡ (reached g s event, used)
event_some g s nothing some used rest = absurd some
event_some g s (row bits) some used rest = refl
event_some g s (broken found) some used rest = refl

-- The three ways in which reads from a state on come to an end, the first of them at this place.
module _ (x : Receiver) (g : Settings) (s : State) (place : ℕ) (reads : List ℕ) where
  -- all are levels, and nothing is reported
  pub record Ends : Type 0 where
    pub levels : Binary reads
    pub valid : Valid g (after g s reads)
    pub silent : reports g s place reads ≡ []
    pub is : heard_from x g s place reads ≡ (reached g (after g s reads) nothing, place + length reads)

  -- one is no level, and nothing is reported before it
  pub record Stops : Type 0 where
    pub at : ℕ
    pub there : at < length reads
    pub bad : 1 < get_or reads at 0
    pub levels : Binary (take at reads)
    pub valid : Valid g (after g s (take at reads))
    pub silent : reports g s place (take at reads) ≡ []
    pub is : heard_from x g s place reads ≡ (refusing x 2 (place + at), 0)

  -- one brings an event, the first
  pub record Brings : Type 0 where
    pub used : ℕ
    pub least : 1 ≤ used
    pub most : used ≤ length reads
    pub event : Event
    pub some : Some event
    pub whole : Whole g event
    pub levels : Binary (take used reads)
    pub valid : Valid g (after g s (take used reads))
    pub told : reports g s place (take used reads) ≡ record { place = place + used - 1; event = event } ∷ []
    pub is : heard_from x g s place reads ≡ (reached g (after g s (take used reads)) event, place + used)

  abbrev pub Heard : Type 0
  Heard = Ends ⊎ (Stops ⊎ Brings)

module _ (x : Receiver) (g : Settings) where
  binary_more : (read : ℕ) (reads : List ℕ) → read ≤ 1 → Binary reads → Binary (read ∷ reads)
  binary_more read reads h b zero = h
  binary_more read reads h b (suc i) = b i

  pub hears : (s : State) (place : ℕ) (reads : List ℕ) → Valid g s → Heard x g s place reads
  unfolding heard_from after_by reports_by
  hears s place [] v =
      let e : place + 0 ≡ place = omega arith in
      inl (record { levels = λ i. omega arith; valid = v; silent = refl; is = rw e })
  hears s place (read ∷ reads) v = go (dec_le read 1) (λ t p w. hears t p reads w)
    where
      bad : (read ≤ 1 → ⊥) → Stops x g s place (read ∷ reads)
      bad n =
          let e : place + 0 ≡ place = omega arith in
          record {
            at = 0;
            there = omega arith;
            bad = omega arith;
            levels = λ i. omega arith;
            valid = v;
            silent = refl;
            is = rw (lt-leb read 1 (omega arith), e);
          }

      brings : read ≤ 1 → (event : Event) → (next g s read).event ≡ event → Some event
          → Brings x g s place (read ∷ reads)
      brings h event e some =
          let one : place + 1 ≡ suc place = omega arith in
          let here : place + 1 - 1 ≡ place = omega arith in
          record {
            used = 1;
            least = omega arith;
            most = omega arith;
            event = event;
            some = some;
            whole = rw e at (whole_next g s read v);
            levels = binary_more read [] h (λ i. omega arith);
            valid = valid_next g s read v h;
            told = rw (e, here) (noted_some place event some []);
            is = rw (le-leb read 1 h, e, one) (event_some g (next g s read).state event some (suc place) _);
          }

      t : State
      t = (next g s read).state

      on : read ≤ 1 → (next g s read).event ≡ nothing → Heard x g t (suc place) reads → Heard x g s place (read ∷ reads)
      on h e (inl ends) =
          let along : place + suc (length reads) ≡ suc place + length reads = omega arith in
          inl (record {
            levels = binary_more read reads h ends.levels;
            valid = ends.valid;
            silent = rw e ends.silent;
            is = rw (le-leb read 1 h, e, along) ends.is;
          })
      on h e (inr (inl stops)) =
          let along : place + suc stops.at ≡ suc place + stops.at = omega arith in
          inr (inl (record {
            at = suc stops.at;
            there = omega (arith, stops.there);
            bad = stops.bad;
            levels = binary_more read (take stops.at reads) h stops.levels;
            valid = stops.valid;
            silent = rw e stops.silent;
            is = rw (le-leb read 1 h, e, along) stops.is;
          }))
      on h e (inr (inr brings)) =
          let along : place + suc brings.used ≡ suc place + brings.used = omega arith in
          inr (inr (record {
            used = suc brings.used;
            least = omega arith;
            most = omega (arith, brings.most);
            event = brings.event;
            some = brings.some;
            whole = brings.whole;
            levels = binary_more read (take brings.used reads) h brings.levels;
            valid = brings.valid;
            told = rw (e, along) brings.told;
            is = rw (le-leb read 1 h, e, along) brings.is;
          }))

      by : read ≤ 1 → (event : Event) → (next g s read).event ≡ event
          → ((t : State) (p : ℕ) → Valid g t → Heard x g t p reads) → Heard x g s place (read ∷ reads)
      by h nothing e more = on h e (more t (suc place) (valid_next g s read v h))
      by h (row bits) e more = inr (inr (brings h (row bits) e tt))
      by h (broken found) e more = inr (inr (brings h (broken found) e tt))

      go : Dec (read ≤ 1) → ((t : State) (p : ℕ) → Valid g t → Heard x g t p reads) → Heard x g s place (read ∷ reads)
      go (yes h) more = by h (next g s read).event refl more
      go (no n) more = inr (inl (bad n))

-- the operations on a receiver that keeps a well formed state
module _ (g : Settings) (s : State) (v : Valid g s) where
  pub stepped_level : (read : ℕ) → read ≤ 1
      → stepped (receiver_of g s) read ≡ reached g (next g s read).state (next g s read).event
  unfolding stepped
  stepped_level read level =
      rw (well_formed_of g s v, le-leb read 1 level)
      (ap (λ (t : State). reached g (next g t read).state (next g t read).event) (state_of_receiver g s v))

  pub stepped_other : (read : ℕ) → 1 < read → stepped (receiver_of g s) read ≡ refusing (receiver_of g s) 2 0
  unfolding stepped
  stepped_other read other = rw (well_formed_of g s v, lt-leb read 1 other)

  pub listened_valid : (reads : List ℕ) → length reads ≤ entries_most
      → listened (receiver_of g s) reads ≡ heard_from (receiver_of g s) g s 0 reads
  listened_valid reads few =
      listened_is (receiver_of g s) reads
      ∙ rw (well_formed_of g s v, le-ltb entries_most (length reads) few)
      (ap (λ (t : State). heard_from (receiver_of g s) g t 0 reads) (state_of_receiver g s v))
