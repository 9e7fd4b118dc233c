-- The first report parts the reads: those up to and with its read bring it alone, and the others are fed from the state
-- and the place after them. So listening takes no more reads than there are, and an event at least the read that brings
-- it.
use Prim.Native.Nat.{ℕ, suc, ◌+◌, ◌≤◌}
use mathlib.Core.Path.{◌≡◌, refl, sym, ◌∙◌, ap, subst}
use mathlib.Core.Bool.{Bool, true, false, ◌&&◌}
use mathlib.Core.List.{List, [], ◌∷◌}
use native.Mathlib.Omega.{arith}
use borrow.Author.Tests.{le-ltb, le-leb}
use lib.Dec.{ltb}
use lib.ListN.{length, take, drop, length-take}
use lib.Seq.{take-length}
use Rattle.measure.specs.Choose.{choose}
use Rattle.measure.specs.Ranges.{entries_most, row_settings_fit}
use Rattle.measure.specs.Lists.{first_above, some_above}
use Rattle.measure.specs.Refusals.{Answer, given, refused, refused_after}
use Rattle.board.specs.declared.Receiver.{Receiver}
use Rattle.board.specs.Rows.{Settings, State, Event, nothing, row, broken, next, fresh}
use Rattle.board.specs.Feeding.{Report, noted, Step, after_by, reports_by, after, reports}
use Rattle.board.specs.Packed.{kept, settings_of, state_of, receiver_of}
use Rattle.board.specs.WellFormed.{well_formed}
use Rattle.board.specs.Answers.{Outcome, row_of, reached, refusing, begun, levels_of, silent, to_event, listened}
use Rattle.board.specs.Answers.{in_lent}
use Rattle.board.specs.Feeding.{first_event, used_of}
use Rattle.board.proofs.FeedingLaws.{after_keeps}
use Rattle.board.proofs.PackedBits.{Binary, length_packed}
use Rattle.board.proofs.RowRules.{Valid, valid_next}
use Rattle.board.proofs.Standing.{state_of_receiver, well_formed_of}

-- a report is of something
abbrev pub Some : Event → Type 0
Some nothing = ⊥
Some (row bits) = Unit {0}
Some (broken found) = Unit {0}

pub record First (step : Step) (s : State) (place : ℕ) (reads : List ℕ) (report : Report)
    (more : List Report) : Type 0 where
  pub used : ℕ
  pub least : 1 ≤ used
  pub most : used ≤ length reads
  pub at : report.place + 1 ≡ place + used
  pub some : Some report.event
  pub others : more ≡ reports_by step (after_by step s (take used reads)) (place + used) (drop used reads)

pub first_report : (step : Step) (s : State) (place : ℕ) (reads : List ℕ) (report : Report) (more : List Report)
    → reports_by step s place reads ≡ report ∷ more → First step s place reads report more
unfolding after_by reports_by
first_report step s place [] report more e = let z : ◌≡◌ {A = ℕ} 0 1 = cc in absurd (omega arith)
first_report step s place (read ∷ reads) report more e =
    go (step s read).event e (first_report step (step s read).state (suc place) reads report more)
  where
    later : First step (step s read).state (suc place) reads report more
        → First step s place (read ∷ reads) report more
    later f =
        let p : suc place + f.used ≡ place + suc f.used = omega arith in
        record {
          used = suc f.used;
          least = omega arith;
          most = omega (arith, f.most);
          at = f.at ∙ p;
          some = f.some;
          others = rw p at f.others;
        }

    here : (event : Event) → Some event
        → ◌≡◌ {A = List Report}
        (record { place = place; event = event } ∷ reports_by step (step s read).state (suc place) reads)
        (report ∷ more)
        → First step s place (read ∷ reads) report more
    here event some e =
        let r : record { place = place; event = event } ≡ report = cc in
        let m : reports_by step (step s read).state (suc place) reads ≡ more = cc in
        let p : suc place ≡ place + 1 = omega arith in
        record {
          used = 1;
          least = omega arith;
          most = omega arith;
          at = ap (λ (x : Report). x.place + 1) (sym r);
          some = subst (λ (x : Report). Some x.event) r some;
          others = sym (rw p at m);
        }

    go : (event : Event) → noted place event (reports_by step (step s read).state (suc place) reads) ≡ report ∷ more
        → (reports_by step (step s read).state (suc place) reads ≡ report ∷ more
        → First step (step s read).state (suc place) reads report more)
        → First step s place (read ∷ reads) report more
    go nothing e rest = later (rest e)
    go (row bits) e rest = here (row bits) tt e
    go (broken found) e rest = here (broken found) tt e

-- reads that are levels keep a state valid
pub valid_after : (g : Settings) (s : State) (reads : List ℕ) → Valid g s → Binary reads → Valid g (after g s reads)
valid_after g s reads v b = after_keeps (next g) (Valid g) (valid_next g) s reads v b

-- where every read is a level, none is above 1
levels_all : (reads : List ℕ) → Binary reads → first_above 1 reads ≡ length reads
unfolding first_above
levels_all [] b = refl
levels_all (read ∷ reads) b = rw (le-leb read 1 (b 0)) (ap suc (levels_all reads (λ i. b (suc i))))

-- listening to levels, from a well formed state and within the limit, is not refused
pub listened_levels : (g : Settings) (s : State) (reads : List ℕ) → Valid g s → Binary reads
    → length reads ≤ entries_most
    → listened (receiver_of g s) reads ≡ to_event g s reads (reports g s 0 reads)
unfolding listened
listened_levels g s reads v b h =
    rw (
      well_formed_of g s v,
      le-ltb entries_most (length reads) h,
      levels_all reads b,
      le-ltb (length reads) (length reads) (omega arith),
      take-length reads,
      state_of_receiver g s v,
    )

-- an answer that is an event
abbrev pub Brings : Answer Event → Type 0
Brings (given event) = Some event
Brings (refused number place) = ⊥
Brings (refused_after number place count) = ⊥

-- of an outcome, with the reads that it took, out of so many: an event takes a read at least, and a row comes in 128
-- bytes
pub record Heard (all : ℕ) (heard : Outcome × ℕ) : Type 0 where
  pub most : heard.1 ≤ all
  pub least : Brings heard.0.answer → 1 ≤ heard.1
  pub size : length heard.0.row ≡ 128

heard_refused : (all : ℕ) (x : Receiver) (number place : ℕ) → Heard all (refusing x number place, 0)
heard_refused all x number place =
    record { most = omega arith; least = λ brings. absurd brings; size = length_packed 8 128 [] }

heard_event : (all : ℕ) (g : Settings) (s : State) (levels : List ℕ) (told : List Report) → length levels ≤ all
    → reports g s 0 levels ≡ told
    → Heard all (to_event g s levels told)
heard_event all g s levels [] h e =
    record { most = h; least = λ brings. absurd brings; size = length_packed 8 128 [] }
heard_event all g s levels (report ∷ more) h e =
    let f : First (next g) s 0 levels report more = first_report (next g) s 0 levels report more e in
    record {
      most = omega (arith, f.at, f.most);
      least = λ brings. omega arith;
      size = length_packed 8 128 (row_of report.event);
    }

-- what holds of both of a choice holds of the choice
chosen : {A : Type 0} (P : A → Type 0) (test : Bool) {one other : A} → P one → P other → P (choose test one other)
chosen P true this that = this
chosen P false this that = that

pub heard_all : (x : Receiver) (reads : List ℕ) → Heard (length reads) (listened x reads)
unfolding listened
heard_all x reads =
    let P : Outcome × ℕ → Type 0 = Heard (length reads) in
    chosen P (well_formed x)
    (chosen P (ltb entries_most (length reads)) (heard_refused (length reads) x 3 0)
    (chosen P (some_above 1 reads && silent (reports (settings_of x) (state_of x) 0 (levels_of reads)))
    (heard_refused (length reads) x 2 (first_above 1 reads))
    (heard_event (length reads) (settings_of x) (state_of x) (levels_of reads)
    (reports (settings_of x) (state_of x) 0 (levels_of reads))
    (omega (arith, length-take (first_above 1 reads) reads)) refl)))
    (heard_refused (length reads) x 1 0)

-- where the bytes that are lent for a row hold 0, an outcome stands in them as it is
pub row_lent : (x : Receiver) (reads : List ℕ) → in_lent (kept []) (listened x reads) ≡ listened x reads
unfolding listened
row_lent x reads =
    let P : Outcome × ℕ → Type 0 = λ heard. in_lent (kept []) heard ≡ heard in
    let g = settings_of x in
    let told = reports g (state_of x) 0 (levels_of reads) in
    chosen P (well_formed x)
    (chosen P (ltb entries_most (length reads)) refl
    (chosen P (some_above 1 reads && silent told) refl
    (event_lent g (after g (state_of x) (take (used_of told (length (levels_of reads))) (levels_of reads)))
    (first_event told) (used_of told (length (levels_of reads))))))
    refl
  where
    event_lent : (g : Settings) (s : State) (event : Event) (used : ℕ)
        → in_lent (kept []) (reached g s event, used) ≡ (reached g s event, used)
    event_lent g s nothing used = refl
    event_lent g s (row bits) used = refl
    event_lent g s (broken found) used = refl

-- a refusal leaves the receiver as it came
abbrev pub Refuses : Answer Event → Type 0
Refuses (given event) = ⊥
Refuses (refused number place) = Unit {0}
Refuses (refused_after number place count) = Unit {0}

pub refused_same : (x : Receiver) (reads : List ℕ) → Refuses (listened x reads).0.answer
    → (listened x reads).0.receiver ≡ x
unfolding listened
refused_same x reads =
    let P : Outcome × ℕ → Type 0 = λ heard. Refuses heard.0.answer → heard.0.receiver ≡ x in
    let told = reports (settings_of x) (state_of x) 0 (levels_of reads) in
    chosen P (well_formed x)
    (chosen P (ltb entries_most (length reads)) (λ r. refl)
    (chosen P (some_above 1 reads && silent told) (λ r. refl) (λ r. absurd r)))
    (λ r. refl)

-- settings that fit start a fresh receiver
pub begun_fresh : (k n Q : ℕ) → row_settings_fit k n Q ≡ true
    → begun k n Q ≡ (given nothing, receiver_of (record { k = k; n = n; Q = Q }) fresh)
unfolding begun
begun_fresh k n Q e = rw e
