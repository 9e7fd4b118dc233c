-- A search for a sample or a mark goes read by read: the outcome of the reads from its start is the outcome from the
-- place that it has reached, until a read ends it.
use Rattle.std.proofs.Common.{refl, ℕ, ◌≡◌, sym, ap, ◌∙◌, ◌+◌, ◌≤◌, ◌<◌, List, None, Some, Ok, Err, length, get_or, drop, arith}
use Rattle.std.proofs.Common.{Continue, Break}
use Rattle.measure.specs.declared.Refusal.TheVariants.{Entry}
use Rattle.board.specs.declared.Event.TheVariants.{Broken}
use Rattle.board.specs.declared.Numbers.{Numbers}
use Rattle.board.specs.declared.Receiver.{Receiver}
use Rattle.board.specs.Rows.{Settings, Run, run_of, State, nothing, broken, Moved, ready, next}
use Rattle.board.specs.Packed.{kept, receiver_of, settings_as}
use Rattle.board.specs.Answers.{reached}
use Rattle.board.specs.Listening.{keeping, ready_at, heard_from, moved_from, Seeks}
use Rattle.board.proofs.ListeningLaws.{heard_end, heard_bad, heard_move, grown, longer_most, longer_least}

-- what is known at each place of a search, whose state there is `here`
pub record Searched (g : Settings) (from : ℕ) (reads : List ℕ) (start : List ℕ → State) (i : ℕ) (run : Run)
    (here : List ℕ → State) : Type 0 where
  pub after : from ≤ i
  pub among : i ≤ length reads
  pub below : run.reads < g.Q
  pub same : (x : Receiver) (bits : List ℕ)
      → heard_from x g (start bits) from (drop from reads) ≡ heard_from x g (here bits) i (drop i reads)

pub search_starts : {g : Settings} {from : ℕ} {reads : List ℕ} {start : List ℕ → State} {run : Run}
    → from ≤ length reads → run.reads < g.Q → Searched g from reads start from run start
search_starts among below =
    record { after = omega arith; among = among; below = below; same = λ x bits. refl }

module _ {g : Settings} {from : ℕ} {reads : List ℕ} {start : List ℕ → State} {i : ℕ} {run : Run}
    {here : List ℕ → State} (s : Searched g from reads start i run here) where
  -- the reads end: the numbers that are then kept make the state
  pub search_ends : {found : ℕ} {done : List ℕ → Run → ℕ → Moved} (now : Numbers) → length reads ≤ i
      → ((bits : List ℕ) → length bits ≡ found → receiver_of g (here bits) ≡ keeping g now (kept bits))
      → Seeks g found from reads start done
      (Break (Ok (record { numbers = now; event = None; used = record { 0 = length reads } })))
  search_ends now end keeps =
      record {
        lands = tt;
        says = λ x bits e. s.same x bits ∙ heard_end x _ _ i reads s.among end ∙ rw (keeps bits e);
      }

  -- the read here is no level
  pub search_bad : {found : ℕ} {done : List ℕ → Run → ℕ → Moved} → i < length reads → 1 < get_or reads i 0
      → Seeks g found from reads start done (Break (Err (Entry i)))
  search_bad more bad =
      record { lands = tt; says = λ x bits e. s.same x bits ∙ heard_bad x _ _ i reads more bad }

  -- it is a level, and makes the run so long

  abbrev Moves : (List ℕ → Moved) → Type 0
  Moves move = (bits : List ℕ) → next g (here bits) (get_or reads i 0) ≡ move bits

  moved : i < length reads → get_or reads i 0 ≤ 1 → (x : Receiver) (bits : List ℕ) (m : Moved)
      → next g (here bits) (get_or reads i 0) ≡ m
      → heard_from x g (start bits) from (drop from reads) ≡ moved_from x g m (i + 1) (drop (i + 1) reads)
  moved more level x bits m move = s.same x bits ∙ heard_move x _ _ m i reads more level move

  module _ (more : i < length reads) (level : get_or reads i 0 ≤ 1) {then : ℕ}
      (grows : grown run (get_or reads i 0) ≡ then) where
    pub search_quiet : {found : ℕ} {done : List ℕ → Run → ℕ → Moved} → then ≡ g.Q
        → (run.reads < g.Q → grown run (get_or reads i 0) ≡ g.Q
        → Moves (λ bits. record { state = ready g.Q (get_or reads i 0); event = broken (length bits) }))
        → Seeks g found from reads start done
        (Break
        (Ok
        (record {
          numbers = ready_at (settings_as g).q (get_or reads i 0);
          event = Some (Broken found);
          used = record { 0 = i + 1 };
        })))
    search_quiet full moves =
        record {
          lands = tt;
          says = λ x bits e. moved more level x bits _ (moves s.below (grows ∙ full) bits)
              ∙ ap (λ (f : ℕ). (reached g (ready g.Q (get_or reads i 0)) (broken f), i + 1)) e;
        }

    short_of : (then ≡ g.Q → ⊥) → grown run (get_or reads i 0) ≡ g.Q → ⊥
    short_of short e = short (sym grows ∙ e)

    pub search_finds : {found : ℕ} {done : List ℕ → Run → ℕ → Moved} → (then ≡ g.Q → ⊥)
        → (run.reads < g.Q → (grown run (get_or reads i 0) ≡ g.Q → ⊥)
        → Moves (λ bits. done bits (run_of (grown run (get_or reads i 0)) (get_or reads i 0)) (get_or reads i 0)))
        → Seeks g found from reads start done
        (Continue (record { used = i + 1; run = record { 0 = then }; level = get_or reads i 0 }))
    search_finds short moves =
        rw (← grows)
        record {
          lands = (
            omega (arith, s.after),
            omega (arith, more),
            longer_least g.Q run (get_or reads i 0) s.below,
            omega (arith, longer_most g.Q run (get_or reads i 0) s.below, short_of short),
            level,
          );
          says = λ x bits e. moved more level x bits _ (moves s.below (short_of short) bits);
        }

    pub search_goes_on : (there : Run → List ℕ → State) → (then ≡ g.Q → ⊥)
        → (run.reads < g.Q → (grown run (get_or reads i 0) ≡ g.Q → ⊥)
        → Moves (λ bits. record {
          state = there (run_of (grown run (get_or reads i 0)) (get_or reads i 0)) bits;
          event = nothing;
        }))
        → Searched g from reads start (i + 1) (run_of then (get_or reads i 0)) (there (run_of then (get_or reads i 0)))
    search_goes_on there short moves =
        rw (← grows)
        record {
          after = omega (arith, s.after);
          among = omega (arith, more);
          below = omega (arith, longer_most g.Q run (get_or reads i 0) s.below, short_of short);
          same = λ x bits. moved more level x bits _ (moves s.below (short_of short) bits);
        }
