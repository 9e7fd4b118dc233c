-- Every operation hands back a well formed receiver where it was given one: each read takes a well formed state to a
-- well formed one, and the receiver that keeps such a state is well formed.
use Prim.Native.Nat.{ℕ, suc, ◌≤◌}
use mathlib.Core.Path.{◌≡◌}
use mathlib.Core.List.{List, [], ◌∷◌}
use mathlib.Core.Bool.{Bool, true, false}
use native.Mathlib.Omega.{arith}
use native.Mathlib.Decide.{dec_le}
use borrow.Author.Tests.{le-leb, lt-leb}
use lib.Dec.{ltb}
use lib.ListN.{length, get_or}
use Rattle.measure.specs.Choose.{choose}
use Rattle.measure.specs.Ranges.{entries_most, row_settings_fit}
use Rattle.board.specs.declared.Receiver.{Receiver}
use Rattle.board.specs.Rows.{Settings, State, Event, nothing, row, broken, fresh, next}
use Rattle.board.specs.Feeding.{after}
use Rattle.board.specs.Packed.{settings_of, state_of, receiver_of}
use Rattle.board.specs.WellFormed.{well_formed}
use Rattle.board.specs.EveryStep.{EveryStep}
use Rattle.board.specs.Answers.{begun, stepped, listened, refusing}
use Rattle.board.specs.Listening.{heard_from, event_or_rest}
use Rattle.board.proofs.FeedingLaws.{after_keeps}
use Rattle.board.proofs.RowRules.{Valid, valid_fresh, valid_next}
use Rattle.board.proofs.Standing.{ranged_of, valid_of, well_formed_of}
use Rattle.board.proofs.ListenedLaws.{listened_is}

-- the definitions

pub fresh_well_formed : (g : Settings) → row_settings_fit g.k g.n g.Q ≡ true
    → well_formed (receiver_of g fresh) ≡ true
fresh_well_formed g h = well_formed_of g fresh (valid_fresh g (ranged_of g h))

pub next_well_formed : (x : Receiver) (read : ℕ) → well_formed x ≡ true → read ≤ 1
    → well_formed (receiver_of (settings_of x) (next (settings_of x) (state_of x) read).state) ≡ true
next_well_formed x read h p =
    well_formed_of (settings_of x) (next (settings_of x) (state_of x) read).state
    (valid_next (settings_of x) (state_of x) read (valid_of x h) p)

pub after_well_formed : (x : Receiver) (reads : List ℕ) → well_formed x ≡ true → ((i : ℕ) → get_or reads i 0 ≤ 1)
    → well_formed (receiver_of (settings_of x) (after (settings_of x) (state_of x) reads)) ≡ true
after_well_formed x reads h levels =
    let g = settings_of x in
    well_formed_of g (after g (state_of x) reads)
    (after_keeps (next g) (Valid g) (λ s read v p. valid_next g s read v p) (state_of x) reads (valid_of x h) levels)

-- the operations

pub begun_well_formed : (k n Q : ℕ) → row_settings_fit k n Q ≡ true → well_formed (begun k n Q).1 ≡ true
unfolding begun
begun_well_formed k n Q h = rw h (fresh_well_formed (record { k = k; n = n; Q = Q }) h)

pub stepped_well_formed : (x : Receiver) (read : ℕ) → well_formed x ≡ true → well_formed (stepped x read).receiver ≡ true
unfolding stepped
stepped_well_formed x read h = go (dec_le read 1)
  where
    go : Dec (read ≤ 1) → well_formed (stepped x read).receiver ≡ true
    go (yes p) = simp (h, le-leb read 1 p) (next_well_formed x read h p)
    go (no p) = simp (h, lt-leb read 1 (omega arith))

heard_well_formed : (x : Receiver) (g : Settings) (s : State) (place : ℕ) (reads : List ℕ) → well_formed x ≡ true
    → Valid g s
    → well_formed (heard_from x g s place reads).0.receiver ≡ true
unfolding heard_from
heard_well_formed x g s place [] h v = well_formed_of g s v
heard_well_formed x g s place (read ∷ reads) h v =
    go (dec_le read 1) (heard_well_formed x g (next g s read).state (suc place) reads h)
  where
    came : (event : Event) → Valid g (next g s read).state
        → (Valid g (next g s read).state
        → well_formed (heard_from x g (next g s read).state (suc place) reads).0.receiver ≡ true)
        → well_formed
        (event_or_rest g (next g s read).state event (suc place)
        (heard_from x g (next g s read).state (suc place) reads)).0.receiver ≡ true
    came nothing v rest = rest v
    came (row bits) v rest = well_formed_of g (next g s read).state v
    came (broken found) v rest = well_formed_of g (next g s read).state v

    go : Dec (read ≤ 1)
        → (Valid g (next g s read).state
        → well_formed (heard_from x g (next g s read).state (suc place) reads).0.receiver ≡ true)
        → well_formed (heard_from x g s place (read ∷ reads)).0.receiver ≡ true
    go (yes p) rest = rw (le-leb read 1 p) (came (next g s read).event (valid_next g s read v p) rest)
    go (no p) rest = rw (lt-leb read 1 (omega arith)) h

pub listened_well_formed : (x : Receiver) (reads : List ℕ) → well_formed x ≡ true
    → well_formed (listened x reads).0.receiver ≡ true
listened_well_formed x reads h = rw (listened_is x reads, h) (go (ltb entries_most (length reads)))
  where
    go : (long : Bool)
        → well_formed (choose long (refusing x 3 0, 0) (heard_from x (settings_of x) (state_of x) 0 reads)).0.receiver
        ≡ true
    go true = h
    go false = heard_well_formed x (settings_of x) (state_of x) 0 reads h (valid_of x h)

pub every_step : EveryStep
every_step = record { fresh = begun_well_formed; step = stepped_well_formed; listen = listened_well_formed }
