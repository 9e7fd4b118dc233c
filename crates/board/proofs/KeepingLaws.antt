-- Numbers and bytes that make a well formed receiver: the bits that they keep, and how one bit more is kept.
use Prim.Native.Nat.{ℕ, ◌+◌, ◌*◌, ◌/◌, ◌%◌, ◌^◌, ◌≤◌, ◌<◌}
use mathlib.Core.Path.{◌≡◌, refl, sym, ◌∙◌, ap}
use mathlib.Core.List.{List, [], ◌∷◌, ◌++◌}
use native.Mathlib.Omega.{arith}
use lib.ListN.{length, get_or, take, set, length-append}
use Rattle.board.specs.declared.Mode.{Mode}
use Rattle.board.specs.declared.Mode.TheVariants.{Hunting, Ready, Counting, Waiting}
use Rattle.board.specs.declared.Receiver.{Receiver}
use Rattle.board.specs.declared.Numbers.{Numbers}
use Rattle.board.specs.Rows.{Settings, Run, run_of, State, hunting, ready, counting, waiting}
use Rattle.board.specs.Packed.{unpacked, kept, state_of, receiver_of}
use Rattle.board.specs.WellFormed.{well_formed}
use Rattle.board.specs.Listening.{keeping, Keeps}
use Rattle.board.proofs.PackedBits.{Binary, binary_snoc}
use Rattle.board.proofs.RowRules.{Fitting, Valid}
use Rattle.board.proofs.Standing.{facts, valid_of, state_of_receiver, well_formed_of, one_more, room_for_one}

-- the run that numbers keep
abbrev pub run_in : Numbers → Run
run_in now = run_of now.run.0 now.runlevel

-- the bits that numbers and bytes keep
abbrev pub bits_in : Numbers → List ℕ → List ℕ
bits_in now bytes = take now.found (unpacked 8 bytes)

-- numbers and bytes that make the receiver of a well formed state keep it
pub keeps_of : (g : Settings) (s : State) (now : Numbers) (bytes : List ℕ) → Valid g s
    → keeping g now bytes ≡ receiver_of g s → Keeps g now bytes
keeps_of g s now bytes v e =
    record {
      well = ap well_formed e ∙ well_formed_of g s v;
      whole = ap (λ (x : Receiver). receiver_of g (state_of x)) e ∙ ap (receiver_of g) (state_of_receiver g s v) ∙ sym e;
    }

pub state_kept : (g : Settings) (s : State) (now : Numbers) (bytes : List ℕ) → Valid g s
    → keeping g now bytes ≡ receiver_of g s → state_of (keeping g now bytes) ≡ s
state_kept g s now bytes v e = ap state_of e ∙ state_of_receiver g s v

module _ (g : Settings) (now : Numbers) (bytes : List ℕ) (keeps : Keeps g now bytes) where
  pub kept_valid : Valid g (state_of (keeping g now bytes))
  kept_valid = valid_of (keeping g now bytes) keeps.well

  pub kept_length : length (bits_in now bytes) ≡ now.found
  kept_length = ap (λ (x : Receiver). x.bare.numbers.found) keeps.whole

  pub kept_bytes : kept (bits_in now bytes) ≡ bytes
  kept_bytes = ap (λ (x : Receiver). x.bits) keeps.whole

  -- the state that is kept, by its mode

  fits : (m : Mode) → now.mode ≡ m → Fitting m g (run_in now) now.left.0 now.found now.level
  fits m e = rw e at (facts (keeping g now bytes) keeps.well).fitting

  kept_as : (s : State) → now.mode ≡ s.mode → now.left.0 ≡ s.left → now.level ≡ s.level → run_in now ≡ s.run
      → bits_in now bytes ≡ s.bits
      → state_of (keeping g now bytes) ≡ s
  kept_as s m f l r b = rw (m, f, l, r, b)

  -- the run's level is a level
  pub kept_level : now.runlevel ≤ 1
  kept_level = kept_valid.level.most

  pub counting_fits : now.mode ≡ Counting → Fitting Counting g (run_in now) now.left.0 now.found now.level
  counting_fits m = fits Counting m

  pub counting_kept : now.mode ≡ Counting
      → state_of (keeping g now bytes) ≡ counting now.left.0 now.level (run_in now) (bits_in now bytes)
  counting_kept m = kept_as (counting now.left.0 now.level (run_in now) (bits_in now bytes)) m refl refl refl refl

  pub waiting_fits : now.mode ≡ Waiting → Fitting Waiting g (run_in now) now.left.0 now.found now.level
  waiting_fits m = fits Waiting m

  pub waiting_kept : now.mode ≡ Waiting
      → state_of (keeping g now bytes) ≡ waiting now.level (run_in now) (bits_in now bytes)
  waiting_kept m = kept_as (waiting now.level (run_in now) (bits_in now bytes)) m (fits Waiting m).1 refl refl refl

  none_in : now.found ≡ 0 → bits_in now bytes ≡ []
  none_in e = rw e

  none_kept : now.found ≡ 0 → kept [] ≡ bytes
  none_kept e = rw (none_in e) at kept_bytes

  pub hunting_kept : now.mode ≡ Hunting
      → (state_of (keeping g now bytes) ≡ hunting (run_in now)) × (kept [] ≡ bytes) × (now.run.0 < g.Q)
  hunting_kept m =
      let f = fits Hunting m in
      (kept_as (hunting (run_in now)) m f.1 f.3 refl (none_in f.2), none_kept f.2, f.0)

  pub ready_kept : now.mode ≡ Ready
      → (state_of (keeping g now bytes) ≡ ready g.Q now.runlevel) × (kept [] ≡ bytes)
  ready_kept m =
      let f = fits Ready m in
      let run : run_in now ≡ run_of g.Q now.runlevel = rw f.0 in
      (kept_as (ready g.Q now.runlevel) m f.1 f.3 run (none_in f.2), none_kept f.2)

  -- where there is room for a bit, its place holds 0
  pub kept_room : now.found < 1024 → get_or bytes (now.found / 8) 0 < 2 ^ (now.found % 8)
  kept_room h =
      rw (kept_bytes, kept_length) at
      (room_for_one (bits_in now bytes) kept_valid.binary (omega (arith, kept_length)))

  pub kept_more : (v : ℕ) → now.found < 1024
      → kept (bits_in now bytes ++ v ∷ [])
      ≡ set bytes (now.found / 8) (get_or bytes (now.found / 8) 0 + v * 2 ^ (now.found % 8))
  kept_more v h = rw (kept_bytes, kept_length) at (one_more (bits_in now bytes) v (omega (arith, kept_length)))

  pub more_length : (v : ℕ) → length (bits_in now bytes ++ v ∷ []) ≡ now.found + 1
  more_length v = length-append (bits_in now bytes) (v ∷ []) ∙ rw kept_length

  pub more_binary : (v : ℕ) → v ≤ 1 → Binary (bits_in now bytes ++ v ∷ [])
  more_binary v h = binary_snoc (bits_in now bytes) v kept_valid.binary h
