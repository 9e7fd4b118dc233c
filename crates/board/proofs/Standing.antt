-- A receiver stands for a state: well formed, each can be recovered from the other, since packing and unpacking undo
-- each other.
use Prim.Native.Nat.{ℕ, ◌+◌, ◌-◌, ◌*◌, ◌/◌, ◌%◌, ◌^◌, ◌≤◌, ◌<◌}
use mathlib.Core.Path.{◌≡◌, refl, sym, ◌∙◌}
use mathlib.Core.List.{List, [], ◌∷◌, ◌++◌}
use mathlib.Core.Bool.{true, ◌&&◌}
use native.Mathlib.Omega.{arith}
use native.Mathlib.Decide.{dec_lt, ℕ_discrete}
use borrow.Author.Tests.{lt-ltb, le-leb, eq-eqb, ne_eqb, ltb-true, leb-true, eqb-true}
use lib.Dec.{leb, ltb}
use lib.ListN.{length, get_or, take, drop, set, replicate, length-take, get_or-eq_default}
use lib.Seq.{get_or-take, get_or-drop, take_at}
use Rattle.measure.specs.Ranges.{sampling, row_bits, quiet, row_settings_fit}
use Rattle.measure.proofs.Both.{both, both_3, range_ends, ends_range}
use Rattle.board.specs.declared.Mode.{Mode}
use Rattle.board.specs.declared.Mode.TheVariants.{Hunting, Ready, Counting, Waiting}
use Rattle.board.specs.declared.Receiver.{Receiver}
use Rattle.board.specs.Rows.{Settings, Run, run_of, State}
use Rattle.board.specs.Packed.{unpacked, kept, settings_of, state_of, receiver_of}
use Rattle.board.specs.WellFormed.{run_fits, run_level_fits, left_fits, found_fits, level_fits, unused_zero}
use Rattle.board.specs.WellFormed.{well_formed}
use Rattle.board.proofs.PackedBits.{Binary, Words, binary_take, unpacked_binary, length_unpacked, packed_snoc}
use Rattle.board.proofs.PackedBits.{packed_low, packed_cong, packed_unpacked, unpacked_packed}
use Rattle.board.proofs.UnusedBits.{zero_at, unused_packed}
use Rattle.board.proofs.RowRules.{Ranged, Fitting, Level, Valid}

-- the tests and what they say

pub ranged_of : (g : Settings) → row_settings_fit g.k g.n g.Q ≡ true → Ranged g
ranged_of g h =
    let each = both_3 (sampling g.k) (row_bits g.n) (quiet g.Q) h in
    let k = range_ends 1 511 g.k each.0 in
    let n = range_ends 1 1024 g.n each.1 in
    let q = range_ends 2 8191 g.Q each.2 in
    record { k_least = k.0; k_most = k.1; n_least = n.0; n_most = n.1; q_least = q.0; q_most = q.1 }

pub of_ranged : (g : Settings) → Ranged g → row_settings_fit g.k g.n g.Q ≡ true
of_ranged g r =
    simp (
      ends_range 1 511 g.k r.k_least r.k_most,
      ends_range 1 1024 g.n r.n_least r.n_most,
      ends_range 2 8191 g.Q r.q_least r.q_most,
    )

-- the four tests of the numbers, in the order of the definition
abbrev Numbered : Mode → Settings → Run → (left found level : ℕ) → Type 0
Numbered m g run left found level =
    (run_fits m run.reads g.Q ≡ true) × (left_fits m left g.k ≡ true) × (found_fits m found g.n ≡ true)
    × (level_fits m level run.level ≡ true)

-- inside a row the run has begun
begun : (run Q : ℕ) → (leb 1 run && ltb run Q) ≡ true → (1 ≤ run) × (run < Q)
begun run Q h = let b = both (leb 1 run) (ltb run Q) h in (leb-true 1 run b.0, ltb-true run Q b.1)

of_begun : (run Q : ℕ) → 1 ≤ run → run < Q → (leb 1 run && ltb run Q) ≡ true
of_begun run Q p h = rw (le-leb 1 run p, lt-ltb run Q h)

fitting_of : (m : Mode) (g : Settings) (run : Run) (left found level : ℕ) → Numbered m g run left found level
    → Fitting m g run left found level
fitting_of Hunting g run left found level h =
    (ltb-true run.reads g.Q h.0, eqb-true left 0 h.1, eqb-true found 0 h.2, eqb-true level 1 h.3)
fitting_of Ready g run left found level h = (
  eqb-true run.reads g.Q h.0,
  eqb-true left 0 h.1,
  eqb-true found 0 h.2,
  eqb-true level run.level h.3,
)
fitting_of Counting g run left found level h =
    let b = range_ends 1 g.k left h.1 in
    let r = begun run.reads g.Q h.0 in
    (r.1, b.0, b.1, ltb-true found g.n h.2, leb-true level 1 h.3, r.0)
fitting_of Waiting g run left found level h =
    let r = begun run.reads g.Q h.0 in
    (r.1, eqb-true left 0 h.1, ltb-true found g.n h.2, leb-true level 1 h.3, r.0)

of_fitting : (m : Mode) (g : Settings) (run : Run) (left found level : ℕ) → Fitting m g run left found level
    → Numbered m g run left found level
of_fitting Hunting g run left found level h =
    (lt-ltb run.reads g.Q h.0, eq-eqb left 0 h.1, eq-eqb found 0 h.2, eq-eqb level 1 h.3)
of_fitting Ready g run left found level h = (
  eq-eqb run.reads g.Q h.0,
  eq-eqb left 0 h.1,
  eq-eqb found 0 h.2,
  eq-eqb level run.level h.3,
)
of_fitting Counting g run left found level h = (
  of_begun run.reads g.Q h.5 h.0,
  ends_range 1 g.k left h.1 h.2,
  lt-ltb found g.n h.3,
  le-leb level 1 h.4,
)
of_fitting Waiting g run left found level h = (
  of_begun run.reads g.Q h.4 h.0,
  eq-eqb left 0 h.1,
  lt-ltb found g.n h.2,
  le-leb level 1 h.3,
)

-- the test of the run's level
level_of : (run : Run) → run_level_fits run.reads run.level ≡ true → Level run
level_of run h = go (ℕ_discrete run.reads 0)
  where
    go : Dec (run.reads ≡ 0) → Level run
    go (yes e) =
        let one = eqb-true run.level 1 (rw (eq-eqb run.reads 0 e) at h) in
        record { most = omega (arith, one); high = λ z. one }
    go (no n) =
        record {
          most = leb-true run.level 1 (rw (ne_eqb run.reads 0 n) at h);
          high = λ z. absurd (n z);
        }

of_level : (run : Run) → Level run → run_level_fits run.reads run.level ≡ true
of_level run l = go (ℕ_discrete run.reads 0)
  where
    go : Dec (run.reads ≡ 0) → run_level_fits run.reads run.level ≡ true
    go (yes e) = rw (eq-eqb run.reads 0 e, eq-eqb run.level 1 (l.high e))
    go (no n) = rw (ne_eqb run.reads 0 n, le-leb run.level 1 l.most)

-- fewer bits fit as well
fitting_fewer : (m : Mode) (g : Settings) (run : Run) (left found fewer level : ℕ) → fewer ≤ found
    → Fitting m g run left found level → Fitting m g run left fewer level
fitting_fewer Hunting g run left found fewer level p h = (h.0, h.1, omega arith, h.3)
fitting_fewer Ready g run left found fewer level p h = (h.0, h.1, omega arith, h.3)
fitting_fewer Counting g run left found fewer level p h = (h.0, h.1, h.2, omega arith, h.4, h.5)
fitting_fewer Waiting g run left found fewer level p h = (h.0, h.1, omega arith, h.3, h.4)

-- the bits found are fewer than a row's most
found_most : (m : Mode) (g : Settings) (run : Run) (left found level : ℕ) → Ranged g
    → Fitting m g run left found level → found < 1024
found_most Hunting g run left found level r h = omega arith
found_most Ready g run left found level r h = omega arith
found_most Counting g run left found level r h = omega (arith, r.n_most)
found_most Waiting g run left found level r h = omega (arith, r.n_most)

-- what a well formed receiver is known by
pub record Facts (x : Receiver) : Type 0 where
  pub range : Ranged (settings_of x)
  pub fitting : Fitting x.bare.numbers.mode (settings_of x) (run_of x.bare.numbers.run.0 x.bare.numbers.runlevel) x.bare.numbers.left.0 x.bare.numbers.found x.bare.numbers.level
  pub level : Level (run_of x.bare.numbers.run.0 x.bare.numbers.runlevel)
  pub unused : unused_zero x.bare.numbers.found x.bits ≡ true

pub facts : (x : Receiver) → well_formed x ≡ true → Facts x
unfolding well_formed
facts x h =
    let s = row_settings_fit x.bare.settings.k.0 x.bare.settings.n x.bare.settings.q.0 in
    let r = run_fits x.bare.numbers.mode x.bare.numbers.run.0 x.bare.settings.q.0 in
    let u = run_level_fits x.bare.numbers.run.0 x.bare.numbers.runlevel in
    let l = left_fits x.bare.numbers.mode x.bare.numbers.left.0 x.bare.settings.k.0 in
    let f = found_fits x.bare.numbers.mode x.bare.numbers.found x.bare.settings.n in
    let v = level_fits x.bare.numbers.mode x.bare.numbers.level x.bare.numbers.runlevel in
    let seven = both (s && r && u && l && f && v) (unused_zero x.bare.numbers.found x.bits) h in
    let six = both (s && r && u && l && f) v seven.0 in
    let five = both (s && r && u && l) f six.0 in
    let four = both (s && r && u) l five.0 in
    let three = both_3 s r u four.0 in
    record {
      range = ranged_of (settings_of x) three.0;
      fitting =
          fitting_of x.bare.numbers.mode (settings_of x) (run_of x.bare.numbers.run.0 x.bare.numbers.runlevel) x.bare.numbers.left.0 x.bare.numbers.found x.bare.numbers.level
          (three.1, four.1, five.1, six.1);
      level = level_of (run_of x.bare.numbers.run.0 x.bare.numbers.runlevel) three.2;
      unused = seven.1;
    }

pub found_below : (x : Receiver) → Facts x → x.bare.numbers.found < 1024
found_below x h =
    found_most x.bare.numbers.mode (settings_of x) (run_of x.bare.numbers.run.0 x.bare.numbers.runlevel) x.bare.numbers.left.0 x.bare.numbers.found x.bare.numbers.level h.range
    h.fitting

-- the state of a well formed receiver is well formed
pub valid_of : (x : Receiver) → well_formed x ≡ true → Valid (settings_of x) (state_of x)
valid_of x h =
    let f = facts x h in
    record {
      range = f.range;
      fitting =
          fitting_fewer x.bare.numbers.mode (settings_of x) (run_of x.bare.numbers.run.0 x.bare.numbers.runlevel) x.bare.numbers.left.0 x.bare.numbers.found
          (length (take x.bare.numbers.found (unpacked 8 x.bits))) x.bare.numbers.level
          (omega (arith, length-take x.bare.numbers.found (unpacked 8 x.bits))) f.fitting;
      level = f.level;
      binary = binary_take x.bare.numbers.found (unpacked 8 x.bits) (unpacked_binary 8 x.bits);
    }

-- a well formed receiver of 128 bytes is the one that keeps its state

module _ (x : Receiver) (long : length x.bits ≡ 128) (bytes : Words 8 x.bits) (h : well_formed x ≡ true) where
  pub found_is : length (take x.bare.numbers.found (unpacked 8 x.bits)) ≡ x.bare.numbers.found
  found_is =
      omega (
        arith,
        length-take x.bare.numbers.found (unpacked 8 x.bits),
        length_unpacked 8 x.bits,
        found_below x (facts x h),
      )

  unused_at : (i : ℕ) → x.bare.numbers.found ≤ i → get_or (unpacked 8 x.bits) i 0 ≡ 0
  unfolding unused_zero
  unused_at i p =
      let e : x.bare.numbers.found + (i - x.bare.numbers.found) ≡ i = omega arith in
      rw e at (sym (get_or-drop x.bare.numbers.found (unpacked 8 x.bits) (i - x.bare.numbers.found) 0)
      ∙ zero_at (drop x.bare.numbers.found (unpacked 8 x.bits)) (i - x.bare.numbers.found) (facts x h).unused)

  taken_at : (i : ℕ) → get_or (take x.bare.numbers.found (unpacked 8 x.bits)) i 0 ≡ get_or (unpacked 8 x.bits) i 0
  taken_at i = go (dec_lt i x.bare.numbers.found)
    where
      go : Dec (i < x.bare.numbers.found) → get_or (take x.bare.numbers.found (unpacked 8 x.bits)) i 0 ≡ get_or (unpacked 8 x.bits) i 0
      go (yes p) = get_or-take x.bare.numbers.found (unpacked 8 x.bits) i 0 p
      go (no p) =
          get_or-eq_default (take x.bare.numbers.found (unpacked 8 x.bits)) 0 {n = i} (omega (arith, found_is))
          ∙ sym (unused_at i (omega arith))

  pub bits_are : kept (take x.bare.numbers.found (unpacked 8 x.bits)) ≡ x.bits
  bits_are = packed_cong 8 128 (take x.bare.numbers.found (unpacked 8 x.bits)) (unpacked 8 x.bits) taken_at
      ∙ packed_unpacked 8 128 x.bits long bytes

  pub receiver_of_state : receiver_of (settings_of x) (state_of x) ≡ x
  receiver_of_state = rw (found_is, bits_are)

-- a well formed state is that of the receiver which keeps it, and that receiver is well formed

module _ (g : Settings) (s : State) (v : Valid g s) where
  bits_below : length s.bits < 1024
  bits_below = found_most s.mode g s.run s.left (length s.bits) s.level v.range v.fitting

  pub state_of_receiver : state_of (receiver_of g s) ≡ s
  state_of_receiver =
      rw (
        unpacked_packed 8 128 s.bits v.binary (omega (arith, bits_below)),
        take_at s.bits (replicate (128 * 8 - length s.bits) 0) (length s.bits) refl,
      )

  pub well_formed_of : well_formed (receiver_of g s) ≡ true
  unfolding well_formed unused_zero
  well_formed_of =
      let n = of_fitting s.mode g s.run s.left (length s.bits) s.level v.fitting in
      simp (
        of_ranged g v.range,
        of_level s.run v.level,
        n.0,
        n.1,
        n.2,
        n.3,
        unused_packed 8 128 s.bits v.binary (omega (arith, bits_below)),
      )

-- one bit more

pub one_more : (bits : List ℕ) (v : ℕ) → length bits < 1024
    → kept (bits ++ v ∷ [])
    ≡ set (kept bits) (length bits / 8) (get_or (kept bits) (length bits / 8) 0 + v * 2 ^ (length bits % 8))
one_more bits v h =
    packed_snoc 8 128 bits v (length bits / 8) (length bits % 8) (omega arith) (omega arith) (omega arith)

pub room_for_one : (bits : List ℕ) → Binary bits → length bits < 1024
    → get_or (kept bits) (length bits / 8) 0 < 2 ^ (length bits % 8)
room_for_one bits b h =
    packed_low 8 128 bits (length bits / 8) (length bits % 8) b (omega arith) (omega arith) (omega arith)
