-- Reading a word as a whole: what its half cells against those before them say of its cells. A word is two bytes, the
-- second entered at the level on which the first ends, and what holds of a byte is computed, over the 256 bytes and
-- both levels.
use mathlib.Core.Path.{◌≡◌, sym, ap, ap₂, ◌∙◌}
use mathlib.Core.Bool.{Bool, true}
use mathlib.Core.List.{List, ◌++◌}
use Prim.Native.Nat.{ℕ, ◌+◌, ◌*◌, ◌/◌, ◌%◌, ◌^◌, ◌≤◌, ◌<◌}
use native.Mathlib.Omega.{arith}
use borrow.Author.Tests.{eq-eqb}
use lib.Arith.{digits_mod}
use lib.Bits.{bit_and, bit_xor, and_block, xor_block, and_le_r, and_zero_r, xor_lt}
use lib.Dec.{T, eqb, eqb→eq}
use Rattle.measure.specs.Choose.{choose}
use Rattle.halfcells.specs.HalfCells.{bits_of, from_bits, no_edge_from, cell_bits, byte_of}
use Rattle.halfcells.specs.Turns.{turns_of}
use Rattle.halfcells.proofs.Bits.{length_bits, bits_low, bits_parted, from_append}
use Rattle.halfcells.proofs.Computed.{all_below, each_below}
use Rattle.halfcells.proofs.Halves.{last, last_append}
use Rattle.halfcells.proofs.Edges.{edges_past, length_cell_bits, cell_bits_append}

-- a word's half cells are those of its two bytes
word_parted : (word : ℕ) → bits_of 16 word ≡ bits_of 8 (word / 256) ++ bits_of 8 (word % 256)
word_parted word = bits_parted 8 8 word ∙ ap (λ (l : List ℕ). bits_of 8 (word / 256) ++ l) (bits_low 8 word)

-- the last half cell of a byte, and of a word
pub last_bit : (n before x : ℕ) → last before (bits_of (n + 1) x) ≡ x % 2
unfolding bits_of
last_bit n before x =
    let e : x / 1 % 2 ≡ x % 2 = omega arith in
    ap (last before) (bits_parted n 1 x) ∙ last_append before (x / 1 % 2) (bits_of n (x / 2)) ∙ e

-- the turns of a byte
abbrev byte_turns : (before byte : ℕ) → ℕ
byte_turns before byte = bit_xor byte (byte / 2 + before * 128)

turns_below : (before byte : ℕ) → before ≤ 1 → byte < 256 → byte_turns before byte < 256
turns_below before byte h b = xor_lt 8 byte (byte / 2 + before * 128) b (omega arith)

module _ (before word : ℕ) (h : before ≤ 1) (w : word < 65536) where
  abbrev high : ℕ
  high = byte_turns before (word / 256)

  abbrev low : ℕ
  low = byte_turns (word / 256 % 2) (word % 256)

  -- a word's turns, byte by byte
  turns_parted : turns_of before word ≡ high * 256 + low
  unfolding turns_of
  turns_parted =
      let e : word ≡ word / 256 * 256 + word % 256 = omega arith in
      let f : word / 2 + before * 32768
      ≡ (word / 256 / 2 + before * 128) * 256 + (word % 256 / 2 + word / 256 % 2 * 128) = omega arith in
      ap₂ bit_xor e f
      ∙ xor_block 8 (word / 256) (word / 256 / 2 + before * 128) (word % 256) (word % 256 / 2 + word / 256 % 2 * 128)
      (omega arith) (omega arith)

  -- and what a mask of two equal bytes leaves of them
  masked : (m : ℕ) → m < 256 → bit_and (turns_of before word) (m * 256 + m) ≡ bit_and high m * 256 + bit_and low m
  masked m b =
      ap (λ (x : ℕ). bit_and x (m * 256 + m)) turns_parted
      ∙ and_block 8 high m low m (turns_below (word / 256 % 2) (word % 256) (omega arith) (omega arith)) b

-- a test of each byte at each of the two levels before it, computed
abbrev all_bytes : (test : (before byte : ℕ) → Bool) → Bool
all_bytes test = all_below (λ before. all_below (test before) 256) 2

each_byte : (test : (before byte : ℕ) → Bool) → T (all_bytes test) → (before byte : ℕ) → before ≤ 1 → byte < 256
    → T (test before byte)
each_byte test all before byte h b =
    each_below (test before) 256 (each_below (λ before. all_below (test before) 256) 2 all before (omega arith)) byte b

-- of a byte: where every mark turns, each of the four cells has an edge
abbrev edged_test : (before byte : ℕ) → Bool
edged_test before byte =
    choose (eqb (bit_and (byte_turns before byte) 0xaa) 0xaa) (eqb (no_edge_from before (bits_of 8 byte)) 4) true

edged_tests : T (all_bytes edged_test)
unfolding no_edge_from bits_of
edged_tests = tt

byte_edged : (before byte : ℕ) → before ≤ 1 → byte < 256 → bit_and (byte_turns before byte) 0xaa ≡ 0xaa
    → no_edge_from before (bits_of 8 byte) ≡ 4
byte_edged before byte h b e =
    eqb→eq (no_edge_from before (bits_of 8 byte)) 4
    (rw (eq-eqb (bit_and (byte_turns before byte) 0xaa) 0xaa e) at (each_byte edged_test edged_tests before byte h b))

-- and of a word
pub word_edged : (before word : ℕ) → before ≤ 1 → word < 65536 → bit_and (turns_of before word) 0xaaaa ≡ 0xaaaa
    → no_edge_from before (bits_of 16 word) ≡ 8
word_edged before word h w e =
    let both = sym (masked before word h w 0xaa (omega arith)) ∙ e in
    let one : bit_and (high before word h w) 0xaa ≡ 0xaa =
    omega (arith, both, and_le_r (high before word h w) 0xaa, and_le_r (low before word h w) 0xaa) in
    let other : bit_and (low before word h w) 0xaa ≡ 0xaa =
    omega (arith, both, and_le_r (high before word h w) 0xaa, and_le_r (low before word h w) 0xaa) in
    ap (no_edge_from before) (word_parted word)
    ∙ edges_past 4 before (bits_of 8 (word / 256)) (bits_of 8 (word % 256)) (length_bits 8 (word / 256))
    (byte_edged before (word / 256) h (omega arith) one)
    ∙ ap (λ (v : ℕ). 4 + no_edge_from v (bits_of 8 (word % 256))) (last_bit 7 before (word / 256))
    ∙ ap (λ (n : ℕ). 4 + n) (byte_edged (word / 256 % 2) (word % 256) (omega arith) (omega arith) other)

-- A step that moves the bits of both bytes together: of what the higher byte gives to the lower one, s, the mask leaves
-- nothing.
lane : (j m hi s lo : ℕ) → m < 2 ^ j → lo < 2 ^ j → m < 256 → s * 2 ^ j + lo < 256
    → bit_and (hi * 256 + (s * 2 ^ j + lo)) (m * 256 + m) ≡ bit_and hi m * 256 + bit_and lo m
lane j m hi s lo hm hl m-fits lo-fits =
    let e : m ≡ 0 * 2 ^ j + m = omega arith in
    let clear : bit_and (s * 2 ^ j + lo) m ≡ bit_and lo m =
    ap (bit_and (s * 2 ^ j + lo)) e ∙ and_block j s 0 lo m hl hm ∙ rw (and_zero_r s) (omega arith) in
    and_block 8 hi m (s * 2 ^ j + lo) m lo-fits m-fits ∙ ap (λ (x : ℕ). bit_and hi m * 256 + x) clear

-- the two steps, and the third, which takes the fours of both bytes
abbrev pub pairs_of : (ones mask : ℕ) → ℕ
pairs_of ones mask = bit_and (ones + ones / 2) mask

abbrev pub fours_of : (pairs mask : ℕ) → ℕ
fours_of pairs mask = bit_and (pairs + pairs / 4) mask

pairs_parted : (hi lo : ℕ) → lo ≤ 0x55 → pairs_of (hi * 256 + lo) 0x3333 ≡ pairs_of hi 0x33 * 256 + pairs_of lo 0x33
pairs_parted hi lo l =
    let e : hi * 256 + lo + (hi * 256 + lo) / 2 ≡ (hi + hi / 2) * 256 + (hi % 2 * 128 + (lo + lo / 2)) = omega arith in
    ap (λ (x : ℕ). bit_and x 0x3333) e
    ∙ lane 7 0x33 (hi + hi / 2) (hi % 2) (lo + lo / 2) (omega arith) (omega arith) (omega arith) (omega arith)

fours_parted : (hi lo : ℕ) → lo ≤ 0x33 → fours_of (hi * 256 + lo) 0x0f0f ≡ fours_of hi 0x0f * 256 + fours_of lo 0x0f
fours_parted hi lo l =
    let e : hi * 256 + lo + (hi * 256 + lo) / 4 ≡ (hi + hi / 4) * 256 + (hi % 4 * 64 + (lo + lo / 4)) = omega arith in
    ap (λ (x : ℕ). bit_and x 0x0f0f) e
    ∙ lane 6 0x0f (hi + hi / 4) (hi % 4) (lo + lo / 4) (omega arith) (omega arith) (omega arith) (omega arith)

-- of a byte: the two steps give its four bits
abbrev four : (before byte : ℕ) → ℕ
four before byte = fours_of (pairs_of (bit_and (byte_turns before byte) 0x55) 0x33) 0x0f

abbrev four_test : (before byte : ℕ) → Bool
four_test before byte = eqb (four before byte) (from_bits (cell_bits (bits_of 8 byte)))

four_tests : T (all_bytes four_test)
unfolding from_bits cell_bits bits_of
four_tests = tt

byte_four : (before byte : ℕ) → before ≤ 1 → byte < 256 → four before byte ≡ from_bits (cell_bits (bits_of 8 byte))
byte_four before byte h b =
    eqb→eq (four before byte) (from_bits (cell_bits (bits_of 8 byte))) (each_byte four_test four_tests before byte h b)

-- and of a word: the three steps give its byte
pub word_eight : (word : ℕ) → word < 65536
    → let fours = fours_of (pairs_of (bit_and (turns_of 0 word) 0x5555) 0x3333) 0x0f0f in
    (fours + fours / 16) % 256 ≡ byte_of word
unfolding byte_of
word_eight word w =
    let z : 0 ≤ 1 = omega arith in
    let a = bit_and (high 0 word z w) 0x55 in
    let b = bit_and (low 0 word z w) 0x55 in
    let c = fours_of (pairs_of a 0x33) 0x0f in
    let d = fours_of (pairs_of b 0x33) 0x0f in
    let fours : fours_of (pairs_of (bit_and (turns_of 0 word) 0x5555) 0x3333) 0x0f0f ≡ c * 256 + d =
    ap (λ (x : ℕ). fours_of (pairs_of x 0x3333) 0x0f0f) (masked 0 word z w 0x55 (omega arith))
    ∙ ap (λ (x : ℕ). fours_of x 0x0f0f) (pairs_parted a b (and_le_r (low 0 word z w) 0x55))
    ∙ fours_parted (pairs_of a 0x33) (pairs_of b 0x33) (and_le_r (b + b / 2) 0x33) in
    let fits : c ≤ 0x0f = and_le_r (pairs_of a 0x33 + pairs_of a 0x33 / 4) 0x0f in
    let fits-2 : d ≤ 0x0f = and_le_r (pairs_of b 0x33 + pairs_of b 0x33 / 4) 0x0f in
    let down : (c * 256 + d) / 16 ≡ c * 16 = omega arith in
    let sum : c * 256 + d + c * 16 ≡ c * 256 + (c * 16 + d) = omega arith in
    let joined : (c * 256 + d + (c * 256 + d) / 16) % 256 ≡ c * 16 + d =
    ap (λ (x : ℕ). (c * 256 + d + x) % 256) down ∙ ap (λ (x : ℕ). x % 256) sum ∙ digits_mod c (omega arith) in
    let one = bits_of 8 (word / 256) in
    let other = bits_of 8 (word % 256) in
    ap (λ (x : ℕ). (x + x / 16) % 256) fours
    ∙ joined
    ∙ ap₂ (λ (x y : ℕ). x * 16 + y)
    (byte_four 0 (word / 256) z (omega arith))
    (byte_four (word / 256 % 2) (word % 256) (omega arith) (omega arith))
    ∙ sym (ap (λ (n : ℕ). from_bits (cell_bits one) * 2 ^ n + from_bits (cell_bits other))
    (length_cell_bits 4 other (length_bits 8 (word % 256))))
    ∙ sym (from_append (cell_bits one) (cell_bits other))
    ∙ sym (ap from_bits (cell_bits_append 4 one other (length_bits 8 (word / 256))))
    ∙ sym (ap (λ (l : List ℕ). from_bits (cell_bits l)) (word_parted word))
