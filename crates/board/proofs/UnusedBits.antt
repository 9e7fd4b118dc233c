-- The bit places from a place on hold 0 exactly where the word that the place falls in stays below the place's weight
-- and every later word is 0.
use Prim.Native.Nat.{ℕ, zero, suc, ◌+◌, ◌-◌, ◌*◌, ◌/◌, ◌%◌, ◌^◌, ◌≤◌, ◌<◌}
use mathlib.Core.Path.{◌≡◌, refl, sym, ◌∙◌, ap}
use mathlib.Core.List.{List, [], ◌∷◌, ◌++◌}
use mathlib.Core.Bool.{true, false, ◌&&◌, and_assoc, and-false}
use native.Mathlib.Nat.{pow-succ', zero-mul, suc-mul}
use native.Mathlib.Omega.{arith}
use native.Mathlib.Decide.{dec_lt}
use native.Mathlib.Numerals.{add-one}
use borrow.Author.Tests.{lt-ltb, le-ltb, eq-eqb, ne_eqb, eqb-true}
use lib.Bits.{bit_and, bit_or, or_add_and, and_le_l, and_le_r}
use lib.Dec.{eqb, ltb}
use lib.ListN.{length, get_or, take, drop, replicate, take-append-drop}
use lib.Seq.{drop-append-le, drop-append-add, drop_at, drop-cons}
use Rattle.measure.proofs.Both.{both}
use Rattle.board.specs.Packed.{digits, packed, unpacked}
use Rattle.board.specs.WellFormed.{all_zero, unused_zero}
use Rattle.board.proofs.PackedBits.{Binary, Words, length_digits, unpacked_packed}

-- all entries are 0

pub zero_at : (l : List ℕ) (i : ℕ) → all_zero l ≡ true → get_or l i 0 ≡ 0
zero_at [] i h = refl
zero_at (x ∷ l) zero h = eqb-true x 0 (both (eqb x 0) (all_zero l) h).0
zero_at (x ∷ l) (suc i) h = zero_at l i (both (eqb x 0) (all_zero l) h).1

zero_replicate : (n : ℕ) → all_zero (replicate n 0) ≡ true
zero_replicate zero = refl
zero_replicate (suc n) = zero_replicate n

zero_append : (l t : List ℕ) → all_zero (l ++ t) ≡ (all_zero l && all_zero t)
zero_append [] t = refl
zero_append (x ∷ l) t = rw (zero_append l t) (sym (and_assoc (eqb x 0) (all_zero l) (all_zero t)))

-- a part that is not all 0
pub zero_part : (l : List ℕ) (n : ℕ) → all_zero (take n l) ≡ false → all_zero l ≡ false
zero_part l n h =
    ap all_zero (sym (take-append-drop n l)) ∙ zero_append (take n l) (drop n l) ∙ rw h

-- entries at the front that are 0 may be passed over, fewer too
pub zero_past : (l : List ℕ) (m n : ℕ) → m ≤ n → all_zero (take n l) ≡ true → all_zero l ≡ all_zero (drop m l)
zero_past l zero n p h = refl
zero_past [] (suc m) n p h = refl
zero_past (x ∷ l) (suc m) zero p h = absurd (omega arith)
zero_past (x ∷ l) (suc m) (suc n) p h =
    let b = both (eqb x 0) (all_zero (take n l)) h in rw b.0 (zero_past l m n (omega arith) b.1)

-- one entry more is looked at: the bits of all together are 0 where they were and the entry's are
or_zero : (all entry : ℕ) → eqb (bit_or all entry) 0 ≡ (eqb all 0 && eqb entry 0)
or_zero all entry = go (dec_lt 0 all) (dec_lt 0 entry)
  where
    sum : bit_or all entry + bit_and all entry ≡ all + entry
    sum = or_add_and all entry

    first : bit_and all entry ≤ all
    first = and_le_l all entry

    second : bit_and all entry ≤ entry
    second = and_le_r all entry

    go : Dec (0 < all) → Dec (0 < entry) → eqb (bit_or all entry) 0 ≡ (eqb all 0 && eqb entry 0)
    go (yes h) d =
        rw (ne_eqb (bit_or all entry) 0 (λ e. omega (arith, sum, first, second)), ne_eqb all 0 (λ e. omega arith))
    go (no h) (yes d) =
        rw (
          ne_eqb (bit_or all entry) 0 (λ e. omega (arith, sum, first, second)),
          ne_eqb entry 0 (λ e. omega arith),
          and-false (eqb all 0),
        )
    go (no h) (no d) =
        rw (
          eq-eqb (bit_or all entry) 0 (omega (arith, sum, first, second)),
          eq-eqb all 0 (omega arith),
          eq-eqb entry 0 (omega arith),
        )

pub looked_on : (l : List ℕ) (all i : ℕ) → i < length l → (eqb all 0 && all_zero (drop i l)) ≡ all_zero l
    → (eqb (bit_or all (get_or l i 0)) 0 && all_zero (drop (i + 1) l)) ≡ all_zero l
looked_on l all i h so_far =
    rw (or_zero all (get_or l i 0), add-one i)
    (and_assoc (eqb all 0) (eqb (get_or l i 0) 0) (all_zero (drop (suc i) l)) ∙ (rw (drop-cons l i 0 h) at so_far))

-- two tests that hold of the same numbers are one test
same_test : (a b c d : ℕ) → (a < b → c < d) → (b ≤ a → d ≤ c) → ltb a b ≡ ltb c d
same_test a b c d f g = go (dec_lt a b)
  where
    go : Dec (a < b) → ltb a b ≡ ltb c d
    go (yes p) = lt-ltb a b p ∙ sym (lt-ltb c d (f p))
    go (no p) = le-ltb a b (omega arith) ∙ sym (le-ltb c d (g (omega arith)))

zero_test : (x : ℕ) → eqb x 0 ≡ ltb x 1
zero_test x = go (dec_lt x 1)
  where
    go : Dec (x < 1) → eqb x 0 ≡ ltb x 1
    go (yes p) = eq-eqb x 0 (omega arith) ∙ sym (lt-ltb x 1 p)
    go (no p) = ne_eqb x 0 (λ e. omega arith) ∙ sym (le-ltb x 1 (omega arith))

zero_halved : (x : ℕ) → (eqb (x % 2) 0 && ltb (x / 2) 1) ≡ ltb x 1
zero_halved x = go (dec_lt (x % 2) 1)
  where
    go : Dec (x % 2 < 1) → (eqb (x % 2) 0 && ltb (x / 2) 1) ≡ ltb x 1
    go (yes p) = rw (eq-eqb (x % 2) 0 (omega arith)) (same_test (x / 2) 1 x 1 (λ h. omega arith) (λ h. omega arith))
    go (no p) = rw (ne_eqb (x % 2) 0 (λ e. omega arith)) (sym (le-ltb x 1 (omega arith)))

-- the digits of a word from a place on are 0 where the word is below the place's weight
zero_digits : (w x r : ℕ) → r ≤ w → x < 2 ^ w → all_zero (drop r (digits w x)) ≡ ltb x (2 ^ r)
unfolding digits
zero_digits zero x zero hr h = sym (lt-ltb x 1 h)
zero_digits zero x (suc r) hr h = absurd (omega arith)
zero_digits (suc w) x zero hr h =
    rw (zero_digits w (x / 2) zero (omega arith) (omega (arith, pow-succ' 2 w))) (zero_halved x)
zero_digits (suc w) x (suc r) hr h =
    zero_digits w (x / 2) r (omega arith) (omega (arith, pow-succ' 2 w))
    ∙ same_test (x / 2) (2 ^ r) x (2 ^ suc r) (λ p. omega (arith, pow-succ' 2 r)) (λ p. omega (arith, pow-succ' 2 r))

zero_unpacked : (w : ℕ) (words : List ℕ) → Words w words → all_zero (unpacked w words) ≡ all_zero words
unfolding unpacked
zero_unpacked w [] h = refl
zero_unpacked w (x ∷ words) h =
    zero_append (digits w x) (unpacked w words)
    ∙ rw (zero_digits w x 0 (omega arith) (h 0), zero_unpacked w words (λ i. h (suc i)), zero_test x) refl

-- by words
pub unused_words : (w : ℕ) (words : List ℕ) (q r : ℕ) → r < w → q < length words → Words w words
    → all_zero (drop (q * w + r) (unpacked w words)) ≡ (ltb (get_or words q 0) (2 ^ r) && all_zero (drop (suc q) words))
unfolding unpacked
unused_words w [] q r hr hq h = absurd (omega arith)
unused_words w (x ∷ words) zero r hr hq h =
    let e : 0 * w + r ≡ r = omega (arith, zero-mul w) in
    rw (
      e,
      drop-append-le r (digits w x) (unpacked w words) (omega (arith, length_digits w x)),
      zero_append (drop r (digits w x)) (unpacked w words),
      zero_digits w x r (omega arith) (h 0),
      zero_unpacked w words (λ i. h (suc i)),
    )
unused_words w (x ∷ words) (suc q) r hr hq h =
    let e : suc q * w + r ≡ length (digits w x) + (q * w + r) = omega (arith, suc-mul q w, length_digits w x) in
    rw (e, drop-append-add (digits w x) (unpacked w words) (q * w + r))
    (unused_words w words q r hr (omega arith) (λ i. h (suc i)))

-- after bits that were packed, every place holds 0
pub unused_packed : (w m : ℕ) (l : List ℕ) → Binary l → length l ≤ m * w
    → all_zero (drop (length l) (unpacked w (packed w m l))) ≡ true
unused_packed w m l b h =
    rw (unpacked_packed w m l b h, drop_at l (replicate (m * w - length l) 0) (length l) refl)
    (zero_replicate (m * w - length l))

-- bytes: a bit too many in the byte in which the next one falls

split_bytes : (bytes : List ℕ) (found : ℕ) → found / 8 < length bytes → Words 8 bytes
    → unused_zero found bytes
    ≡ (ltb (get_or bytes (found / 8) 0) (2 ^ (found % 8)) && all_zero (drop (suc (found / 8)) bytes))
unfolding unused_zero
split_bytes bytes found h words =
    let e : found ≡ found / 8 * 8 + found % 8 = omega arith in
    ap (λ (n : ℕ). all_zero (drop n (unpacked 8 bytes))) e
    ∙ unused_words 8 bytes (found / 8) (found % 8) (omega arith) h words

pub unused_over : (bytes : List ℕ) (found : ℕ) → found / 8 < length bytes → Words 8 bytes
    → 2 ^ (found % 8) ≤ get_or bytes (found / 8) 0 → unused_zero found bytes ≡ false
unused_over bytes found h words p = split_bytes bytes found h words
    ∙ rw (le-ltb (get_or bytes (found / 8) 0) (2 ^ (found % 8)) p)

-- otherwise all turns on the bytes after that one
pub unused_rest : (bytes : List ℕ) (found : ℕ) → found / 8 < length bytes → Words 8 bytes
    → get_or bytes (found / 8) 0 < 2 ^ (found % 8)
    → unused_zero found bytes ≡ all_zero (drop (suc (found / 8)) bytes)
unused_rest bytes found h words p = split_bytes bytes found h words
    ∙ rw (lt-ltb (get_or bytes (found / 8) 0) (2 ^ (found % 8)) p)
