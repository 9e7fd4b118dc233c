-- Bits in words, at every width and for any number of words: a word's binary digits and the bits that it was made of
-- are the same list, so packing and unpacking undo each other.
use Prim.Native.Nat.{ℕ, zero, suc, ◌+◌, ◌-◌, ◌*◌, ◌/◌, ◌%◌, ◌^◌, ◌≤◌, ◌<◌}
use mathlib.Core.Path.{◌≡◌, refl, sym, ◌∙◌, ap}
use mathlib.Core.List.{List, [], ◌∷◌, ◌++◌, append-nil, append_assoc}
use native.Mathlib.Nat.{mul_left_comm, pow-succ', mul-one, zero-mul, suc-mul}
use native.Mathlib.Omega.{arith}
use native.Mathlib.Decide.{dec_lt}
use lib.ListN.{length, get_or, take, drop, set, replicate, length-append, length-drop, drop_of_length-le}
use lib.ListN.{take-append-drop, replicate-append-replicate}
use lib.Pow.{pow_pos}
use lib.Seq.{drop_at, drop-append-le, get_or-drop, take_all, take-nil}
use Rattle.board.specs.Packed.{number, digits, packed, unpacked}

-- every entry is a level: by places, those past the last with them, since a bit is looked up by its place in a word.
-- measure's `most_at` and `most_by_places` lead from `Levels` to this and back.
abbrev pub Binary : List ℕ → Type 0
Binary bits = (i : ℕ) → get_or bits i 0 ≤ 1

-- every word is below 2 to the power of the width
abbrev pub Words : ℕ → List ℕ → Type 0
Words w words = (i : ℕ) → get_or words i 0 < 2 ^ w

-- binary lists

pub binary_none : Binary []
binary_none i = omega arith

pub binary_snoc : (l : List ℕ) (v : ℕ) → Binary l → v ≤ 1 → Binary (l ++ v ∷ [])
binary_snoc [] v b h zero = h
binary_snoc [] v b h (suc i) = omega arith
binary_snoc (x ∷ l) v b h zero = b 0
binary_snoc (x ∷ l) v b h (suc i) = binary_snoc l v (λ j. b (suc j)) h i

binary_append : (l t : List ℕ) → Binary l → Binary t → Binary (l ++ t)
binary_append [] t b d i = d i
binary_append (x ∷ l) t b d zero = b 0
binary_append (x ∷ l) t b d (suc i) = binary_append l t (λ j. b (suc j)) d i

pub binary_take : (n : ℕ) (l : List ℕ) → Binary l → Binary (take n l)
binary_take zero l b i = omega arith
binary_take (suc n) [] b i = omega arith
binary_take (suc n) (x ∷ l) b zero = b 0
binary_take (suc n) (x ∷ l) b (suc i) = binary_take n l (λ j. b (suc j)) i

binary_drop : (n : ℕ) (l : List ℕ) → Binary l → Binary (drop n l)
binary_drop n l b i = rw (get_or-drop n l i 0) (b (n + i))

digits_binary : (w x : ℕ) → Binary (digits w x)
unfolding digits
digits_binary zero x i = omega arith
digits_binary (suc w) x zero = omega arith
digits_binary (suc w) x (suc i) = digits_binary w (x / 2) i

pub unpacked_binary : (w : ℕ) (words : List ℕ) → Binary (unpacked w words)
unfolding unpacked
unpacked_binary w [] i = omega arith
unpacked_binary w (x ∷ words) i =
    binary_append (digits w x) (unpacked w words) (digits_binary w x) (unpacked_binary w words) i

-- lengths

pub length_digits : (w x : ℕ) → length (digits w x) ≡ w
unfolding digits
length_digits zero x = refl
length_digits (suc w) x = ap suc (length_digits w (x / 2))

pub length_packed : (w m : ℕ) (l : List ℕ) → length (packed w m l) ≡ m
unfolding packed
length_packed w zero l = refl
length_packed w (suc m) l = ap suc (length_packed w m (drop w l))

pub length_unpacked : (w : ℕ) (words : List ℕ) → length (unpacked w words) ≡ length words * w
unfolding unpacked
length_unpacked w [] = sym (zero-mul w)
length_unpacked w (x ∷ words) =
    omega (
      arith,
      length-append (digits w x) (unpacked w words),
      length_digits w x,
      length_unpacked w words,
      suc-mul (length words) w,
    )

-- one word

number_nil : (w : ℕ) → number w [] ≡ 0
unfolding number
number_nil zero = refl
number_nil (suc w) = refl

number_bound : (w : ℕ) (l : List ℕ) → Binary l → number w l < 2 ^ w
unfolding number
number_bound zero l b = omega arith
number_bound (suc w) [] b = omega (arith, pow-succ' 2 w, number_bound w [] (λ i. b (suc i)))
number_bound (suc w) (x ∷ l) b = omega (arith, pow-succ' 2 w, b 0, number_bound w l (λ i. b (suc i)))

twice_pow : (v n : ℕ) → v * 2 ^ suc n ≡ 2 * (v * 2 ^ n)
twice_pow v n = rw pow-succ' (mul_left_comm v 2 (2 ^ n))

number_snoc : (w : ℕ) (l : List ℕ) (v : ℕ) → length l < w → number w (l ++ v ∷ []) ≡ number w l + v * 2 ^ length l
unfolding number
number_snoc zero l v h = omega arith
number_snoc (suc w) [] v h = omega (arith, number_nil w, mul-one v)
number_snoc (suc w) (x ∷ l) v h = omega (arith, number_snoc w l v (omega arith), twice_pow v (length l))

number_append : (w : ℕ) (l t : List ℕ) → w ≤ length l → number w (l ++ t) ≡ number w l
unfolding number
number_append zero l t h = refl
number_append (suc w) [] t h = omega arith
number_append (suc w) (x ∷ l) t h = ap (λ (n : ℕ). x + 2 * n) (number_append w l t (omega arith))

number_digits : (w x : ℕ) (t : List ℕ) → x < 2 ^ w → number w (digits w x ++ t) ≡ x
unfolding number digits
number_digits zero x t h = omega (arith, h)
number_digits (suc w) x t h = omega (arith, number_digits w (x / 2) t (omega (arith, pow-succ' 2 w)))

-- the digits of a word are the bits that it was made of, and 0 in the places for which there was none
digits_number : (w : ℕ) (l : List ℕ) → Binary l → digits w (number w l) ≡ take w l ++ replicate (w - length l) 0
unfolding number digits
digits_number zero l b = let e : 0 - length l ≡ 0 = omega arith in rw e
digits_number (suc w) [] b =
    let e : w - 0 ≡ w = omega arith in
    let f : suc w - 0 ≡ suc w = omega arith in
    let rest : digits w 0 ≡ replicate w 0 = rw (number_nil w, take-nil w, e) at (digits_number w [] b) in
    rw (f, rest)
digits_number (suc w) (x ∷ l) b =
    let low : (x + 2 * number w l) % 2 ≡ x = omega (arith, b 0) in
    let high : (x + 2 * number w l) / 2 ≡ number w l = omega (arith, b 0) in
    let e : suc w - suc (length l) ≡ w - length l = omega arith in
    rw (low, high, digits_number w l (λ i. b (suc i)), e)

-- words of bits

pub packed_words : (w m : ℕ) (l : List ℕ) → Binary l → Words w (packed w m l)
unfolding packed
packed_words w zero l b i = omega (arith, number_bound w [] binary_none)
packed_words w (suc m) l b zero = number_bound w l b
packed_words w (suc m) l b (suc i) = packed_words w m (drop w l) (binary_drop w l b) i

-- one bit more: it is added to the word that it falls in, at its place's weight
pub packed_snoc : (w m : ℕ) (l : List ℕ) (v q r : ℕ) → length l ≡ q * w + r → r < w → q < m
    → packed w m (l ++ v ∷ []) ≡ set (packed w m l) q (get_or (packed w m l) q 0 + v * 2 ^ r)
unfolding packed
packed_snoc w zero l v q r e hr hq = refl
packed_snoc w (suc m) l v zero r e hr hq =
    let z : length l ≡ r = omega (arith, zero-mul w) in
    let a : drop w (l ++ v ∷ []) ≡ [] =
    drop_of_length-le (l ++ v ∷ []) {i = w} (omega (arith, length-append l (v ∷ []))) in
    let b : drop w l ≡ [] = drop_of_length-le l {i = w} (omega arith) in
    rw (number_snoc w l v (omega arith), a, b, z)
packed_snoc w (suc m) l v (suc q) r e hr hq =
    let z : length l ≡ w + (q * w + r) = omega (arith, suc-mul q w) in
    rw (
      number_append w l (v ∷ []) (omega arith),
      drop-append-le w l (v ∷ []) (omega arith),
      packed_snoc w m (drop w l) v q r (omega (arith, length-drop w l)) hr (omega arith),
    )

-- the word in which the next bit falls is still below that bit's weight
number_low : (w : ℕ) (l : List ℕ) → Binary l → number w l < 2 ^ length l
unfolding number
number_low zero l b = pow_pos (length l)
number_low (suc w) [] b = omega arith
number_low (suc w) (x ∷ l) b = omega (arith, pow-succ' 2 (length l), b 0, number_low w l (λ i. b (suc i)))

pub packed_low : (w m : ℕ) (l : List ℕ) (q r : ℕ) → Binary l → length l ≡ q * w + r → r < w → q < m
    → get_or (packed w m l) q 0 < 2 ^ r
unfolding packed
packed_low w zero l q r b e hr hq = absurd (omega arith)
packed_low w (suc m) l zero r b e hr hq = let z : length l ≡ r = omega (arith, zero-mul w) in rw z at (number_low w l b)
packed_low w (suc m) l (suc q) r b e hr hq =
    packed_low w m (drop w l) q r (binary_drop w l b) (omega (arith, length-drop w l, suc-mul q w)) hr (omega arith)

-- words depend on what stands at each place alone, and a place past the end counts as 0
number_cong : (w : ℕ) (l t : List ℕ) → ((i : ℕ) → get_or l i 0 ≡ get_or t i 0) → number w l ≡ number w t
unfolding number
number_cong zero l t h = refl
number_cong (suc w) [] [] h = refl
number_cong (suc w) [] (y ∷ t) h = omega (arith, h 0, number_cong w [] t (λ i. h (suc i)), number_nil w)
number_cong (suc w) (x ∷ l) [] h = omega (arith, h 0, number_cong w l [] (λ i. h (suc i)), number_nil w)
number_cong (suc w) (x ∷ l) (y ∷ t) h = omega (arith, h 0, number_cong w l t (λ i. h (suc i)))

pub packed_cong : (w m : ℕ) (l t : List ℕ) → ((i : ℕ) → get_or l i 0 ≡ get_or t i 0) → packed w m l ≡ packed w m t
unfolding packed
packed_cong w zero l t h = refl
packed_cong w (suc m) l t h =
    rw (
      number_cong w l t h,
      packed_cong w m (drop w l) (drop w t) (λ i. get_or-drop w l i 0 ∙ h (w + i) ∙ sym (get_or-drop w t i 0)),
    )

-- words, unpacked and packed again, are the same words
pub packed_unpacked : (w m : ℕ) (words : List ℕ) → length words ≡ m → Words w words
    → packed w m (unpacked w words) ≡ words
unfolding packed unpacked
packed_unpacked w zero [] e h = refl
packed_unpacked w zero (x ∷ words) e h = absurd (omega arith)
packed_unpacked w (suc m) [] e h = absurd (omega arith)
packed_unpacked w (suc m) (x ∷ words) e h =
    rw (
      number_digits w x (unpacked w words) (h 0),
      drop_at (digits w x) (unpacked w words) w (length_digits w x),
      packed_unpacked w m words (omega arith) (λ i. h (suc i)),
    )

zeros_join : (l : List ℕ) (a b n : ℕ) → a + b ≡ n → l ++ replicate a 0 ++ replicate b 0 ≡ l ++ replicate n 0
zeros_join l a b n e = append_assoc l (replicate a 0) (replicate b 0) ∙ rw (replicate-append-replicate {A = ℕ} a b 0, e)

-- bits, packed and unpacked again, are the same bits, and 0 in every place after them
pub unpacked_packed : (w m : ℕ) (l : List ℕ) → Binary l → length l ≤ m * w
    → unpacked w (packed w m l) ≡ l ++ replicate (m * w - length l) 0
unfolding packed unpacked
unpacked_packed w zero [] b h = let e : 0 * w - 0 ≡ 0 = omega (arith, zero-mul w) in rw e
unpacked_packed w zero (x ∷ l) b h = absurd (omega (arith, zero-mul w))
unpacked_packed w (suc m) l b h =
    rw (
      digits_number w l b,
      unpacked_packed w m (drop w l) (binary_drop w l b) (omega (arith, length-drop w l, suc-mul m w)),
      length-drop w l,
    ) (go (dec_lt (length l) w))
  where
    go : Dec (length l < w)
        → take w l ++ replicate (w - length l) 0 ++ (drop w l ++ replicate (m * w - (length l - w)) 0) ≡ l
        ++ replicate (suc m * w - length l) 0
    go (yes p) =
        let e : length l - w ≡ 0 = omega arith in
        let f : m * w - 0 ≡ m * w = omega arith in
        rw (take_all w l (omega arith), drop_of_length-le l {i = w} (omega arith), e, f)
        (zeros_join l (w - length l) (m * w) (suc m * w - length l) (omega (arith, suc-mul m w)))
    go (no p) =
        let e : w - length l ≡ 0 = omega arith in
        let n : m * w - (length l - w) ≡ suc m * w - length l = omega (arith, suc-mul m w) in
        rw (e, n, append-nil (take w l)) (sym (append_assoc (take w l) (drop w l) (replicate (suc m * w - length l) 0))
        ∙ ap (λ (t : List ℕ). t ++ replicate (suc m * w - length l) 0) (take-append-drop w l))
