-- A number and its bits, the highest first: from one to the other and back, and where a number is parted in two.
use mathlib.Core.Path.{◌≡◌, refl, sym, ap, ap₂, ◌∙◌}
use mathlib.Core.List.{List, [], ◌∷◌, ◌++◌}
use Prim.Native.Nat.{ℕ, zero, suc, ◌+◌, ◌*◌, ◌/◌, ◌%◌, ◌^◌, ◌<◌}
use native.Mathlib.Nat.{add_comm, add-mul-div_right, add-mul-mod_self_right, le_of_suc-le-suc, mod-lt, mod-one}
use native.Mathlib.Nat.{pow-suc, suc-add, zero-add, zero-lt-suc, mod-eq_of_lt}
use native.Mathlib.Omega.{arith}
use lib.Arith.{digits_lt}
use lib.ListN.{length, length-append}
use lib.Pow.{pow_pos, pow-add, split, high, shr-shr, mod-pow-add}
use Rattle.measure.specs.Levels.{Levels}
use Rattle.halfcells.specs.HalfCells.{bits_of, from_bits}

pub length_bits : (n x : ℕ) → length (bits_of n x) ≡ n
unfolding bits_of
length_bits zero x = refl
length_bits (suc n) x = ap suc (length_bits n x)

pub bits_levels : (n x : ℕ) → Levels (bits_of n x)
unfolding bits_of
bits_levels zero x = tt
bits_levels (suc n) x = (le_of_suc-le-suc (mod-lt (x / 2 ^ n) (zero-lt-suc 1)), bits_levels n x)

-- a higher part matters to no lower bit
pub bits_past : (n h x : ℕ) → bits_of n (h * 2 ^ n + x) ≡ bits_of n x
unfolding bits_of
bits_past zero h x = refl
bits_past (suc n) h x =
    let moved : h * 2 ^ suc n + x ≡ h * 2 * 2 ^ n + x = rw (pow-suc 2 n) (omega arith) in
    let turned : h * 2 * 2 ^ n + x ≡ x + h * 2 * 2 ^ n = omega arith in
    let here : (h * 2 * 2 ^ n + x) / 2 ^ n % 2 ≡ x / 2 ^ n % 2 =
    rw (turned, add-mul-div_right x (h * 2) (pow_pos n)) (add-mul-mod_self_right (x / 2 ^ n) h 2) in
    rw moved (ap₂ (λ (b : ℕ) (l : List ℕ). b ∷ l) here (bits_past n (h * 2) x))

pub bits_low : (n x : ℕ) → bits_of n x ≡ bits_of n (x % 2 ^ n)
bits_low n x = ap (bits_of n) (sym (split x n)) ∙ bits_past n (x / 2 ^ n) (x % 2 ^ n)

-- the bits of the higher part, and then of the lower
pub bits_parted : (n m x : ℕ) → bits_of (n + m) x ≡ bits_of n (x / 2 ^ m) ++ bits_of m x
unfolding bits_of
bits_parted zero m x = rw zero-add
bits_parted (suc n) m x =
    rw (suc-add n m, shr-shr x m n, add_comm m n) (ap (λ (l : List ℕ). x / 2 ^ (n + m) % 2 ∷ l) (bits_parted n m x))

-- there and back
pub from_bits_lem : (n x : ℕ) → from_bits (bits_of n x) ≡ x % 2 ^ n
unfolding bits_of from_bits
from_bits_lem zero x = sym (mod-one x)
from_bits_lem (suc n) x =
    let e : suc n ≡ 1 + n = rw (suc-add 0 n, zero-add n) in
    rw (length_bits n x, from_bits_lem n x) (sym (ap (λ (m : ℕ). x % 2 ^ m) e ∙ mod-pow-add x 1 n))

pub from_below : (bits : List ℕ) → Levels bits → from_bits bits < 2 ^ length bits
unfolding from_bits
from_below [] all = zero-lt-suc 0
from_below (bit ∷ bits) all =
    let p : 2 ^ suc (length bits) ≡ 2 * 2 ^ length bits = rw (pow-suc 2 (length bits)) (omega arith) in
    rw p (digits_lt {m = 2} (omega (arith, all.0)) (from_below bits all.1))

pub bits_from_past : (h : ℕ) (bits : List ℕ) → Levels bits
    → bits_of (length bits) (h * 2 ^ length bits + from_bits bits) ≡ bits
unfolding bits_of from_bits
bits_from_past h [] all = refl
bits_from_past h (bit ∷ bits) all =
    let n = length bits in
    let moved : h * 2 ^ suc n + (bit * 2 ^ n + from_bits bits) ≡ (h * 2 + bit) * 2 ^ n + from_bits bits =
    rw (pow-suc 2 n) (omega arith) in
    let turned : h * 2 + bit ≡ bit + h * 2 = omega arith in
    let here : (h * 2 + bit) % 2 ≡ bit =
    rw turned (add-mul-mod_self_right bit h 2 ∙ mod-eq_of_lt (omega (arith, all.0))) in
    rw (moved, high (h * 2 + bit) n (from_below bits all.1), here)
    (ap (λ (l : List ℕ). bit ∷ l) (bits_from_past (h * 2 + bit) bits all.1))

pub bits_from : (bits : List ℕ) → Levels bits → bits_of (length bits) (from_bits bits) ≡ bits
bits_from bits all =
    let e : from_bits bits ≡ 0 * 2 ^ length bits + from_bits bits = omega arith in
    ap (bits_of (length bits)) e ∙ bits_from_past 0 bits all

-- part by part
pub from_append : (one other : List ℕ) → from_bits (one ++ other) ≡ from_bits one * 2 ^ length other + from_bits other
unfolding from_bits
from_append [] other = omega arith
from_append (bit ∷ one) other =
    rw (length-append one other, pow-add 2 (length one) (length other)) (omega (arith, from_append one other))
