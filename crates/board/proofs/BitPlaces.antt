-- Bit i of packed words is the binary digit of weight 2 to the power i % width of word i / width.
use mathlib.Core.Path.{◌≡◌, ap, ◌∙◌}
use mathlib.Core.List.{List, [], ◌∷◌}
use Prim.Native.Nat.{ℕ, zero, suc, ◌+◌, ◌*◌, ◌/◌, ◌%◌, ◌^◌, ◌<◌}
use native.Mathlib.Nat.{div-one, zero-div, div-div-eq-div-mul, pow-succ', suc-mul, zero-mul}
use native.Mathlib.Omega.{arith}
use lib.ListN.{length, get_or, get_or-append}
use lib.Seq.{get_or-append-add}
use Rattle.board.specs.Packed.{digits, unpacked}
use Rattle.board.proofs.PackedBits.{length_digits}

digits_at : (w x r : ℕ) → r < w → get_or (digits w x) r 0 ≡ x / 2 ^ r % 2
unfolding digits
digits_at zero x r h = absurd (omega arith)
digits_at (suc w) x zero h = rw (div-one x)
digits_at (suc w) x (suc r) h = digits_at w (x / 2) r (omega arith) ∙ rw (div-div-eq-div-mul x 2 (2 ^ r), pow-succ' 2 r)

unpacked_at : (w : ℕ) (words : List ℕ) (q r : ℕ) → r < w
    → get_or (unpacked w words) (q * w + r) 0 ≡ get_or words q 0 / 2 ^ r % 2
unfolding unpacked
unpacked_at w [] q r h = rw (zero-div (2 ^ r))
unpacked_at w (x ∷ words) zero r h =
    let e : 0 * w + r ≡ r = omega (arith, zero-mul w) in
    rw e (get_or-append (digits w x) (unpacked w words) 0 r (omega (arith, length_digits w x)) ∙ digits_at w x r h)
unpacked_at w (x ∷ words) (suc q) r h =
    let e : suc q * w + r ≡ length (digits w x) + (q * w + r) = omega (arith, length_digits w x, suc-mul q w) in
    rw e (get_or-append-add (digits w x) (unpacked w words) (q * w + r) 0 ∙ unpacked_at w words q r h)

-- of bytes
pub bit_of_byte : (bytes : List ℕ) (i : ℕ) → get_or (unpacked 8 bytes) i 0 ≡ get_or bytes (i / 8) 0 / 2 ^ (i % 8) % 2
bit_of_byte bytes i =
    let e : i ≡ i / 8 * 8 + i % 8 = omega arith in
    ap (λ (j : ℕ). get_or (unpacked 8 bytes) j 0) e ∙ unpacked_at 8 bytes (i / 8) (i % 8) (omega arith)
