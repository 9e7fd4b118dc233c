-- How far a signed number is from zero: a difference is at most as far as its two parts together, and a product as far
-- as its two parts multiplied.
use Rattle.std.proofs.Common.{◌≡◌, refl, ℕ, zero, suc, ◌+◌, ◌*◌, ◌^◌, ◌≤◌, ◌<◌, mul-le-mul, arith, lt-ltb, le-ltb, ℤ}
use Rattle.std.proofs.Common.{pos, negsuc, neg_ℤ, nat_abs, ◌-ℤ◌, ◌*ℤ◌, w64, SFits}
use native.Mathlib.Decide.{dec_le}
use lib.IntN.{sub_ℕ}

neg_size : (z : ℤ) → nat_abs (neg_ℤ z) ≡ nat_abs z
neg_size (pos zero) = refl
neg_size (pos (suc n)) = refl
neg_size (negsuc n) = refl

sub_size : (a b : ℕ) → nat_abs (sub_ℕ a b) ≤ a + b
sub_size a b = go (dec_le b a)
  where
    go : Dec (b ≤ a) → nat_abs (sub_ℕ a b) ≤ a + b
    go (yes h) = rw (le-ltb a b h) (omega arith)
    go (no h) = rw (lt-ltb a b (omega arith)) (omega arith)

pub less_size : (y z : ℤ) (m n : ℕ) → nat_abs y ≤ m → nat_abs z ≤ n → nat_abs (y -ℤ z) ≤ m + n
less_size (pos a) (pos zero) m n p q = omega arith
less_size (pos a) (pos (suc b)) m n p q = omega (arith, sub_size a (suc b))
less_size (pos a) (negsuc b) m n p q = omega arith
less_size (negsuc a) (pos zero) m n p q = omega (arith, sub_size 0 (suc a))
less_size (negsuc a) (pos (suc b)) m n p q = omega arith
less_size (negsuc a) (negsuc b) m n p q = omega (arith, sub_size (suc b) (suc a))

pub times_size : (y z : ℤ) (m n : ℕ) → nat_abs y ≤ m → nat_abs z ≤ n → nat_abs (y *ℤ z) ≤ m * n
times_size (pos a) (pos b) m n p q = mul-le-mul p q
times_size (pos a) (negsuc b) m n p q = rw (neg_size (pos (a * suc b))) (mul-le-mul p q)
times_size (negsuc a) (pos b) m n p q = rw (neg_size (pos (suc a * b))) (mul-le-mul p q)
times_size (negsuc a) (negsuc b) m n p q = mul-le-mul p q

-- a number that is not too far from zero fits the code's signed type
pub size_fits : (z : ℤ) (m : ℕ) → nat_abs z ≤ m → m < 2 ^ 63 → SFits w64 z
size_fits (pos a) m p q = record { sfits = omega arith }
size_fits (negsuc a) m p q = record { sfits = omega arith }
