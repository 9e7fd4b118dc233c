-- Rules E: numbers as the bytes of their decimal text.
use Rattle.std.specs.Prelude.{ℕ, zero, suc, ◌+◌, ◌/◌, ◌%◌, Bool, true, false, List, [], ◌∷◌, ◌++◌, ltb, ℤ, pos, negsuc}
use Rattle.measure.specs.Choose.{choose}

-- E7: the byte of a digit, or of a bit
abbrev pub digit : ℕ → ℕ
digit d = 48 + d

-- E7: a number in decimal, highest digit first with no zero before it, so many digits at most
unfoldable pub decimal_in : ℕ → ℕ → List ℕ
decimal_in zero n = []
decimal_in (suc digits) n =
    choose (ltb n 10) (digit n ∷ []) (decimal_in digits (n / 10) ++ digit (n % 10) ∷ [])

-- a number below 2^64 has at most so many digits
abbrev pub digits_most : ℕ
digits_most = 20

-- E7
abbrev pub decimal : ℕ → List ℕ
decimal n = decimal_in digits_most n

-- a signed number is below 0
abbrev pub is_below : ℤ → Bool
is_below (pos n) = false
is_below (negsuc n) = true

-- how far it lies below 0
abbrev pub depth : ℤ → ℕ
depth (pos n) = 0
depth (negsuc n) = suc n

-- the byte of a minus sign
abbrev pub minus : ℕ
minus = 45

-- a number's digits, with a minus sign before them where it is below 0
abbrev pub numeral : (below : Bool) → ℕ → List ℕ
numeral below n = choose below (minus ∷ decimal n) (decimal n)

-- a signed number: one below 0 has a minus sign before how far it lies below 0
abbrev pub signed_decimal : ℤ → List ℕ
signed_decimal (pos n) = decimal n
signed_decimal (negsuc n) = minus ∷ decimal (depth (negsuc n))
