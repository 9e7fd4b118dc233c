-- Rules T: where words of time code stand in a list of bits.
use Rattle.std.specs.Prelude.{ℕ, zero, suc, Bool, true, false, ◌&&◌, List, [], ◌∷◌, take, drop, eqb}
use Rattle.measure.specs.Choose.{choose}

-- T1: the last 16 bits of a word
abbrev pub mark : List ℕ
mark = 0 ∷ 0 ∷ 1 ∷ 1 ∷ 1 ∷ 1 ∷ 1 ∷ 1 ∷ 1 ∷ 1 ∷ 1 ∷ 1 ∷ 1 ∷ 1 ∷ 0 ∷ 1 ∷ []

-- the two lists have the same entries
abbrev pub same : (one other : List ℕ) → Bool
same [] [] = true
same [] (y ∷ other) = false
same (x ∷ one) [] = false
same (x ∷ one) (y ∷ other) = eqb x y && same one other

-- T2: a word stands at the front of these bits: the last 16 of 80 are the mark; where fewer are left none stands
abbrev pub stands : (bits : List ℕ) → Bool
stands bits = same (take 16 (drop 64 bits)) mark

-- T3: The places where words are found, if the first of these bits has the place `at` and the search passes over the
-- first `over`. A word found, it passes over the rest of the word's 80 bits; otherwise it goes one bit on.
unfoldable pub places : (over at : ℕ) (bits : List ℕ) → List ℕ
places over at [] = []
places (suc over) at (bit ∷ bits) = places over (suc at) bits
places zero at (bit ∷ bits) =
    choose (stands (bit ∷ bits)) (at ∷ places 79 (suc at) bits) (places zero (suc at) bits)

-- T3: all of them
abbrev pub word_places : (bits : List ℕ) → List ℕ
word_places bits = places 0 0 bits
