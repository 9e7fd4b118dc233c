-- Numbers in the bits of a word: each bit is the lowest of those from it on, and four bits make no more than 15.
use Rattle.std.proofs.Common.{◌≡◌, ℕ, zero, suc, ◌+◌, ◌*◌, ◌≤◌, ◌^◌, List, false, add-one, get_or, arith}
use native.Mathlib.Nat.{pow-succ'}
use Rattle.measure.specs.Lists.{some_above}
use Rattle.measure.proofs.LevelLaws.{most_at, most_none_some}
use Rattle.timecode.specs.Times.{number}

-- the number with one bit more at its high end
pub number_last : (count from : ℕ) (word : List ℕ)
    → number (suc count) from word ≡ number count from word + 2 ^ count * get_or word (from + count) 0
number_last zero from word =
    let here : from + 0 ≡ from = omega arith in
    rw here (omega arith)
number_last (suc count) from word =
    let next : from + suc count ≡ suc from + count = omega arith in
    rw (next, pow-succ' 2 count) (omega (arith, number_last count (suc from) word))

pub number_more : (i at n weight : ℕ) (word : List ℕ) → n ≡ number i at word → weight ≡ 2 ^ i
    → (n + weight * get_or word (at + i) 0 ≡ number (i + 1) at word) × (weight * 2 ≡ 2 ^ (i + 1))
number_more i at n weight word e f =
    (rw (add-one, number_last i at word, e, f), rw (add-one, pow-succ' 2 i, f) (omega arith))

pub weighed : (weight bit : ℕ) → bit ≤ 1 → weight * bit ≤ weight
weighed weight zero h = omega arith
weighed weight (suc zero) h = omega arith
weighed weight (suc (suc bit)) h = absurd (omega arith)

pub weight_most : (i : ℕ) → i ≤ 4 → 2 ^ i ≤ 16
weight_most zero h = omega arith
weight_most (suc zero) h = omega arith
weight_most (suc (suc zero)) h = omega arith
weight_most (suc (suc (suc zero))) h = omega arith
weight_most (suc (suc (suc (suc zero)))) h = omega arith
weight_most (suc (suc (suc (suc (suc i))))) h = absurd (omega arith)

module _ (word : List ℕ) (bits : some_above 1 word ≡ false) where
  pub bit_most : (i : ℕ) → get_or word i 0 ≤ 1
  bit_most i = most_at 1 word (most_none_some 1 word bits) i

  pub number_most : (count from : ℕ) → count ≤ 4 → number count from word ≤ 15
  number_most zero from h = omega arith
  number_most (suc zero) from h = omega (arith, bit_most from)
  number_most (suc (suc zero)) from h = omega (arith, bit_most from, bit_most (suc from))
  number_most (suc (suc (suc zero))) from h =
      omega (arith, bit_most from, bit_most (suc from), bit_most (suc (suc from)))
  number_most (suc (suc (suc (suc zero)))) from h =
      omega (arith, bit_most from, bit_most (suc from), bit_most (suc (suc from)), bit_most (suc (suc (suc from))))
  number_most (suc (suc (suc (suc (suc count))))) from h = absurd (omega arith)
