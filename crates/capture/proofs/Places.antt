-- Numbers at a place of bytes: what the code learns of one is small, and ends within the bytes.
use Rattle.std.proofs.Common.{ℕ, ◌+◌, ◌≤◌, ◌<◌, ◌≡◌, List, arith, length, drop, length-drop, get_or-drop}
use Rattle.measure.specs.Refusals.{given}
use Rattle.capture.specs.Numbers.{Group, value, cut, long, following, group, further, bound, Numeral, placed}
use Rattle.capture.specs.Numbers.{number_at}
use Rattle.capture.proofs.Groups.{Ends, group_ends, Bytes, Within, bound_le, following_within, group_within}

pub bytes_from : (s : List ℕ) (at : ℕ) → Bytes s → Bytes (drop at s)
bytes_from s at b i = rw get_or-drop (b (at + i))

-- what is learnt of a number that follows a byte: its value and its bytes leave room for one group more
pub following_small : (s : List ℕ) (at more : ℕ) {v size : ℕ} → Bytes s → more < further
    → following more (drop at s) ≡ value v size → (v < bound further) × (size ≤ further)
following_small s at more {v} {size} b h e =
    let w : Within more (length (drop at s)) (value v size) =
    rw e at (following_within more (drop at s) (bytes_from s at b)) in
    omega (arith, bound_le more further (omega arith))

-- what is learnt of a number whose first byte stands at a place
pub front_small : (s : List ℕ) (at : ℕ) {v size : ℕ} → Bytes s → group further (drop at s) ≡ value v size
    → at + size ≤ length s
front_small s at {v} {size} b e =
    let w : Within further (length (drop at s)) (value v size) =
    rw e at (group_within further (drop at s) (bytes_from s at b)) in
    omega (arith, length-drop at s)

-- whatever the entries are, a number ends after its place
pub number_on : (s : List ℕ) (at : ℕ) (n : Numeral) → number_at s at ≡ given n → at < n.after
unfolding number_at
number_on s at n = go (group further (drop at s)) (group_ends further (drop at s))
  where
    go : (g : Group) → Ends (length (drop at s)) g → placed at g ≡ given n → at < n.after
    go (value v size) (some, most) e = let h : at + size ≡ n.after = cc in omega arith
    go cut some e = let z : ◌≡◌ {A = ℕ} 0 1 = cc in absurd (omega arith)
    go long some e = let z : ◌≡◌ {A = ℕ} 0 1 = cc in absurd (omega arith)
