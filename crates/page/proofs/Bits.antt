-- A row's bits on its line: each bit is one byte of text, and there are as many as are asked for, or all where they are
-- fewer.
use Rattle.std.proofs.Common.{◌-◌, drop, length-drop, Some, ◌≡◌, refl, sym, ap, ◌∙◌, List, [], ◌∷◌, ℕ, zero, suc, ◌*◌, ◌/◌, ◌≤◌, ◌<◌, arith, length, take, get_or, length-take, length-take-le, take_all}
use Rattle.std.proofs.lemmas.List.{ext_get_or, get_or-take}
use borrow.Rule.Slice.PartMut.{put_mid}
use Rattle.board.specs.Packed.{unpacked}
use Rattle.board.proofs.PackedBits.{length_unpacked}
use Rattle.text.specs.Decimal.{digit}
use Rattle.text.specs.Putting.{put_at, end_within}
use Rattle.text.proofs.PutLaws.{end_found, part_put}
use Rattle.page.specs.Words.{bits_text}

-- bits as text
pub text_length : (bits : List ℕ) → length (bits_text bits) ≡ length bits
unfolding bits_text
text_length [] = refl
text_length (bit ∷ bits) = ap suc (text_length bits)

pub text_at : (bits : List ℕ) (i : ℕ) → i < length bits → get_or (bits_text bits) i 0 ≡ digit (get_or bits i 0)
unfolding bits_text
text_at [] i h = absurd (omega arith)
text_at (bit ∷ bits) zero h = refl
text_at (bit ∷ bits) (suc i) h = text_at bits i (omega arith)

-- how many bits there are of n that are asked for
pub held_some : (bytes : List ℕ) (n : ℕ) → n / 8 < length bytes → n ≡ length (take n (unpacked 8 bytes))
held_some bytes n h = sym (length-take-le n (unpacked 8 bytes) (omega (arith, length_unpacked 8 bytes)))

pub held_all : (bytes : List ℕ) (n : ℕ) → length bytes ≤ n / 8 → length bytes * 8 ≡ length (take n (unpacked 8 bytes))
held_all bytes n h =
    sym (rw (take_all n (unpacked 8 bytes) (omega (arith, length_unpacked 8 bytes))) (length_unpacked 8 bytes))

pub taken_within : (n : ℕ) (l : List ℕ) → length (take n l) ≤ length l
taken_within n l = omega (arith, length-take n l)

pub taken_again : (n : ℕ) (l : List ℕ) → take (length (take n l)) l ≡ take n l
taken_again zero l = refl
taken_again (suc n) [] = refl
taken_again (suc n) (x ∷ l) = rw (taken_again n l)

-- a part of the output that has room for the first bits, so many, as text
module _ (n : ℕ) (packed output : List ℕ) (at end : ℕ)
    (room : end_within at (length (bits_text (take n (unpacked 8 packed)))) (length output) ≡ Some end) where
  pub part_size : length (take (end - at) (drop at output)) ≡ length (take n (unpacked 8 packed))
  part_size =
      let found = end_found _ _ _ _ room in
      omega (
        arith,
        found.0,
        found.1,
        text_length (take n (unpacked 8 packed)),
        length-take (end - at) (drop at output),
        length-drop at output,
      )

  -- a place of that part has a bit
  pub part_bit : (i : ℕ) → i < length (take (end - at) (drop at output)) → i / 8 < length packed
  part_bit i h =
      omega (arith, part_size, taken_within n (unpacked 8 packed), length_unpacked 8 packed)

  -- once each of its places has its bit, they are put
  pub bits_put : (part : List ℕ) → length part ≡ length (take (end - at) (drop at output))
      → ((k : ℕ) → k < length part → get_or part k 0 ≡ digit (get_or (unpacked 8 packed) k 0))
      → put_at (bits_text (take n (unpacked 8 packed))) at output ≡ (end, put_mid at (end - at) output part)
  bits_put part size each =
      let all = take n (unpacked 8 packed) in
      let one : (k : ℕ) → k < length part → get_or part k 0 ≡ get_or (bits_text all) k 0 =
      λ k h. each k h
      ∙ ap digit (sym (get_or-take n (unpacked 8 packed) k 0 (omega (arith, size, part_size, length-take n (unpacked 8 packed)))))
      ∙ sym (text_at all k (omega (arith, size, part_size))) in
      let same : part ≡ bits_text all =
      ext_get_or 0 part (bits_text all) (omega (arith, size, part_size, text_length all)) one in
      rw same (part_put (bits_text all) output at end room)
