-- Pieces of text put one after another, each where the one before it ends, are their joined list put there: five from
-- any place on, and six that are lent whole.
use Rattle.std.proofs.Common.{◌≡◌, ap, ◌∙◌, List, [], ◌++◌, append_assoc, append-nil, ℕ, suc, ◌+◌, ◌≤◌, ◌<◌, arith}
use Rattle.std.proofs.Common.{le-leb, ℤ, pos, negsuc, length, length-append}
use Rattle.measure.specs.Refusals.{given, refused, lent}
use Rattle.measure.proofs.Stores.{Stored, stored_none, stored_part, stored_next, stored_all}
use Rattle.settings.specs.declared.surveying.Smallest.{Smallest}
use Rattle.text.specs.Decimal.{decimal, signed_decimal}
use Rattle.text.specs.Putting.{put_at}
use Rattle.text.proofs.Digits.{decimal_most}
use Rattle.text.proofs.PutLaws.{length_five, put_whole, put_gives, put_next, put_last, one_short}
use Rattle.region.specs.Lines.{at_text, feed, margin_line}

-- a signed number has a byte more than its digits at most
pub signed_most : (v : ℤ) → length (signed_decimal v) ≤ 21
signed_most (pos n) = omega (arith, decimal_most n)
signed_most (negsuc n) = omega (arith, decimal_most (suc n))

pub signed_size_most : (v : ℤ) {size : ℕ} → size ≡ length (signed_decimal v) → size ≤ 21
signed_size_most v e = omega (arith, signed_most v)

-- of a line that has room from a place on, a piece is put, and what follows it is still to come
goes_on : {output line stored : List ℕ} {from at : ℕ} (piece rest : List ℕ) {left : List ℕ} {end : ℕ}
    → from + length line ≤ length output → Stored output from line stored at (piece ++ rest)
    → put_at piece at stored ≡ (end, left) → Stored output from line left end rest
goes_on {stored = stored} {at = at} piece rest {left} {end} room q e =
    let put = put_gives piece at stored end left (stored_next piece rest q room) e in
    stored_part piece left end q put.1 put.0

-- how long the line of a margin is, by its pieces
pub line_length : (name : List ℕ) (m : Smallest)
    → length (margin_line name m) ≡ length name + length (signed_decimal m.margin) + length (decimal m.place) + 5
line_length name m =
    omega (arith, length_five name (signed_decimal m.margin) at_text (decimal m.place) feed [])

pub line_most : (name : List ℕ) (m : Smallest) → length (margin_line name m) ≤ length name + 46
line_most name m = omega (arith, line_length name m, signed_most m.margin, decimal_most m.place)

module _ (a b c d z : List ℕ) (at : ℕ) (output : List ℕ) where
  abbrev line : List ℕ
  line = a ++ (b ++ (c ++ (d ++ (z ++ []))))

  in_order : a ++ b ++ c ++ d ++ z ≡ line
  in_order = simp (append_assoc, append-nil)

  pub put_from : {one two three four left : List ℕ} {at_one at-two at-three at-four end : ℕ}
      → at + length (a ++ b ++ c ++ d ++ z) ≤ length output
      → put_at a at output ≡ (at_one, one) → put_at b at_one one ≡ (at-two, two) → put_at c at-two two ≡ (at-three, three)
      → put_at d at-three three ≡ (at-four, four) → put_at z at-four four ≡ (end, left)
      → put_at (a ++ b ++ c ++ d ++ z) at output ≡ (end, left)
  put_from {left = left} {end = end} h e f g i j =
      let room : at + length line ≤ length output = rw (← in_order) h in
      let done =
      goes_on z [] room
      (goes_on d (z ++ []) room
      (goes_on c (d ++ (z ++ [])) room
      (goes_on b (c ++ (d ++ (z ++ []))) room
      (goes_on a (b ++ (c ++ (d ++ (z ++ [])))) room (stored_none output at line) e) f) g) i) j in
      let reach : at + length line ≡ end = omega (arith, done.reach) in
      rw in_order
      (put_whole line at output (le-leb _ _ room)
      ∙ rw (reach, ← stored_all done))

module _ (a b c d e f output : List ℕ) where
  pub length_six : length (a ++ b ++ c ++ d ++ e ++ f)
      ≡ length a + length b + length c + length d + length e + length f
  length_six = simp length-append

  pub six_short : length output < length a + length b + length c + length d + length e + length f
      → lent (a ++ b ++ c ++ d ++ e ++ f) output ≡ (refused 4 0, output)
  six_short h = one_short (a ++ b ++ c ++ d ++ e ++ f) output (omega (arith, length_six))

  pub put_six : {one two three four five left : List ℕ} {at_one at-two at-three at-four at_five end : ℕ}
      → length a + length b + length c + length d + length e + length f ≤ length output
      → put_at a 0 output ≡ (at_one, one) → put_at b at_one one ≡ (at-two, two) → put_at c at-two two ≡ (at-three, three)
      → put_at d at-three three ≡ (at-four, four) → put_at e at-four four ≡ (at_five, five)
      → put_at f at_five five ≡ (end, left) → lent (a ++ b ++ c ++ d ++ e ++ f) output ≡ (given end, left)
  put_six h g i j k l m =
      let same : a ++ b ++ c ++ d ++ e ++ f ≡ a ++ (b ++ (c ++ (d ++ (e ++ f)))) = simp append_assoc in
      let room : length (a ++ (b ++ (c ++ (d ++ (e ++ f))))) ≤ length output =
      omega (arith, length_six, ap length same) in
      rw same
      (put_last room f _ _
      (put_next room e _ _
      (put_next room d _ _
      (put_next room c _ _
      (put_next room b _ _ (put_next room a _ _ (stored_none output 0 (a ++ (b ++ (c ++ (d ++ (e ++ f)))))) g) i) j)
      k) l) m)
