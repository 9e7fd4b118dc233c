-- A wave laid down part by part, and what is answered of it.
use Rattle.std.proofs.Common.{◌≡◌, sym, ◌∙◌, List, ◌++◌, append_assoc, ℕ, ◌+◌, ◌<◌, ◌≤◌, arith, length, replicate}
use Rattle.std.proofs.Common.{take, drop, length-take-le, length-drop, drop-drop, lt-ltb, le-ltb}
use Rattle.std.proofs.lemmas.List.{length-replicate}
use lib.Seq.{sets, sets-eq}
use borrow.Rule.Slice.PartMut.{put_mid}
use Rattle.measure.specs.Lists.{onto}
use Rattle.measure.specs.Refusals.{given, refused, lent}
use Rattle.measure.proofs.Laid.{sets_joined, laid_first}

-- where the first part is laid down already, the second stands from the place after it on
pub placed_next : (out next : List ℕ) (at after : ℕ) (first second : List ℕ) → sets out at first ≡ next
    → at + length first ≡ after
    → sets out at (first ++ second) ≡ sets next after second
placed_next out next at after first second laid place = sym (sets_joined out first second at) ∙ rw (laid, place)

-- with room, a wave that was laid down is what is answered; without, nothing is
pub lent_placed : (result out last : List ℕ) (size : ℕ) → length result ≡ size → size ≤ length out
    → sets out 0 result ≡ last → lent result out ≡ (given size, last)
lent_placed result out last size e h laid =
    let front : onto result out ≡ last = sym (laid_first result out (omega arith)) ∙ laid in
    rw (le-ltb (length out) (length result) (omega arith), front, e)

pub lent_short : (result out : List ℕ) (size : ℕ) → length result ≡ size → length out < size
    → lent result out ≡ (refused 4 0, out)
lent_short result out size e h = rw (lt-ltb (length out) (length result) (omega arith))

-- a part of an output that was filled with one level
pub filled : (out : List ℕ) {part : List ℕ} (at k count level : ℕ) → k ≡ count → at + count ≤ length out
    → part ≡ replicate (length (take k (drop at out))) level
    → put_mid at k out part ≡ sets out at (replicate count level)
filled out at k count level e h is =
    let size : length (take k (drop at out)) ≡ count = length-take-le k (drop at out) (rw length-drop (omega arith)) ∙ e in
    rw (is, size, sets-eq (replicate count level) out at (rw length-replicate h), length-replicate, append_assoc, e)
    (rw (drop-drop count at out))
