-- What a read gives stands after what was read before it, so both together stand at the front of the list.
use Rattle.std.proofs.Common.{◌≡◌, ℕ, ◌+◌, ◌-◌, ◌≤◌, List, ◌++◌, rules, arith, length, take, slice_range, sym, ap, ◌∙◌, subst, le_refl, drop_at, length-take-le}
use Rattle.std.proofs.lemmas.Slice.{take-put_mid_below}
use Rattle.std.specs.Io.KnownBytes.{Consumes}
use Rattle.std.proofs.KnownBytes.{Consumes-trans}
use borrow.Rule.Slice.PartMut.{put_mid, post_of}
use lib.Seq.{take-add, take-append-le}
use Rattle.input.proofs.read_full.Goals as goal

-- a front that stays, and what follows it up to a place
two_parts : (a b : ℕ) (old new : List ℕ) → a ≤ b → take a new ≡ take a old
    → take a old ++ slice_range new a b ≡ take b new
two_parts a b old new h front =
    let same : a + (b - a) ≡ b = omega arith in
    ap (λ l. l ++ slice_range new a b) (sym front) ∙ sym (take-add a (b - a) new) ∙ ap (λ n. take n new) same

-- the first n entries of a part that was written
part_read : (a k n : ℕ) (xs ys : List ℕ) → a ≤ length xs → n ≤ length ys
    → slice_range (put_mid a k xs ys) a (a + n) ≡ take n ys
part_read a k n xs ys within fits =
    let same : (a + n) - a ≡ n = omega arith in
    let after = post_of a k xs in
    ap (take ((a + n) - a)) (drop_at (take a xs) (ys ++ after) a (length-take-le a xs within))
    ∙ ap (λ m. take m (ys ++ after)) same
    ∙ take-append-le n ys after fits

pub loop-done-preserved : goal.loop-done-preserved
loop-done-preserved g c =
    let from = c.loop-done.done in
    let list = c.loop-done.into in
    let room = length list - from in
    let within = c.loop-done.invariant.within in
    let part = part_read from room c.in_ok-n.n list c.read.new.buf within c.in_ok-n.ensures.bound.0 in
    let joined =
    two_parts from (from + c.in_ok-n.n) list (put_mid from room list c.read.new.buf) (omega arith)
    (take-put_mid_below _ _ _ _ _ (le_refl _) within) in
    record {
      within = search rules;
      size = search rules;
      bytes = subst (Consumes _ _) (ap (λ l. take from list ++ l) (sym part) ∙ joined)
          (Consumes-trans _ _ _ _ _ c.loop-done.invariant.bytes c.in_ok-n.ensures.bytes.0);
    }
