-- A reader that a caller can have stands among its bytes: a number that was read ends within them.
use Rattle.std.proofs.Common.{ℕ, ◌≤◌, refl, List, arith, Bor, length, drop, length-drop}
use Rattle.capture.specs.Numbers.{Group, value, cut, long, group, further, placed, number_at}
use Rattle.capture.specs.Held.{place_after, Reached, at_first, moved, Stands}
use Rattle.capture.specs.declared.held.CaptureReader.{CaptureReader}
use Rattle.capture.proofs.Groups.{Ends, group_ends}

after_within : (s : List ℕ) (at : ℕ) → at ≤ length s → place_after at (number_at s at) ≤ length s
unfolding number_at
after_within s at h = go (group further (drop at s)) (group_ends further (drop at s))
  where
    go : (g : Group) → Ends (length (drop at s)) g → place_after at (placed at g) ≤ length s
    go (value v size) (some, most) = omega (arith, length-drop at s)
    go cut ends = h
    go long ends = h

pub reached_stands : (src : Bor (List ℕ)) (r : CaptureReader) → Reached src r → Stands src r
reached_stands src r at_first = record { keeps = refl; among = omega arith }
reached_stands src r (moved {r = before} so) =
    let stands = reached_stands src before so in
    record { keeps = stands.keeps; among = after_within before.src.now before.at stands.among }
