-- A receiver can be recovered from the numbers and bytes that it crosses as: each number is one of its fields, and each
-- mode has a number of its own. So a run of calls from C is a run of the operations.
use mathlib.Core.Path.{◌≡◌, refl}
use mathlib.Core.Bool.{true}
use Prim.Native.Nat.{◌≤◌}
use lib.Dec.{leb}
use borrow.Author.Tests.{le-leb}
use Rattle.board.specs.Packed.{mode_number}
use Rattle.board.specs.declared.Mode.{Mode}
use Rattle.board.specs.declared.Mode.TheVariants.{Hunting, Ready, Counting, Waiting}
use Rattle.board.specs.declared.Receiver.{Receiver}
use Rattle.siengulot.specs.Receivers.{mode_of, Named, named, numbers_of, numbers_fit, receiver_lent}

mode_recovered : (mode : Mode) → mode_of (mode_number mode) ≡ mode
mode_recovered Hunting = refl
mode_recovered Ready = refl
mode_recovered Counting = refl
mode_recovered Waiting = refl

mode_named : (mode : Mode) → leb (mode_number mode) 3 ≡ true
mode_named Hunting = refl
mode_named Ready = refl
mode_named Counting = refl
mode_named Waiting = refl

pub receiver_recovered : (x : Receiver) → receiver_lent (named (numbers_of x)) x.bits ≡ x
unfolding receiver_lent
receiver_recovered x = rw (mode_recovered x.bare.numbers.mode)

pub its_numbers_fit : (x : Receiver) → x.bare.numbers.runlevel ≤ 255 → x.bare.numbers.level ≤ 255
    → numbers_fit (named (numbers_of x)) ≡ true
its_numbers_fit x run byte =
    simp (
      mode_named x.bare.numbers.mode,
      le-leb x.bare.numbers.runlevel 255 run,
      le-leb x.bare.numbers.level 255 byte,
    )

-- numbers that name a mode and have a byte for each level make a receiver
pub made : (x : Named) → x.mode ≤ 3 → x.runlevel ≤ 255 → x.level ≤ 255 → numbers_fit x ≡ true
made x mode run level = simp (le-leb x.mode 3 mode, le-leb x.runlevel 255 run, le-leb x.level 255 level)
