-- A time in range, of which each part keeps to its limit, and one out of range.
use mathlib.Core.Path.{◌≡◌}
use mathlib.Core.Bool.{true, false, ◌&&◌}
use mathlib.Core.List.{List}
use Prim.Native.Nat.{ℕ, ◌≤◌}
use lib.Dec.{leb}
use borrow.Author.Tests.{leb-true}
use Rattle.measure.specs.Refusals.{refused}
use Rattle.measure.proofs.Both.{both}
use Rattle.timecode.specs.Times.{time_fits}
use Rattle.timecode.specs.Answers.{write_time}

module _ (h m s f : ℕ) (fits : time_fits h m s f ≡ true) where
  upto_seconds : leb h 23 && leb m 59 && leb s 59 ≡ true
  upto_seconds = (both (leb h 23 && leb m 59 && leb s 59) (leb f 24) fits).0

  upto_minutes : leb h 23 && leb m 59 ≡ true
  upto_minutes = (both (leb h 23 && leb m 59) (leb s 59) upto_seconds).0

  pub fit_hours : h ≤ 23
  fit_hours = leb-true h 23 (both (leb h 23) (leb m 59) upto_minutes).0

  pub fit_minutes : m ≤ 59
  fit_minutes = leb-true m 59 (both (leb h 23) (leb m 59) upto_minutes).1

  pub fit_seconds : s ≤ 59
  fit_seconds = leb-true s 59 (both (leb h 23 && leb m 59) (leb s 59) upto_seconds).1

  pub fit_frames : f ≤ 24
  fit_frames = leb-true f 24 (both (leb h 23 && leb m 59 && leb s 59) (leb f 24) fits).1

-- a time out of range is refused, whatever is lent
pub unfit_refused : (h m s f : ℕ) (output : List ℕ) → time_fits h m s f ≡ false
    → write_time h m s f output ≡ (refused 1 0, output)
unfolding write_time
unfit_refused h m s f output unfit = rw unfit
