-- Rule B26: whatever is read, the state that comes back is well formed.
use Rattle.std.specs.Prelude.{ℕ, ◌≡◌, true, List}
use Rattle.measure.specs.Ranges.{row_settings_fit}
use Rattle.board.specs.WellFormed.{well_formed}
use Rattle.board.specs.Answers.{begun, stepped, listened}
use Rattle.board.specs.declared.Receiver.{Receiver}

-- B26, R30: A receiver that is started with settings in range is well formed, and each call hands on a well formed one
-- where it was given one, also where it refuses.
pub record EveryStep : Type 0 where
  pub fresh : (k n Q : ℕ) → row_settings_fit k n Q ≡ true → well_formed (begun k n Q).1 ≡ true
  pub step : (x : Receiver) (read : ℕ) → well_formed x ≡ true → well_formed (stepped x read).receiver ≡ true
  pub listen : (x : Receiver) (reads : List ℕ) → well_formed x ≡ true → well_formed (listened x reads).0.receiver ≡ true
