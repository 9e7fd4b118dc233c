-- Rules S: what is shown of reading a stored plan: nothing is lost but the cycles that are told of, and no lead pad
-- gets shorter.
use Rattle.std.specs.Prelude.{ℕ, ◌≤◌, ◌≡◌, List, ◌++◌, length, get_or}
use Rattle.sender.specs.Sending.{pad, plan_wave, rows_of}
use Rattle.stored.specs.Stored.{stored_wave, stored_rows_of, joined, dropped}

-- S35: the stored plan's wave is the wave of the plan that it is read into, followed by the cycles that are dropped
abbrev pub SameWave : Type 0
SameWave = (a b n : ℕ) (leads trails bits : List ℕ) → length trails ≡ length leads
    → stored_wave a b (stored_rows_of n leads trails bits)
    ≡ plan_wave a b (rows_of n (joined leads trails) bits) ++ pad (dropped trails)

-- S36: the plan has as many rows, and each has its stored lead pad or a longer one
pub record LeadsGrow (leads trails : List ℕ) : Type 0 where
  pub rows : length (joined leads trails) ≡ length leads
  pub longer : (row : ℕ) → get_or leads row 0 ≤ get_or (joined leads trails) row 0

-- S36: this holds of every stored plan
abbrev pub EveryLeadGrows : Type 0
EveryLeadGrows = (leads trails : List ℕ) → length trails ≡ length leads → LeadsGrow leads trails
