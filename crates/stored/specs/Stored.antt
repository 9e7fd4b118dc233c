-- Rules S: plans as they are stored, with a trail pad after each row, and the plans that they are read into. A wave
-- with trail pads is defined in this room alone.
use Rattle.std.specs.Prelude.{ℕ, ◌+◌, List, [], ◌∷◌, ◌++◌, take, drop}
use Rattle.sender.specs.Sending.{pad, wave}

-- S30: a row of a stored plan: its own lead pad, trail pad and bits
pub record StoredRow : Type 0 where
  pub lead : ℕ
  pub trail : ℕ
  pub bits : List ℕ

-- S31: a stored plan's wave: for each row the wave of its bits, and then its trail pad
unfoldable pub stored_wave : (a b : ℕ) (rows : List StoredRow) → List ℕ
stored_wave a b [] = []
stored_wave a b (row ∷ rows) = wave a b row.lead row.bits ++ (pad row.trail ++ stored_wave a b rows)

-- S30: the rows of a stored plan: the next lead pad, the next trail pad and the next n bits for each
unfoldable pub stored_rows_of : (n : ℕ) (leads trails bits : List ℕ) → List StoredRow
stored_rows_of n [] trails bits = []
stored_rows_of n (lead ∷ leads) [] bits = []
stored_rows_of n (lead ∷ leads) (trail ∷ trails) bits =
    record { lead = lead; trail = trail; bits = take n bits } ∷ stored_rows_of n leads trails (drop n bits)

-- S32: The lead pads of a stored plan joined with its trail pads: what stands before a row is added to its lead pad,
-- and its trail pad stands before the next.
unfoldable pub joined_leads : (before : ℕ) (leads trails : List ℕ) → List ℕ
joined_leads before [] trails = []
joined_leads before (lead ∷ leads) [] = []
joined_leads before (lead ∷ leads) (trail ∷ trails) = (before + lead) ∷ joined_leads trail leads trails

-- S32: the joined lead pads of a whole plan: nothing stands before its first row
abbrev pub joined : (leads trails : List ℕ) → List ℕ
joined leads trails = joined_leads 0 leads trails

-- S33: what stands after the last row: the last trail pad, or what was before where there is none
unfoldable pub last_trail : (before : ℕ) (trails : List ℕ) → ℕ
last_trail before [] = before
last_trail before (trail ∷ trails) = last_trail trail trails

-- S33: the cycles that are dropped: no row follows them
abbrev pub dropped : (trails : List ℕ) → ℕ
dropped trails = last_trail 0 trails
