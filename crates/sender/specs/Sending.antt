-- Rules S: cells, the wave of a message, the wave of a plan.
use Rattle.std.specs.Prelude.{ℕ, ◌-◌, List, [], ◌∷◌, ◌++◌, replicate, take, drop, eqb}
use Rattle.measure.specs.Choose.{choose}

-- S2: the other of the two levels
abbrev pub opposite : ℕ → ℕ
opposite level = 1 - level

-- S3: the level of a cell's code subcell: a 1 brings back what was on the line before the cell, a 0 stays at the mark's
abbrev pub code_level : (before bit : ℕ) → ℕ
code_level before bit = choose (eqb bit 1) before (opposite before)

-- S2, S3, S4: The cells of bits, from the level before the first of them: each turns the line over for its mark, a
-- cycles long, and then has its code level for b. What is on the line then is before the next.
unfoldable pub cells : (a b before : ℕ) (bits : List ℕ) → List ℕ
cells a b before [] = []
cells a b before (bit ∷ bits) =
    replicate a (opposite before) ++ replicate b (code_level before bit) ++ cells a b (code_level before bit) bits

-- S10: so many high cycles
abbrev pub pad : ℕ → List ℕ
pad cycles = replicate cycles 1

-- S1, S10, S11: a wave: the lead pad, and the cells from high
unfoldable pub wave : (a b p1 : ℕ) (bits : List ℕ) → List ℕ
wave a b p1 bits = pad p1 ++ cells a b 1 bits

-- S20: a row of a plan: its own lead pad and bits
pub record Row : Type 0 where
  pub lead : ℕ
  pub bits : List ℕ

-- S21: a plan's wave: those of its rows in order, with nothing carried over from one to the next
unfoldable pub plan_wave : (a b : ℕ) (rows : List Row) → List ℕ
plan_wave a b [] = []
plan_wave a b (row ∷ rows) = wave a b row.lead row.bits ++ plan_wave a b rows

-- S22: the rows of a plan that is lent as two lists: lead pads, and the bits of all rows one after another, n for each
unfoldable pub rows_of : (n : ℕ) (leads bits : List ℕ) → List Row
rows_of n [] bits = []
rows_of n (p1 ∷ leads) bits = record { lead = p1; bits = take n bits } ∷ rows_of n leads (drop n bits)
