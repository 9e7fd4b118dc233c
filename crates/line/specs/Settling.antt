-- What the rules say of smooth, cycle by cycle and in their own words.
use Rattle.std.specs.Prelude.{ℕ, zero, suc, ◌-◌, ◌<◌, ◌≤◌, ◌≡◌, ◌≢◌, List, length, get_or}
use Rattle.measure.specs.Levels.{Levels}
use Rattle.line.specs.Smooth.{smooth}

-- L10, L11: the level before a cycle, which is high for the first
abbrev pub level_before : (levels : List ℕ) (cycle : ℕ) → ℕ
level_before levels zero = 1
level_before levels (suc before) = get_or levels before 2

-- L10: the level changes at a cycle
abbrev pub Changes : (levels : List ℕ) (cycle : ℕ) → Type 0
Changes levels cycle = get_or levels cycle 2 ≢ level_before levels cycle

-- L10: it changes at cycle i or at one of the g - 1 cycles before it
pub record Unsettled (g : ℕ) (levels : List ℕ) (i : ℕ) : Type 0 where
  pub back : ℕ
  pub near : back < g
  pub there : back ≤ i
  pub changes : Changes levels (i - back)

-- L10: there are as many cycles as before, the unknown ones are those that are not settled, and every other stays
pub record Smooths (g : ℕ) (levels : List ℕ) : Type 0 where
  pub count : length (smooth g levels) ≡ length levels
  pub unknown : (i : ℕ) → i < length levels → Unsettled g levels i → get_or (smooth g levels) i 2 ≡ 2
  pub only : (i : ℕ) → i < length levels → get_or (smooth g levels) i 2 ≡ 2 → Unsettled g levels i
  pub stays : (i : ℕ) → i < length levels → (Unsettled g levels i → ⊥) → get_or (smooth g levels) i 2 ≡ get_or levels i 2

-- L10: they hold of every wave and every settling count from 1 on
abbrev pub SmoothLawsHold : Type 0
SmoothLawsHold = (g : ℕ) (levels : List ℕ) → 0 < g → Levels levels → Smooths g levels
