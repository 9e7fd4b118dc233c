-- What the rules ask to be shown of warp: which cycles a read looks at, what it then is, and how many reads there are.
use Rattle.std.specs.Prelude.{ℕ, zero, suc, ◌+◌, ◌*◌, ◌-◌, ◌/◌, ◌<◌, ◌≤◌, ◌≡◌, List, length, drop, get_or}
use Rattle.line.specs.Warp.{cycle_start, read_start, look, dropped, warp}

-- L25: cycle i and read j overlap: each starts before the other has ended
pub record Shares (starts reads : ℕ → ℕ) (j i : ℕ) : Type 0 where
  pub before_the_end : starts i < reads (suc j)
  pub after_the_start : reads j < starts (suc i)

-- L21: the first cycle that is left for read j: each read drops the cycles that end at or before its own end
unfoldable pub first_left : (starts reads : ℕ → ℕ) (levels : List ℕ) (j : ℕ) → ℕ
first_left starts reads levels zero = 0
first_left starts reads levels (suc j) =
    first_left starts reads levels j
    + dropped starts (reads (suc j)) (first_left starts reads levels j) (drop (first_left starts reads levels j) levels)

-- L22: read j looks at cycle i: it comes to it from the first one left, over cycles that are all over before the read
-- is
pub record LooksAt (starts reads : ℕ → ℕ) (levels : List ℕ) (j i : ℕ) : Type 0 where
  pub left : first_left starts reads levels j ≤ i
  pub over : (m : ℕ) → first_left starts reads levels j ≤ m → m < i → starts (suc m) < reads (suc j)

-- L23: v is read j: the level that the cycles sharing time with it all have, and otherwise unknown
pub record ReadIs (starts reads : ℕ → ℕ) (levels : List ℕ) (j v : ℕ) : Type 0 where
  -- where they all have one level, that is the read
  pub same : (x : ℕ) → ((i : ℕ) → i < length levels → Shares starts reads j i → get_or levels i 2 ≡ x) → v ≡ x
  -- a read that is not unknown is the level that each of them has
  pub known : (v ≡ 2 → ⊥) → (i : ℕ) → i < length levels → Shares starts reads j i → get_or levels i 2 ≡ v

-- L26: how many reads so many cycles have: as many whole reads as fit between the phase and their end, and none of no
-- cycle
abbrev pub read_count : (w r p cycles : ℕ) → ℕ
read_count w r p zero = 0
read_count w r p (suc cycles) = (suc cycles * w - p) / r

-- L25, L26: The laws of warp, for cycles of one length, reads of another and a phase
pub record WarpLaws (w r p : ℕ) (levels : List ℕ) : Type 0 where
  -- how many reads there are
  pub count : length (warp w r p levels) ≡ read_count w r p (length levels)
  -- read j is what is looked at from the first cycle left on
  pub looks : (j : ℕ) → j < length (warp w r p levels)
      → get_or (warp w r p levels) j 2
      ≡ look (cycle_start w) (read_start p r (suc j)) (first_left (cycle_start w) (read_start p r) levels j)
      (drop (first_left (cycle_start w) (read_start p r) levels j) levels)
  -- the cycles that read j looks at are those that share time with it, and no others
  pub looks_at_shared : (j i : ℕ) → j < length (warp w r p levels) → i < length levels
      → LooksAt (cycle_start w) (read_start p r) levels j i → Shares (cycle_start w) (read_start p r) j i
  pub shared_looked_at : (j i : ℕ) → j < length (warp w r p levels) → i < length levels
      → Shares (cycle_start w) (read_start p r) j i → LooksAt (cycle_start w) (read_start p r) levels j i
  -- and it is the level that they all have, else unknown
  pub is : (j : ℕ) → j < length (warp w r p levels)
      → ReadIs (cycle_start w) (read_start p r) levels j (get_or (warp w r p levels) j 2)

-- L25, L26: they hold of every wave, wherever a read takes time and the phase is below one writer cycle
abbrev pub WarpLawsHold : Type 0
WarpLawsHold = (w r p : ℕ) (levels : List ℕ) → 0 < r → p < w → WarpLaws w r p levels
