-- Rules L, 2: warp, which is the recursion of source 002.
use Rattle.std.specs.Prelude.{ℕ, zero, suc, ◌+◌, ◌*◌, List, [], ◌∷◌, length, drop, eqb, leb, ltb}
use Rattle.measure.specs.Choose.{choose}

-- L20: A clock is given by when each of its cycles starts: the writer's cycle i at i·w.
abbrev pub cycle_start : (w i : ℕ) → ℕ
cycle_start w i = i * w

-- L20: and read j at p + j·r
abbrev pub read_start : (p r j : ℕ) → ℕ
read_start p r j = p + j * r

-- L23: two levels that are equal are that level, and otherwise unknown
abbrev pub reconcile : (one other : ℕ) → ℕ
reconcile one other = choose (eqb one other) one 2

-- L22: What a read that ends at time t is. It starts with cycle i, the first one left, and goes on to the next while
-- the cycle just looked at is over before t.
unfoldable pub look : (starts : ℕ → ℕ) (t i : ℕ) → List ℕ → ℕ
look starts t i [] = 2
look starts t i (level ∷ levels) =
    choose (ltb (starts (suc i)) t) (reconcile level (look starts t (suc i) levels)) level

-- L21: how many cycles, from cycle i on, are over by time t: the next read does without them
unfoldable pub dropped : (starts : ℕ → ℕ) (t i : ℕ) → List ℕ → ℕ
dropped starts t i [] = 0
dropped starts t i (level ∷ levels) = choose (leb (starts (suc i)) t) (suc (dropped starts t (suc i) levels)) 0

-- L24: The reads from read j on, with cycle i the first one left. There is a read only if it ends by `end`, when the
-- last writer cycle is over.
-- The first argument bounds how many are made, so that the recursion ends.
unfoldable pub warp_from : (most : ℕ) (starts reads : ℕ → ℕ) (end j i : ℕ) → List ℕ → List ℕ
warp_from zero starts reads end j i levels = []
warp_from (suc most) starts reads end j i levels =
    choose (leb (reads (suc j)) end)
    (look starts (reads (suc j)) i levels
    ∷ warp_from most starts reads end (suc j) (i + dropped starts (reads (suc j)) i levels)
    (drop (dropped starts (reads (suc j)) i levels) levels))
    []

-- L21, L24: a wave warped by two clocks: no read is shorter than one time unit, so there are at most as many as the
-- wave has units
abbrev pub warp_by : (starts reads : ℕ → ℕ) → List ℕ → List ℕ
warp_by starts reads levels = warp_from (starts (length levels)) starts reads (starts (length levels)) 0 0 levels

-- L20: the pass, with the rules' two clocks
unfoldable pub warp : (w r p : ℕ) → List ℕ → List ℕ
warp w r p levels = warp_by (cycle_start w) (read_start p r) levels
