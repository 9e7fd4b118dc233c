-- Smooth, as the code goes about it: a cycle is known if it and the g cycles before it have one level. The private
-- functions promise each other what stands here; no public promise cites it.
use Rattle.std.specs.Prelude.{ℕ, zero, suc, ◌+◌, ◌-◌, ◌<◌, ◌≡◌, List, [], ◌∷◌, get_or, ltb}
use Rattle.measure.specs.Choose.{choose}
use Rattle.line.specs.Warp.{reconcile}

-- the levels of a list by their places
abbrev pub level_at : (levels : List ℕ) (i : ℕ) → ℕ
level_at levels i = get_or levels i 2

-- a wave with g high cycles before its first: cycle i stands at g + i
abbrev pub led : (g : ℕ) (wave : List ℕ) (i : ℕ) → ℕ
led g wave i = choose (ltb i g) 1 (level_at wave (i - g))

-- what the level at a place and the `more` after it agree on: the level that all of them have, and otherwise unknown
unfoldable pub agreeing : (W : ℕ → ℕ) (more start : ℕ) → ℕ
agreeing W zero start = W start
agreeing W (suc more) start = reconcile (agreeing W more (suc start)) (W start)

-- so many values one after another
unfoldable pub listed : (f : ℕ → ℕ) (from count : ℕ) → List ℕ
listed f from zero = []
listed f from (suc count) = f from ∷ listed f (suc from) count

-- each level with the one so many places after it
abbrev pub agreed_apart : (W : ℕ → ℕ) (apart i : ℕ) → ℕ
agreed_apart W apart i = reconcile (W (i + apart)) (W i)

-- a lent list has at its front what `reach + 1` levels of W agree on, from each of so many places on
abbrev pub Holds : (W : ℕ → ℕ) (reach start count : ℕ) → List ℕ → Type 0
Holds W reach start count held = (i : ℕ) → i < count → level_at held i ≡ agreeing W reach (start + i)

-- whatever W such a list is of, what `g + 1` of its levels agree on is what is found
abbrev pub Widens : (reach g count : ℕ) (held after : List ℕ) → Type 0
Widens reach g count held after =
    (W : ℕ → ℕ) (start : ℕ) → Holds W reach start (count + (g - reach)) held
    → listed (agreeing W g) start count ≡ after
