-- A number is spelled group by group: the lowest seven bits, then what is left of it, until that is below 128.
use Rattle.std.proofs.Common.{ℕ, zero, suc, ◌+◌, ◌/◌, ◌%◌, ◌^◌, ◌≤◌, ◌<◌, ◌≡◌, refl, List, [], ◌∷◌, arith, length}
use Rattle.std.proofs.Common.{lt-ltb, le-ltb}
use native.Mathlib.Decide.{dec_le}
use native.Mathlib.Nat.{pow-succ'}
use Rattle.capture.specs.Numbers.{further, bound, grouped, spelled}
use Rattle.capture.proofs.Groups.{bound_suc}
use Rattle.capture.proofs.Sinks.{Taking, Lawful, taking_none, taking_part, taking_all, taking_room}

pub grouped_one : (more v : ℕ) → v < 128 → grouped more v ≡ v ∷ []
unfolding grouped
grouped_one zero v h = refl
grouped_one (suc more) v h = simp (lt-ltb v 128 h)

pub grouped_on : (more v : ℕ) → 128 ≤ v → grouped (suc more) v ≡ (v % 128 + 128) ∷ grouped more (v / 128)
unfolding grouped
grouped_on more v h = simp (le-ltb v 128 h)

-- a number of more than one group, and what is left of it after the lowest
pub record On (more v : ℕ) : Type 0 where
  pub fewer : ℕ
  pub one_more : more ≡ suc fewer
  pub low : v / 128 < bound fewer
  pub is : grouped more v ≡ (v % 128 + 128) ∷ grouped fewer (v / 128)

pub on : (more v : ℕ) → 128 ≤ v → v < bound more → On more v
on zero v h l = absurd (omega arith)
on (suc more) v h l =
    record { fewer = more; one_more = refl; low = omega (arith, bound_suc more); is = grouped_on more v h }

-- how many bytes a number has
pub size_some : (more v : ℕ) → 1 ≤ length (grouped more v)
unfolding grouped
size_some zero v = omega arith
size_some (suc more) v = go (dec_le 128 v)
  where
    go : Dec (128 ≤ v) → 1 ≤ length (grouped (suc more) v)
    go (yes h) = rw (grouped_on more v h) (omega arith)
    go (no h) = rw (grouped_one (suc more) v (omega arith)) (omega arith)

pub size_most : (more v : ℕ) → length (grouped more v) ≤ more + 1
unfolding grouped
size_most zero v = omega arith
size_most (suc more) v = go (dec_le 128 v) (size_most more (v / 128))
  where
    go : Dec (128 ≤ v) → length (grouped more (v / 128)) ≤ more + 1 → length (grouped (suc more) v) ≤ suc more + 1
    go (yes h) rest = rw (grouped_on more v h) (omega arith)
    go (no h) rest = rw (grouped_one (suc more) v (omega arith)) (omega arith)

pub size_low : (more v : ℕ) → length (grouped more v) ≤ v + 1
unfolding grouped
size_low zero v = omega arith
size_low (suc more) v = go (dec_le 128 v) (size_low more (v / 128))
  where
    go : Dec (128 ≤ v) → length (grouped more (v / 128)) ≤ v / 128 + 1 → length (grouped (suc more) v) ≤ v + 1
    go (yes h) rest = rw (grouped_on more v h) (omega arith)
    go (no h) rest = rw (grouped_one (suc more) v (omega arith)) (omega arith)

-- a number that is not 0 has at most as many bytes as its value
pub size_run : (more v : ℕ) → 1 ≤ v → length (grouped more v) ≤ v
unfolding grouped
size_run zero v l = omega arith
size_run (suc more) v l = go (dec_le 128 v)
  where
    go : Dec (128 ≤ v) → length (grouped (suc more) v) ≤ v
    go (yes h) = rw (grouped_on more v h) (omega (arith, size_low more (v / 128)))
    go (no h) = rw (grouped_one (suc more) v (omega arith)) (omega arith)

-- a number that some groups can say has no more bytes than groups
pub size_groups : (more groups v : ℕ) → v < 128 ^ suc groups → length (grouped more v) ≤ suc groups
unfolding grouped
size_groups zero groups v l = omega arith
size_groups (suc more) zero v l = rw (grouped_one (suc more) v (omega (arith, pow-succ' 128 zero))) (omega arith)
size_groups (suc more) (suc groups) v l = go (dec_le 128 v) (size_groups more groups (v / 128))
  where
    go : Dec (128 ≤ v) → (v / 128 < 128 ^ suc groups → length (grouped more (v / 128)) ≤ suc groups)
        → length (grouped (suc more) v) ≤ suc (suc groups)
    go (yes h) rest = rw (grouped_on more v h) (omega (arith, rest (omega (arith, pow-succ' 128 (suc groups)))))
    go (no h) rest = rw (grouped_one (suc more) v (omega arith)) (omega arith)

-- a number that is put into a sink: its bytes so far, and those of what is left
pub record Put {S : Type 0} (took : S → List ℕ → S → Type 0) (v : ℕ) (s₀ : S) (left : ℕ) (s : S) : Type 0 where
  pub more : ℕ
  pub low : left < bound more
  pub taking : Taking took s₀ (spelled v) s (grouped more left)

module _ {S : Type 0} {room : S → ℕ} {took : S → List ℕ → S → Type 0} (laws : Lawful room took) where
  pub put_none : (v : ℕ) (s : S) → v < bound further → Put took v s v s
  put_none v s h = record { more = further; low = h; taking = taking_none laws s (spelled v) }

  module _ {v left : ℕ} {s₀ s : S} (q : Put took v s₀ left s) where
    -- there is room for a byte
    pub put_room : length (spelled v) ≤ room s₀ → 0 < room s
    put_room h = omega (arith, taking_room laws q.taking h, size_some q.more left)

    pub put_one : (s' : S) → 128 ≤ left → took s ((left % 128 + 128) ∷ []) s' → Put took v s₀ (left / 128) s'
    put_one s' h e =
        let o : On q.more left = on q.more left h q.low in
        record {
          more = o.fewer;
          low = o.low;
          taking = taking_part laws ((left % 128 + 128) ∷ []) s' (rw o.is at q.taking) e;
        }

    pub put_all : (s' : S) → left < 128 → took s (left ∷ []) s' → took s₀ (spelled v) s'
    put_all s' h e = taking_all laws (taking_part laws (left ∷ []) s' (rw (grouped_one q.more left h) at q.taking) e)
