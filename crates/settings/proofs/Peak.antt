-- The least of three numbers, of which one stays, one rises and one falls: it rises as long as the rising one is below
-- the others and never rises afterwards, so it is greatest at the last place where it rises or at the next.
use Rattle.std.proofs.Common.{ℕ, ◌+◌, ◌≤◌, ◌<◌, min, ◌≡◌, ◌⊎◌, inl, inr, arith}
use native.Mathlib.Decide.{dec_le}

-- from 1 to `most`, k is the first place at which `of` is greatest
pub record Greatest (of : ℕ → ℕ) (most k : ℕ) : Type 0 where
  pub first : 1 ≤ k
  pub last : k ≤ most
  pub none_better : (j : ℕ) → 1 ≤ j → j ≤ most → of j ≤ of k
  pub smaller_worse : (j : ℕ) → 1 ≤ j → j < k → of j < of k

-- the least at k of one that stays, one that rises and one that falls
abbrev pub least_at : ℕ → (ℕ → ℕ) → (ℕ → ℕ) → ℕ → ℕ
least_at stays rises falls k = min stays (min (rises k) (falls k))

-- up to k the rising one is below the others; at the next place it is no longer, or that place is the last
pub record Turns (stays : ℕ) (rises falls : ℕ → ℕ) (most k : ℕ) : Type 0 where
  pub rising : (i j : ℕ) → i < j → rises i < rises j
  pub falling : (i j : ℕ) → i ≤ j → falls j ≤ falls i
  pub first : 1 ≤ k
  pub last : k < most
  pub below_stays : rises k < stays
  pub below_falls : rises k < falls k
  pub turned : (k + 1 ≡ most) ⊎ (min stays (falls (k + 1)) ≤ rises (k + 1))

module _ {stays : ℕ} {rises falls : ℕ → ℕ} {most k : ℕ} (t : Turns stays rises falls most k) where
  abbrev at : ℕ → ℕ
  at = least_at stays rises falls

  rises_to : (j : ℕ) → j ≤ k → rises j ≤ rises k
  rises_to j h = go (dec_le k j)
    where
      go : Dec (k ≤ j) → rises j ≤ rises k
      go (yes l) = let e : j ≡ k = omega arith in rw e (omega arith)
      go (no l) = omega (arith, t.rising j k (omega arith))

  -- up to k the least is the rising one
  pub before : (j : ℕ) → j ≤ k → at j ≡ rises j
  before j h = omega (arith, rises_to j h, t.falling j k h)

  -- past k it does not rise
  after : (j : ℕ) → k + 1 ≤ j → j ≤ most → at j ≤ at (k + 1)
  after j h l = go t.turned
    where
      go : (k + 1 ≡ most) ⊎ (min stays (falls (k + 1)) ≤ rises (k + 1)) → at j ≤ at (k + 1)
      go (inl e) = let f : j ≡ k + 1 = omega arith in rw f (omega arith)
      go (inr e) = omega (arith, t.falling (k + 1) j h)

  pub greatest_here : at (k + 1) ≤ at k → Greatest at most k
  greatest_here h = record {
    first = t.first;
    last = omega (arith, t.last);
    none_better = λ j l m. go j m (dec_le j k);
    smaller_worse = λ j l m. omega (arith, before j (omega arith), before k (omega arith), t.rising j k m);
  }
    where
      go : (j : ℕ) → j ≤ most → Dec (j ≤ k) → at j ≤ at k
      go j m (yes l) = omega (arith, before j l, before k (omega arith), rises_to j l)
      go j m (no l) = omega (arith, after j (omega arith) m)

  pub greatest_next : at k < at (k + 1) → Greatest at most (k + 1)
  greatest_next h = record {
    first = omega arith;
    last = omega (arith, t.last);
    none_better = λ j l m. go j m (dec_le j k);
    smaller_worse = λ j l m. omega (arith, earlier j (omega arith));
  }
    where
      earlier : (j : ℕ) → j ≤ k → at j < at (k + 1)
      earlier j l = omega (arith, before j l, before k (omega arith), rises_to j l)

      go : (j : ℕ) → j ≤ most → Dec (j ≤ k) → at j ≤ at (k + 1)
      go j m (yes l) = omega (arith, earlier j l)
      go j m (no l) = after j (omega arith) m
