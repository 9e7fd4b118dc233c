-- What a sink has taken of bytes that are to be put into it, and what is still to come.
use Rattle.std.proofs.Common.{◌≡◌, ℕ, ◌+◌, ◌≤◌, List, [], ◌++◌, length, refl, sym, ap, ◌∙◌, append_assoc}
use Rattle.std.proofs.Common.{arith, length-append, append-nil}

-- of `all`, what a sink took since it was s₀, and what is still to come
pub record Taking {S : Type 0} (took : S → List ℕ → S → Type 0) (s₀ : S) (all : List ℕ) (s : S) (rest : List ℕ)
    : Type 0 where
  pub front : List ℕ
  pub whole : front ++ rest ≡ all
  pub so_far : took s₀ front s

-- the laws of a sink
pub record Lawful {S : Type 0} (room : S → ℕ) (took : S → List ℕ → S → Type 0) : Type 0 where
  pub none : (s : S) → took s [] s
  pub joined : (s t u : S) (xs ys : List ℕ) → took s xs t → took t ys u → took s (xs ++ ys) u
  pub left : (s t : S) (xs : List ℕ) → took s xs t → room s ≤ room t + length xs

module _ {S : Type 0} {room : S → ℕ} {took : S → List ℕ → S → Type 0} (laws : Lawful room took) where
  pub taking_none : (s : S) (all : List ℕ) → Taking took s all s all
  taking_none s all = record { front = []; whole = refl; so_far = laws.none s }

  module _ {s₀ s : S} {all : List ℕ} where
    pub taking_part : (part : List ℕ) {rest : List ℕ} (s' : S) → Taking took s₀ all s (part ++ rest) → took s part s'
        → Taking took s₀ all s' rest
    taking_part part {rest} s' q e = record {
      front = q.front ++ part;
      whole = append_assoc q.front part rest ∙ q.whole;
      so_far = laws.joined s₀ s s' q.front part q.so_far e;
    }

    pub taking_all : Taking took s₀ all s [] → took s₀ all s
    taking_all q =
        let e : q.front ≡ all = sym (append-nil q.front) ∙ q.whole in
        rw (← e) q.so_far

    -- where there is room for all, there is for what is still to come, and for a part of that
    pub taking_room : {rest : List ℕ} → Taking took s₀ all s rest → length all ≤ room s₀ → length rest ≤ room s
    taking_room {rest} q h =
        omega (arith, laws.left s₀ s q.front q.so_far, ap length q.whole, length-append q.front rest)

    pub taking_next : (part rest : List ℕ) → Taking took s₀ all s (part ++ rest) → length all ≤ room s₀
        → length part ≤ room s
    taking_next part rest q h = omega (arith, taking_room q h, length-append part rest)
