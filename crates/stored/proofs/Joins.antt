-- The joined lead pads row by row; and what is left over.
use Rattle.std.proofs.Common.{◌≡◌, refl, List, [], ◌∷◌, ℕ, ◌+◌, arith, length, take, drop}
use Rattle.stored.specs.Stored.{joined_leads, last_trail, stored_rows_of}

pub joined_none : (before : ℕ) (trails : List ℕ) → joined_leads before [] trails ≡ []
unfolding joined_leads
joined_none before trails = refl

pub joined_more : (before lead trail : ℕ) (leads trails : List ℕ)
    → joined_leads before (lead ∷ leads) (trail ∷ trails) ≡ (before + lead) ∷ joined_leads trail leads trails
unfolding joined_leads
joined_more before lead trail leads trails = refl

pub last_none : (before : ℕ) → last_trail before [] ≡ before
unfolding last_trail
last_none before = refl

pub last_more : (before trail : ℕ) (trails : List ℕ) → last_trail before (trail ∷ trails) ≡ last_trail trail trails
unfolding last_trail
last_more before trail trails = refl

pub stored_rows_more : (n lead trail : ℕ) (leads trails bits : List ℕ)
    → stored_rows_of n (lead ∷ leads) (trail ∷ trails) bits
    ≡ record { lead = lead; trail = trail; bits = take n bits } ∷ stored_rows_of n leads trails (drop n bits)
unfolding stored_rows_of
stored_rows_more n lead trail leads trails bits = refl

-- where no row is left
pub joined_end : (before : ℕ) (leads trails : List ℕ) → length leads ≡ 0 → joined_leads before leads trails ≡ []
joined_end before [] trails h = joined_none before trails
joined_end before (lead ∷ leads) trails h = absurd (omega arith)

pub last_end : (before : ℕ) (trails : List ℕ) → length trails ≡ 0 → last_trail before trails ≡ before
last_end before [] h = last_none before
last_end before (trail ∷ trails) h = absurd (omega arith)

-- a joined lead pad for each row
pub length_joined : (before : ℕ) (leads trails : List ℕ) → length trails ≡ length leads
    → length (joined_leads before leads trails) ≡ length leads
unfolding joined_leads
length_joined before [] trails h = refl
length_joined before (lead ∷ leads) [] h = absurd (omega arith)
length_joined before (lead ∷ leads) (trail ∷ trails) h = omega (arith, length_joined trail leads trails (omega arith))
