-- What is shown of reading a stored plan. A row's trail pad and the next row's lead pad are both high, so that they
-- make one longer lead pad.
use mathlib.Core.Path.{◌≡◌}
use mathlib.Core.List.{List, [], ◌∷◌, ◌++◌, append_assoc, append-nil}
use Prim.Native.Nat.{ℕ, zero, suc, ◌+◌, ◌≤◌}
use native.Mathlib.Omega.{arith}
use lib.ListN.{length, take, drop, get_or, replicate-append-replicate}
use Rattle.sender.specs.Sending.{pad, plan_wave, rows_of}
use Rattle.sender.proofs.Waves.{wave_followed}
use Rattle.sender.proofs.PlanWaves.{plan_none, plan_parts}
use Rattle.sender.proofs.PlanRows.{rows_none, rows_more}
use Rattle.stored.specs.Stored.{stored_wave, stored_rows_of, joined_leads, last_trail}
use Rattle.stored.specs.Shown.{SameWave, EveryLeadGrows}
use Rattle.stored.proofs.Joins.{length_joined}

-- the same with so many high cycles before the first row
same_from : (a b n before : ℕ) (leads trails bits : List ℕ) → length trails ≡ length leads
    → pad before ++ stored_wave a b (stored_rows_of n leads trails bits)
    ≡ plan_wave a b (rows_of n (joined_leads before leads trails) bits) ++ pad (last_trail before trails)
unfolding stored_wave stored_rows_of joined_leads last_trail
same_from a b n before [] [] bits h = rw (rows_none n bits, plan_none a b, append-nil)
same_from a b n before [] (trail ∷ trails) bits h = absurd (omega arith)
same_from a b n before (lead ∷ leads) [] bits h = absurd (omega arith)
same_from a b n before (lead ∷ leads) (trail ∷ trails) bits h =
    rw (
      same_from a b n trail leads trails (drop n bits) (omega arith),
      wave_followed a b lead (take n bits)
          (plan_wave a b (rows_of n (joined_leads trail leads trails) (drop n bits)) ++ pad (last_trail trail trails)),
      rows_more n (before + lead) (joined_leads trail leads trails) bits,
      plan_parts a b (record { lead = before + lead; bits = take n bits })
          (rows_of n (joined_leads trail leads trails) (drop n bits)),
      ← replicate-append-replicate {A = ℕ} before lead 1,
    )
    (simp append_assoc)

pub same_wave : SameWave
same_wave a b n leads trails bits h = same_from a b n 0 leads trails bits h

grows : (before : ℕ) (leads trails : List ℕ) (row : ℕ) → length trails ≡ length leads
    → get_or leads row 0 ≤ get_or (joined_leads before leads trails) row 0
unfolding joined_leads
grows before [] trails row h = omega arith
grows before (lead ∷ leads) [] row h = absurd (omega arith)
grows before (lead ∷ leads) (trail ∷ trails) zero h = omega arith
grows before (lead ∷ leads) (trail ∷ trails) (suc row) h = grows trail leads trails row (omega arith)

pub every_lead_grows : EveryLeadGrows
every_lead_grows leads trails h =
    record { rows = length_joined 0 leads trails h; longer = λ row. grows 0 leads trails row h }
