-- A plan from a row on: the row's wave, and then the wave of the rows after it; and how long it is.
use Rattle.std.proofs.Common.{◌≡◌, ◌∙◌, refl, List, [], ◌∷◌, ◌++◌, ℕ, ◌+◌, ◌*◌, ◌<◌, ◌≤◌, add-one, arith, length}
use Rattle.std.proofs.Common.{take, drop, get_or, length-append, length-drop, length-take-le, drop-cons}
use Rattle.std.proofs.Common.{drop_of_length-le}
use Rattle.std.proofs.lemmas.List.{take_at, drop_at}
use Rattle.measure.proofs.Stores.{Stored}
use Rattle.sender.specs.Sending.{wave, plan_wave, rows_of}
use Rattle.sender.proofs.Cells.{length_wave}

-- the sum of a list of pads
abbrev pub total : List ℕ → ℕ
total [] = 0
total (pad ∷ pads) = pad + total pads

pub total_step : (pads : List ℕ) (i : ℕ) → i < length pads
    → total (drop i pads) ≡ get_or pads i 0 + total (drop (i + 1) pads)
total_step pads i h = rw (drop-cons pads i 0 h, add-one)

pub total_end : (pads : List ℕ) (i : ℕ) → length pads ≤ i → total (drop i pads) ≡ 0
total_end pads i h = rw (drop_of_length-le pads h)

-- the rows of a plan in order: the wave of the first, and then those of the rows after it
pub plan_turn : (a b n lead : ℕ) (row leads bits : List ℕ) → length row ≡ n
    → plan_wave a b (rows_of n (lead ∷ leads) (row ++ bits)) ≡ wave a b lead row ++ plan_wave a b (rows_of n leads bits)
unfolding plan_wave rows_of
plan_turn a b n lead row leads bits e = rw (take_at row bits n e, drop_at row bits n e)

-- the first row of those still to be stored
pub plan_next : {out₀ all out : List ℕ} {at : ℕ} (a b n lead : ℕ) (row leads bits leads' bits' : List ℕ)
    → leads ≡ lead ∷ leads' → bits ≡ row ++ bits' → length row ≡ n
    → Stored out₀ 0 all out at (plan_wave a b (rows_of n leads bits))
    → Stored out₀ 0 all out at (wave a b lead row ++ plan_wave a b (rows_of n leads' bits'))
plan_next a b n lead row leads bits leads' bits' e f size q = rw (e, f, plan_turn a b n lead row leads' bits' size) at q

pub bits_next : (n lead : ℕ) (row leads bits leads' bits' : List ℕ) → leads ≡ lead ∷ leads' → bits ≡ row ++ bits'
    → length row ≡ n → length bits ≡ length leads * n → length bits' ≡ length leads' * n
bits_next n lead row leads bits leads' bits' e f size all =
    omega (arith, size, simp length-append at (rw (e, f) at all))

-- where there is no lead left there is no row
pub plan_end : (a b n : ℕ) (leads bits : List ℕ) → length leads ≡ 0 → plan_wave a b (rows_of n leads bits) ≡ []
unfolding plan_wave rows_of
plan_end a b n [] bits h = refl
plan_end a b n (lead ∷ leads) bits h = absurd (omega arith)

-- the bits of no whole row are left: then no lead is, where there are n bits for each
pub leads_end : (n : ℕ) (leads bits : List ℕ) → length bits ≡ length leads * n → length bits < n → length leads ≡ 0
leads_end n [] bits e h = refl
leads_end n (lead ∷ leads) bits e h = absurd (omega arith)

-- a row's wave: its lead, and a + b cycles for each of its n bits
pub length_row : (a b p1 n : ℕ) (bits : List ℕ) → n ≤ length bits
    → length (wave a b p1 (take n bits)) ≡ p1 + n * (a + b)
length_row a b p1 n bits h = length_wave a b p1 (take n bits) ∙ rw (length-take-le n bits h)

-- a plan's wave, whose lists fit one another: all leads, and n times a + b cycles for each row
pub length_plan : (a b n : ℕ) (leads bits : List ℕ) → length bits ≡ length leads * n
    → length (plan_wave a b (rows_of n leads bits)) ≡ total leads + length leads * (n * (a + b))
unfolding plan_wave rows_of
length_plan a b n [] bits h = omega arith
length_plan a b n (p1 ∷ leads) bits h =
    simp length-append
    (omega (
      arith,
      length_row a b p1 n bits (omega arith),
      length_plan a b n leads (drop n bits) (rw length-drop (omega arith)),
    ))
