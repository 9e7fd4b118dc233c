-- The numbers of a text, listed one after another.
use Rattle.std.proofs.Common.{◌≡◌, ℕ, suc, ◌+◌, ◌<◌, List, [], ◌∷◌, length, get_or, refl, ap, arith, ◌∙◌, sym}
use Rattle.cases.specs.Reading.{number_at, numbers_from}

-- a list that has the number of each place lists them
pub each_listed : (place : ℕ) (text list : List ℕ)
    → ((i : ℕ) → i < length list → get_or list i 0 ≡ number_at (place + i) text)
    → list ≡ numbers_from (length list) place text
unfolding numbers_from
each_listed place text [] each = refl
each_listed place text (first ∷ more) each =
    let here : first ≡ number_at place text = each 0 (omega arith) ∙ ap (λ (n : ℕ). number_at n text) (omega arith) in
    let there : more ≡ numbers_from (length more) (suc place) text =
    each_listed (suc place) text more
    (λ i l. each (suc i) (omega (arith, l)) ∙ ap (λ (n : ℕ). number_at n text) (omega arith)) in
    rw (sym here, sym there) refl
