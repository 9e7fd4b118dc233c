-- A result that is written to a part of a lent output, and is just as long.
use Rattle.std.proofs.Common.{◌≡◌, ℕ, ◌+◌, ◌≤◌, List, ◌++◌, length, take, drop, sym, ap, ◌∙◌, append-nil, append_assoc, arith, length-append, length-take, length-drop, drop_of_length-le, drop-drop}
use Rattle.std.proofs.lemmas.List.Edits.{sets, sets-eq}
use Rattle.measure.specs.Lists.{onto}

-- to its front
pub onto_front : (result output front : List ℕ) (n : ℕ) → length result ≡ n → onto result (take n output) ≡ front
    → onto result output ≡ front ++ drop n output
onto_front result output front n size is =
    let short : length (take n output) ≤ length result = omega (arith, length-take n output) in
    let whole : result ≡ front =
    sym (append-nil result) ∙ ap (λ (l : List ℕ). result ++ l) (sym (drop_of_length-le (take n output) short)) ∙ is in
    rw (← whole, size)

-- which leaves the output's length
pub length_front : (front output : List ℕ) (n : ℕ) → length front ≡ length (take n output)
    → length (front ++ drop n output) ≡ length output
length_front front output n size =
    omega (arith, size, length-append front (drop n output), length-take n output, length-drop n output)

-- from a place on
pub sets_part : (part output : List ℕ) (from n : ℕ) → length part ≡ n → from + n ≤ length output
    → sets output from part ≡ take from output ++ (part ++ drop n (drop from output))
sets_part part output from n size room =
    rw (drop-drop n from output, ← append_assoc (take from output) part (drop (from + n) output), ← size)
    (sets-eq part output from (omega arith))
