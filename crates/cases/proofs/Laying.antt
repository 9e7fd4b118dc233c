-- The entries of a text, written one after another.
use Rattle.std.proofs.Common.{◌≡◌, ℕ, zero, suc, ◌+◌, ◌-◌, ◌<◌, ◌≤◌, List, [], ◌∷◌, ◌++◌, length, take, drop, set, get_or, refl, ap, arith}
use Rattle.std.proofs.lemmas.List.{length-replicate, length-append}
use Rattle.std.specs.Prelude.{min, replicate}
use Rattle.cases.specs.Reading.{written, written_to, laid, with_room, gone_over}

-- a part that is laid, and the entries after it
laid_on : (from n end count entry : ℕ) (more list : List ℕ) → n ≡ min count (length list - from) → end ≡ from + n →
    from ≤ length list →
    written end more (take from list ++ replicate n entry ++ drop end list) ≡ written from (replicate count entry ++ more) list
unfolding written
laid_on zero zero zero count entry more [] e f h = refl
laid_on zero zero (suc end) count entry more [] e f h = absurd (omega arith)
laid_on zero (suc n) end count entry more [] e f h = absurd (omega arith)
laid_on (suc from) n end count entry more [] e f h = absurd (omega arith)
laid_on (suc from) n zero count entry more (first ∷ list) e f h = absurd (omega arith)
laid_on (suc from) n (suc end) count entry more (first ∷ list) e f h =
    ap (λ l. first ∷ l) (laid_on from n end count entry more list (omega arith) (omega arith) (omega arith))
laid_on zero zero zero zero entry more (first ∷ list) e f h = refl
laid_on zero (suc n) end zero entry more (first ∷ list) e f h = absurd (omega arith)
laid_on zero zero (suc end) zero entry more (first ∷ list) e f h = absurd (omega arith)
laid_on zero zero end (suc count) entry more (first ∷ list) e f h = absurd (omega arith)
laid_on zero (suc n) zero (suc count) entry more (first ∷ list) e f h = absurd (omega arith)
laid_on zero (suc n) (suc end) (suc count) entry more (first ∷ list) e f h =
    ap (λ l. entry ∷ l) (laid_on zero n end count entry more list (omega arith) (omega arith) (omega arith))

-- no entries change nothing
pub written_none : (from : ℕ) (list : List ℕ) → written from [] list ≡ list
unfolding written
written_none from [] = refl
written_none zero (first ∷ list) = refl
written_none (suc from) (first ∷ list) = ap (λ l. first ∷ l) (written_none from list)

-- what is written at the end stays the same as an entry is put
pub written_next : (size count entry : ℕ) (more list : List ℕ) → size ≤ length list →
    written (size + with_room size count list) more (laid size entry (with_room size count list) list)
    ≡ written size (replicate count entry ++ more) list
written_next size count entry more list h =
    laid_on size (with_room size count list) (size + with_room size count list) count entry more list refl refl h

-- and so does the place after it
pub written_to_next : (size count entry : ℕ) (more list new : List ℕ) → length new ≡ length list →
    written_to (size + with_room size count list) more new ≡ written_to size (replicate count entry ++ more) list
written_to_next size count entry more list new same = simp (length-append, length-replicate) (omega arith)

-- a turn of going over a list
module _ (end at back : ℕ) (list : List ℕ) where
  pub gone_on : at < end →
      gone_over (end - at) at back list ≡ gone_over (end - (at + 1)) (at + 1) back (set list at (get_or list (at - back) 0))
  unfolding gone_over
  gone_on h = let more : end - at ≡ suc (end - (at + 1)) = omega arith in rw (more) refl

  pub gone_over_all : end ≤ at → gone_over (end - at) at back list ≡ list
  unfolding gone_over
  gone_over_all h = let none : end - at ≡ 0 = omega arith in rw (none) refl
