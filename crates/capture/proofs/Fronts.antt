-- What is said of a number that does not stand at the front of bytes: the same where a byte stands before it, and its
-- refusal where its place is known.
use Rattle.std.proofs.Common.{◌≡◌, ℕ, refl, sym, ap, ◌∙◌}
use Rattle.std.specs.Prelude.{Result, Ok, Err, IsErrAnd}
use Rattle.measure.specs.Refusals.{denied}
use Rattle.capture.specs.Numbers.{before, placed, cut}
use Rattle.capture.specs.Answers.{fault_at, front_says}
use Rattle.capture.specs.declared.reading.Front.{Front}
use Rattle.capture.specs.declared.reading.Fault.{Fault}
use Rattle.capture.specs.declared.reading.Fault.TheVariants.{Cut, Long}

-- a byte before bytes where no number stands, and the error that `?` hands on
pub before_fault : (byte : ℕ) (fault : Fault) (r : Result Front Fault) → IsErrAnd r (λ other. other ≡ fault)
    → before byte (front_says (Err fault)) ≡ front_says r
before_fault byte fault (Ok front) same = absurd same
before_fault byte Cut (Err other) same = ap (λ (f : Fault). front_says (Err f)) (sym same)
before_fault byte Long (Err other) same = ap (λ (f : Fault). front_says (Err f)) (sym same)

-- a fault at a place
pub placed_fault : (at : ℕ) (fault : Fault) → placed at (front_says (Err fault)) ≡ denied (fault_at at fault)
placed_fault at Cut = refl
placed_fault at Long = refl

-- an error that `?` hands on where there is no byte
pub cut_on : (fault : Fault) (r : Result Front Fault) → fault ≡ Cut → IsErrAnd r (λ other. other ≡ fault)
    → cut ≡ front_says r
cut_on fault (Ok front) e same = absurd same
cut_on fault (Err other) e same = ap (λ (f : Fault). front_says (Err f)) (sym (same ∙ e))
