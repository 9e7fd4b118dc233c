-- What an operation leaves in its output stands beside its answer, so where the answer crosses, both do.
use mathlib.Core.Path.{◌≡◌, ap}
use Prim.Native.Nat.{ℕ}
use mathlib.Core.List.{List}
use Rattle.measure.specs.Refusals.{Answer}
use Rattle.bay_log.specs.Records.{Log}
use Rattle.siengulot.specs.Crossing.{crossing}
use Rattle.siengulot.specs.Logs.{leaving}

pub across : {A X : Type 0}
    (crosses : Answer A → X) {outcome : Answer A × List ℕ} {answer : Answer A} {output : List ℕ} {x : X}
    → outcome ≡ (answer, output) → crosses answer ≡ x → crossing crosses outcome ≡ (x, output)
across crosses {output = output} outcome crossed = rw outcome (ap (λ x. (x, output)) crossed)

-- and so does the log that is left beside it
pub across_log : {A X : Type 0}
    (crosses : Answer A → X) {outcome : Answer A × Log} {answer : Answer A} {log : Log} {x : X}
    → outcome ≡ (answer, log) → crosses answer ≡ x → leaving crosses outcome ≡ (x, log)
across_log crosses {log = log} outcome crossed = rw outcome (ap (λ x. (x, log)) crossed)

-- a number, a yes or no and margins cross one by one
pub laid_out : {A : Type 0} {number x says accepted : ℕ} {margins lent : A} → x ≡ number → says ≡ accepted
    → margins ≡ lent → ◌≡◌ {A = ℕ × ℕ × A} (number, says, margins) (x, accepted, lent)
laid_out number says margins = rw (number, says, margins)
