-- What the check of a list's entries tells, on the way on and on the way out.
use Rattle.std.proofs.Common.{◌≡◌, ℕ, List, Bool, true, false, refl, ap, sym, ◌∙◌}
use Rattle.std.specs.Prelude.{Result, Ok, Err, IsErrAnd}
use Rattle.measure.specs.Choose.{choose}
use Rattle.measure.specs.Lists.{some_above}
use Rattle.measure.specs.Refusals.{Answer, says, denied, refused, entered, entries_answer}
use Rattle.measure.specs.declared.Refusal.{Refusal}
use Rattle.measure.specs.declared.Refusal.TheVariants.{Entry}

passed : (e : Refusal) (u : Unit {0}) (test : Bool) → ◌≡◌ {A = Result (Unit {0}) Refusal} (choose test (Err e) (Ok tt)) (Ok u) → test ≡ false
passed e u true q = cc
passed e u false q = refl

refusal_in : Refusal → Result (Unit {0}) Refusal → Refusal
refusal_in other (Ok u) = other
refusal_in other (Err e) = e

stopped : {A B : Type 0} (at : ℕ) (e : Refusal) (output : B) (rest : Answer A × B) (test : Bool)
    → ◌≡◌ {A = Result (Unit {0}) Refusal} (choose test (Err (Entry at)) (Ok tt)) (Err e)
    → choose test (refused 2 at, output) rest ≡ (denied e, output)
unfolding refusal_in
stopped {A} {B} at e output rest true q =
    let same : ◌≡◌ {A = Refusal} (Entry at) e = ap (refusal_in (Entry at)) q in
    let told : Refusal → Answer A × B = λ r. (denied r, output) in
    ap told same
stopped at e output rest false q = cc

-- entries that pass the check: none is above the greatest
pub good_entries : (m : ℕ) (xs : List ℕ) (u : Unit {0}) → entries_answer m xs ≡ Ok u → some_above m xs ≡ false
good_entries m xs u e = passed _ u _ e

-- an error that `?` hands on, as an answer
pub handed_on : {X Y : Type 0} (tell : X → Y) (e : Refusal) (r : Result X Refusal) → IsErrAnd r (λ other. other ≡ e)
    → says tell r ≡ denied e
handed_on {Y = Y} tell e (Err other) same = ap (denied {A = Y}) same
handed_on tell e (Ok x) same = absurd same

-- entries that do not: the operation ends with that refusal, and leaves its output
pub bad_entries : {X Y B : Type 0} (tell : X → Y) (m : ℕ) (xs : List ℕ) (e : Refusal) (r : Result X Refusal) (output : B)
    (rest : Answer Y × B) → entries_answer m xs ≡ Err e → IsErrAnd r (λ other. other ≡ e)
    → entered m xs output rest ≡ (says tell r, output)
bad_entries {Y = Y} {B = B} tell m xs e r output rest q same =
    let told : Answer Y → Answer Y × B = λ answer. (answer, output) in
    stopped _ e output rest _ q ∙ ap told (sym (handed_on tell e r same))
