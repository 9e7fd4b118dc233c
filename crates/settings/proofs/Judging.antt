-- What is answered of settings in range: their margins, and whether all of these are zero or more.
use Rattle.std.proofs.Common.{◌≡◌, ℕ, Bool, true, false, refl}
use Rattle.measure.specs.Choose.{choose}
use Rattle.measure.specs.Refusals.{given}
use Rattle.settings.specs.Margins.{Ends, accepted, quiet_accepted}
use Rattle.settings.specs.Answers.{in_range, quiet_in_range, cell_margins, all_margins, cell_met, all_met}
use Rattle.settings.specs.Answers.{judgement, quiet_judgement, judged_as, quiet_judged_as}
use Rattle.settings.specs.declared.Margins.{Margins}
use Rattle.settings.specs.declared.QuietMargins.{QuietMargins}
use Rattle.settings.specs.declared.Verdict.{Verdict}
use Rattle.settings.specs.declared.Verdict.TheVariants.{Yes, No}

as_told : (m : Margins) (yes : Bool)
    → given (record { margins = m; accepts = yes }) ≡ given (judged_as (choose yes (Yes m) (No m)))
as_told m true = refl
as_told m false = refl

quiet_as_told : (m : QuietMargins) (yes : Bool)
    → given (record { margins = m; accepts = yes }) ≡ given (quiet_judged_as (choose yes (Yes m) (No m)))
quiet_as_told m true = refl
quiet_as_told m false = refl

pub judged : (a b g k : ℕ) (e : Ends) {m : Margins} {yes : Bool} {verdict : Verdict Margins}
    → in_range a b g k e ≡ true → m ≡ cell_margins a b g k e → yes ≡ cell_met m
    → verdict ≡ choose yes (Yes m) (No m) → judgement a b g k e ≡ given (judged_as verdict)
unfolding judgement accepted
judged a b g k e {m} {yes} ranged is signed told = rw (told, ← as_told m yes, signed, ranged, is) refl

pub quiet_judged : (a b g k : ℕ) (e : Ends) (Q p1 : ℕ) {m : QuietMargins} {yes : Bool} {verdict : Verdict QuietMargins}
    → quiet_in_range a b g k e Q p1 ≡ true → m ≡ all_margins a b g k e Q p1 → yes ≡ all_met m
    → verdict ≡ choose yes (Yes m) (No m) → quiet_judgement a b g k e Q p1 ≡ given (quiet_judged_as verdict)
unfolding quiet_judgement quiet_accepted accepted
quiet_judged a b g k e Q p1 {m} {yes} ranged is signed told = rw (told, ← quiet_as_told m yes, signed, ranged, is) refl
