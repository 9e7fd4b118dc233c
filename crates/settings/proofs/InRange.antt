-- What the check of settings tells: on the way on they are in range, and on the way out they are not, which is refused.
use Rattle.std.proofs.Common.{◌≡◌, ℕ, Bool, true, false, ◌&&◌, refl, sym, ap, ◌∙◌, arith}
use Rattle.std.specs.Prelude.{Option, None, Some, Result, Ok, Err, IfErr, IsErrAnd}
use Rattle.std.specs.Option.{ok_or}
use Rattle.std.specs.Result.{result_ok}
use Rattle.measure.specs.Refusals.{says, denied, refused}
use Rattle.measure.specs.Ranges.{subcell, sampling, settling}
use Rattle.measure.specs.declared.Refusal.{Refusal}
use Rattle.measure.specs.declared.Refusal.TheVariants.{Setting}
use Rattle.measure.proofs.Checked.{handed_on}
use Rattle.settings.specs.Margins.{Ends, ends_of, m1, zero_or_more}
use Rattle.settings.specs.Answers.{ends_fit, in_range}
use Rattle.settings.specs.Pick.{pickable}
use Rattle.settings.specs.declared.checked.Settings.{Settings}
use Rattle.settings.proofs.PickRanges.{Rising, rising}

-- a value that `ok_or` let through, and one that it lacked
pub had : {X E : Type 0} (o : Option X) (r : Result X E) (x : X) → o ≡ result_ok r → r ≡ Ok x → o ≡ Some x
had o (Ok z) x e f = grind arith
had o (Err z) x e f = absurd (grind arith)

pub lacked : {X : Type 0} (o : Option X) (r : Result X Refusal) (refusal came : Refusal)
    → r ≡ ok_or o refusal → r ≡ Err came → (o ≡ None) × (came ≡ refusal)
lacked None r refusal came e f = (refl, grind arith)
lacked (Some y) r refusal came e f = absurd (grind arith)

-- settings out of range, as an answer
pub turned_away : {X Y Z : Type 0} {Q : Type 0} (tell : Y → Z) (r : Result X Refusal) (came : Refusal)
    (out : Result Y Refusal) → r ≡ Err came → IfErr r (λ refusal. (refusal ≡ Setting 0) × Q)
    → IsErrAnd out (λ other. other ≡ came) → Q × (says tell out ≡ refused 1 0)
turned_away {Z = Z} tell (Err e) came out is h same =
    let first : e ≡ came = grind arith in
    (h.1, handed_on tell came out same ∙ ap (denied {A = Z}) (sym first ∙ h.0))
turned_away tell (Ok x) came out is h same = absurd (grind arith)

apart : (x y z : Bool) → y ≡ true → x && y && z ≡ x && z
apart true true z e = refl
apart true false z e = absurd (grind arith)
apart false y z e = refl

without : (x y z : Bool) → x && y && z ≡ true → x && z ≡ true
without true true z e = e
without true false z e = absurd (grind arith)
without false y z e = e

-- with a sampling count in range, settings are in range exactly if the others of them are
pub apart_from_k : (a b g k : ℕ) (e : Ends) → sampling k ≡ true → in_range a b g k e ≡ pickable a b g e
apart_from_k a b g k e h = apart (subcell a && subcell b && settling g) (sampling k) (ends_fit e) h

pub pick_fits : (s : Settings) → pickable s.pair.a.0 s.pair.b.0 s.pair.g.0 (ends_of s.clocks) ≡ true
pick_fits s =
    let p = s.pair in
    without (subcell p.a.0 && subcell p.b.0 && settling p.g.0) (sampling s.k.0) (ends_fit (ends_of s.clocks)) s.in_range

pub starts : (s : Settings) → zero_or_more (m1 s.pair.a.0 s.pair.g.0 (ends_of s.clocks)) ≡ true
    → Rising s.pair.a.0 s.pair.b.0 s.pair.g.0 (ends_of s.clocks)
starts s met = rising _ _ _ _ (pick_fits s) met
