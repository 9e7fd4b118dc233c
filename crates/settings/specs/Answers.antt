-- What the judge and the quiet judge answer, for all input (rules M13 and R40, R41, R74, R75), and what each case of
-- the code says.
use Rattle.std.specs.Prelude.{ℕ, Bool, true, false, ◌&&◌, leb, Result}
use Rattle.measure.specs.Choose.{choose}
use Rattle.measure.specs.Ranges.{subcell, sampling, settling, cycle_length, quiet, pad_most}
use Rattle.measure.specs.Refusals.{Answer, given, refused, says}
use Rattle.measure.specs.declared.Refusal.{Refusal}
use Rattle.settings.specs.Margins.{Ends, m1, m2, m3, m4, m5, zero_or_more, accepted, quiet_accepted}
use Rattle.settings.specs.declared.Margins.{Margins}
use Rattle.settings.specs.declared.QuietMargins.{QuietMargins}
use Rattle.settings.specs.declared.Verdict.{Verdict}
use Rattle.settings.specs.declared.Verdict.TheVariants.{Yes, No}

-- M13: the margins and yes or no; a "no" has its margins too
pub record Judgement : Type 0 where
  pub margins : Margins
  pub accepts : Bool

-- M13: the same with all five
pub record QuietJudgement : Type 0 where
  pub margins : QuietMargins
  pub accepts : Bool

-- N14 to N17: each end is in range, and neither least length is above its greatest
abbrev pub ends_fit : Ends → Bool
ends_fit e =
    cycle_length e.w1 && cycle_length e.w2 && cycle_length e.r1 && cycle_length e.r2
    && leb e.w1 e.w2 && leb e.r1 e.r2

-- R40, R74: a, b, g, k and the ends are in range
abbrev pub in_range : (a b g k : ℕ) (e : Ends) → Bool
in_range a b g k e = subcell a && subcell b && settling g && sampling k && ends_fit e

-- R41, R75: those, Q and p1 are in range
abbrev pub quiet_in_range : (a b g k : ℕ) (e : Ends) (Q p1 : ℕ) → Bool
quiet_in_range a b g k e Q p1 = in_range a b g k e && quiet Q && leb p1 pad_most

-- M1, M2 and M3
abbrev pub cell_margins : (a b g k : ℕ) (e : Ends) → Margins
cell_margins a b g k e = record { m1 = m1 a g e; m2 = m2 a g k e; m3 = m3 a b g k e }

-- all five margins
abbrev pub all_margins : (a b g k : ℕ) (e : Ends) (Q p1 : ℕ) → QuietMargins
all_margins a b g k e Q p1 = record { cell = cell_margins a b g k e; m4 = m4 a b g e Q; m5 = m5 g e Q p1 }

-- M11: none of the three is negative
abbrev pub cell_met : Margins → Bool
cell_met m = zero_or_more m.m1 && zero_or_more m.m2 && zero_or_more m.m3

-- M12: none of the five is
abbrev pub all_met : QuietMargins → Bool
all_met m = cell_met m.cell && zero_or_more m.m4 && zero_or_more m.m5

-- R74: the judge over ends: refusal 1 where a setting is out of range; R40: the judge is its case of steady clocks
unfoldable pub judgement : (a b g k : ℕ) (e : Ends) → Answer Judgement
judgement a b g k e =
    choose (in_range a b g k e)
    (given (record { margins = cell_margins a b g k e; accepts = accepted a b g k e }))
    (refused 1 0)

-- R75: the quiet judge over ends: all five margins; R41: the quiet judge is its case of steady clocks
unfoldable pub quiet_judgement : (a b g k : ℕ) (e : Ends) (Q p1 : ℕ) → Answer QuietJudgement
quiet_judgement a b g k e Q p1 =
    choose (quiet_in_range a b g k e Q p1)
    (given (record { margins = all_margins a b g k e Q p1; accepts = quiet_accepted a b g k e Q p1 }))
    (refused 1 0)

-- A8: what the judge's two words say
abbrev pub judged_as : Verdict Margins → Judgement
judged_as (Yes m) = record { margins = m; accepts = true }
judged_as (No m) = record { margins = m; accepts = false }

-- A8: and the quiet judge's
abbrev pub quiet_judged_as : Verdict QuietMargins → QuietJudgement
quiet_judged_as (Yes m) = record { margins = m; accepts = true }
quiet_judged_as (No m) = record { margins = m; accepts = false }

-- A8: what each case of the judge's answer says
abbrev pub judged_says : Result (Verdict Margins) Refusal → Answer Judgement
judged_says answer = says judged_as answer

-- A8: and of the quiet judge's
abbrev pub quiet_judged_says : Result (Verdict QuietMargins) Refusal → Answer QuietJudgement
quiet_judged_says answer = says quiet_judged_as answer
