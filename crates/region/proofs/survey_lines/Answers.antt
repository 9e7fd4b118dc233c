-- `survey_lines` meets its contract: what the survey answers is put as lines, or is the refusal.
use Rattle.std.proofs.Common.{◌≡◌, ℕ, List, ap, ◌∙◌}
use Rattle.std.specs.Prelude.{Option}
use Rattle.measure.specs.Refusals.{Answer, given}
use Rattle.measure.proofs.Checked.{handed_on}
use Rattle.settings.specs.Survey.{Region, Report, reported, surveyed, surveyed_says}
use Rattle.settings.specs.declared.surveying.Figures.{Figures}
use Rattle.region.specs.Answers.{lines_of, survey_lines}
use Rattle.region.proofs.survey_lines.Goals as goal

abbrev found : Option Figures → Answer Report
found figures = given (reported figures)

asked : (s : Region) (output : List ℕ) {answer : Answer Report} → surveyed s ≡ answer
    → survey_lines s output ≡ lines_of answer output
unfolding survey_lines
asked s output e = ap (λ (x : Answer Report). lines_of x output) e

pub returns-in_err-survey : goal.returns-in_err-survey
returns-in_err-survey c =
    let out = handed_on (λ bytes. bytes) _ c.from_residual.result c.from_residual.ensures.1 in
    rw out (asked _ _ (c.survey.ensures ∙ ap surveyed_says c.in_err-survey.was))

pub returns-in-None : goal.returns-in-None
returns-in-None c =
    asked _ _ (c.survey.ensures ∙ ap surveyed_says c.in_ok-survey.was ∙ ap found c.in-None.is) ∙ c.put_none.ensures

pub returns-in-Some : goal.returns-in-Some
returns-in-Some c =
    asked _ _ (c.survey.ensures ∙ ap surveyed_says c.in_ok-survey.was ∙ ap found c.in-Some.is) ∙ c.put_figures.ensures
