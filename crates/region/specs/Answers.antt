-- Rule R91: what the survey's lines are answered with and leave in the lent output, for all input, and what each case
-- of the code says.
use Rattle.std.specs.Prelude.{ℕ, List, Result}
use Rattle.measure.specs.Refusals.{Answer, given, refused, refused_after, says, lent}
use Rattle.measure.specs.declared.Refusal.{Refusal}
use Rattle.settings.specs.Survey.{Region, Report, surveyed}
use Rattle.region.specs.Lines.{report_lines}

-- R91: the lines of what the survey gives, lent; its own refusals leave the output
abbrev pub lines_of : Answer Report → (output : List ℕ) → Answer ℕ × List ℕ
lines_of (given report) output = lent (report_lines report) output
lines_of (refused number place) output = (refused number place, output)
lines_of (refused_after number place count) output = (refused_after number place count, output)

-- R91: the survey's refusals, then 4
unfoldable pub survey_lines : Region → (output : List ℕ) → Answer ℕ × List ℕ
survey_lines s output = lines_of (surveyed s) output

-- A8: what each case of the code's answer says
abbrev pub put_says : Result ℕ Refusal → Answer ℕ
put_says answer = says (λ bytes. bytes) answer
