-- What putting a line answers: how many bytes the line at the front of the lent buffer has.
use Rattle.std.specs.Prelude.{ℕ, Result}
use Rattle.measure.specs.Refusals.{Answer, says}
use Rattle.measure.specs.declared.Refusal.{Refusal}

-- A8
abbrev pub put_says : Result ℕ Refusal → Answer ℕ
put_says answer = says (λ bytes. bytes) answer
