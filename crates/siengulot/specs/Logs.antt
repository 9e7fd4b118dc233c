-- What crosses to C of the log's answers. A log crosses as its five lists, whose lengths are those of the header's
-- arrays, and its count.
use Rattle.std.specs.Prelude.{ℕ}
use Rattle.measure.specs.Refusals.{Answer, given, refused, refused_after}
use Rattle.bay_log.specs.Records.{Log}

-- H16: of clearing the refusal's number alone
abbrev pub cleared_over : Answer (Unit {0}) → ℕ
cleared_over (given done) = 0
cleared_over (refused number place) = number
cleared_over (refused_after number place count) = number

-- H16: what crosses of an answer, and beside it the log that is left
abbrev pub leaving : {A X : Type 0} → (Answer A → X) → Answer A × Log → X × Log
leaving crosses (answer, log) = (crosses answer, log)
