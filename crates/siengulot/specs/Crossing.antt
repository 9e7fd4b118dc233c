-- What crosses to C of an operation's answer: numbers, in place of the cases of an enum. Place and count are written
-- with every answer; a refusal leaves margins, summaries and lists as they were.
use Rattle.std.specs.Prelude.{ℕ, Bool, true, false, List, [], ◌∷◌, ℤ, Result}
use Rattle.measure.specs.Refusals.{Answer, given, refused, refused_after, says}
use Rattle.measure.specs.declared.Refusal.{Refusal}
use Rattle.settings.specs.Answers.{Judgement, QuietJudgement}
use Rattle.settings.specs.declared.Verdict.{Verdict}
use Rattle.settings.specs.declared.Verdict.TheVariants.{Yes, No}
use Rattle.capture.specs.declared.Summary.{Summary}

-- H3: What crosses of an answer: the refusal's number (0: none), its place, and a count: of a result its length, with
-- refusal 10 the times listed, and with any other refusal 0.
abbrev pub crossed : Answer ℕ → ℕ × ℕ × ℕ
crossed (given count) = (0, 0, count)
crossed (refused number place) = (number, place, 0)
crossed (refused_after number place count) = (number, place, count)

-- H11, H16: what crosses of an answer whose refusals have no place: the refusal's number (0: none), and the count, or
-- the sampling count or place that was asked for, which is 0 with a refusal
abbrev pub numbered : Answer ℕ → ℕ × ℕ
numbered (given count) = (0, count)
numbered (refused number place) = (number, 0)
numbered (refused_after number place count) = (number, 0)

-- H3, H14: Of the counted receiver's: the place is that of the current read with a result and with refusal 5, with
-- which the count is of the bits found.
abbrev pub crossed_bits : Answer (ℕ × ℕ) → ℕ × ℕ × ℕ
crossed_bits (given (count, place)) = (0, place, count)
crossed_bits (refused number place) = (number, place, 0)
crossed_bits (refused_after number place count) = (number, place, count)

-- H3: what crosses of an answer, and beside it what the operation leaves in the lent output
abbrev pub crossing : {A X : Type 0} → (Answer A → X) → Answer A × List ℕ → X × List ℕ
crossing crosses (answer, output) = (crosses answer, output)

-- H6: 1 for yes, 0 for no
abbrev pub flag : Bool → ℕ
flag true = 1
flag false = 0

-- H5: the three margins one after another, and the five
abbrev pub three : Judgement → List ℤ
three j = j.margins.m1 ∷ j.margins.m2 ∷ j.margins.m3 ∷ []

-- H5
abbrev pub five : QuietJudgement → List ℤ
five j = j.margins.cell.m1 ∷ j.margins.cell.m2 ∷ j.margins.cell.m3 ∷ j.margins.m4 ∷ j.margins.m5 ∷ []

-- H6, H5: What crosses of a judgement: the refusal's number, whether the settings are accepted, and the margins. A
-- refusal leaves the lent margins and says no.
abbrev pub judged : {A : Type 0} (margins : A → List ℤ) (accepts : A → Bool) → Answer A → (lent : List ℤ)
    → ℕ × ℕ × List ℤ
judged margins accepts (given j) lent = (0, flag (accepts j), margins j)
judged margins accepts (refused number place) lent = (number, 0, lent)
judged margins accepts (refused_after number place count) lent = (number, 0, lent)

-- H6: of the judge's answer, and of the quiet judge's
abbrev pub judged_three : Answer Judgement → (lent : List ℤ) → ℕ × ℕ × List ℤ
judged_three answer lent = judged three (λ (j : Judgement). j.accepts) answer lent

-- H6
abbrev pub judged_five : Answer QuietJudgement → (lent : List ℤ) → ℕ × ℕ × List ℤ
judged_five answer lent = judged five (λ (j : QuietJudgement). j.accepts) answer lent

-- M13: the margins of a verdict, and whether it is a yes
abbrev pub margins_of : {M : Type 0} → Verdict M → M
margins_of (Yes m) = m
margins_of (No m) = m

-- M13
abbrev pub is_yes : {M : Type 0} → Verdict M → Bool
is_yes (Yes m) = true
is_yes (No m) = false

-- H6, H5: what crosses of a judge's verdict, of which `laid` lays out the margins
abbrev pub verdict_over : {M : Type 0} (laid : M → List ℤ) → Result (Verdict M) Refusal → (lent : List ℤ)
    → ℕ × ℕ × List ℤ
verdict_over laid answer lent =
    judged (λ verdict. laid (margins_of verdict)) is_yes (says (λ verdict. verdict) answer) lent

-- H10: What crosses of a capture's summary: the refusal's number, its place, and k, n, Q and the numbers of reads and
-- runs one after another. A refusal leaves the lent numbers.
abbrev pub summed : (lent : List ℕ) → Answer Summary → ℕ × ℕ × List ℕ
summed lent (given s) = (0, 0, s.settings.k.0 ∷ s.settings.n ∷ s.settings.q.0 ∷ s.reads.0 ∷ s.runs ∷ [])
summed lent (refused number place) = (number, place, lent)
summed lent (refused_after number place count) = (number, place, lent)
