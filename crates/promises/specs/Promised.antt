-- How a promise of one call is said. Input is good where it passes every test of the rules' table of refusals. Good
-- input is given its result; bad input is refused by the first test that it fails, in the table's order.
use Rattle.std.specs.Prelude.{ℕ, ◌≡◌, Bool, true, false, ◌&&◌, not, List, [], ◌∷◌, leb, ltb, length, replicate}
use Rattle.measure.specs.Choose.{choose}
use Rattle.measure.specs.Lists.{first_above, some_above, onto}
use Rattle.measure.specs.Refusals.{Answer, given, refused, lent}
use Rattle.settings.specs.Margins.{Ends, m1, m2, m3, m4, m5, accepted, quiet_accepted}
use Rattle.settings.specs.Answers.{Judgement, QuietJudgement}
use Rattle.board.specs.declared.Mode.TheVariants.{Hunting}
use Rattle.board.specs.declared.Receiver.{Receiver}

-- R1 to R11: a test of the table: the number and the place of its refusal, and whether the input fails it
pub record Test : Type 0 where
  pub number : ℕ
  pub place : ℕ
  pub failed : Bool

-- R1 to R11: no test is failed
unfoldable pub good : List Test → Bool
good [] = true
good (test ∷ tests) = not test.failed && good tests

-- R20, R21: the number and the place of the first test that is failed (0 and 0 where none is)
unfoldable pub first : List Test → ℕ × ℕ
first [] = (0, 0)
first (test ∷ tests) = choose test.failed (test.number, test.place) (first tests)

-- D1: The promise of a call, both ways: what comes out of good input, and of bad input what comes out with which
-- refusal.
pub record Answered {O : Type 0} (tests : List Test) (outcome result : O) (refusal : ℕ → ℕ → O) : Type 0 where
  pub gives : good tests ≡ true → outcome ≡ result
  pub refuses : good tests ≡ false → outcome ≡ refusal (first tests).0 (first tests).1

-- R1: the tests that operations share, in the table's order: refusal 1, unless settings or a state are as they have to
-- be
abbrev pub setting : Bool → Test
setting fits = record { number = 1; place = 0; failed = not fits }

-- R3: refusal 3, for a list or a result longer than its limit
abbrev pub limit : ℕ → List ℕ → Test
limit most list = record { number = 3; place = 0; failed = ltb most (length list) }

-- R2: refusal 2, for an entry above the greatest of its kind, with the place of the first; and for a single entry
abbrev pub entries : ℕ → List ℕ → Test
entries most list = record { number = 2; place = first_above most list; failed = some_above most list }

-- R2
abbrev pub entry : ℕ → ℕ → Test
entry most x = record { number = 2; place = 0; failed = not (leb x most) }

-- R4: refusal 4, for a lent output that is shorter than so many entries
abbrev pub room : ℕ → List ℕ → Test
room size output = record { number = 4; place = 0; failed = ltb (length output) size }

-- D1: an operation that has nothing lent
abbrev pub Tells : {A : Type 0} → List Test → A → Answer A → Type 0
Tells tests result answer = Answered tests answer (given result) refused

-- R32, R30: An operation on a lent output. It answers the result's length, and leaves the result at the output's front
-- and every entry after it as it was. With a refusal every entry of the output is as it was.
abbrev pub Fills : List Test → (result output : List ℕ) → Answer ℕ × List ℕ → Type 0
Fills tests result output outcome =
    Answered tests outcome (given (length result), onto result output) (λ number place. (refused number place, output))

-- R57: a line that is put at the front of a lent output
abbrev pub Puts : (line output : List ℕ) → Type 0
Puts line output = Fills (room (length line) output ∷ []) line output (lent line output)

-- H2, H3: The same from C: the refusal's number (0 for none), its place, and the count, which is 0 with a refusal.
abbrev pub FillsFromC : List Test → (result output : List ℕ) → (ℕ × ℕ × ℕ) × List ℕ → Type 0
FillsFromC tests result output outcome =
    Answered tests outcome ((0, 0, length result), onto result output)
    (λ number place. ((number, place, 0), output))

-- M13: what the judges tell: the margins, and whether they are all zero or more
abbrev pub judged : (a b g k : ℕ) (e : Ends) → Judgement
judged a b g k e =
    record { margins = record { m1 = m1 a g e; m2 = m2 a g k e; m3 = m3 a b g k e }; accepts = accepted a b g k e }

-- M13
abbrev pub quiet_judged : (a b g k : ℕ) (e : Ends) (Q p1 : ℕ) → QuietJudgement
quiet_judged a b g k e Q p1 =
    record {
      margins = record { cell = (judged a b g k e).margins; m4 = m4 a b g e Q; m5 = m5 g e Q p1 };
      accepts = quiet_accepted a b g k e Q p1;
    }

-- R33: what a refused start hands back: hunting, and all numbers 0
abbrev pub unstarted : Receiver
unstarted =
    record {
      bare = record {
        settings = record { k = record { 0 = 0 }; n = 0; q = record { 0 = 0 } };
        numbers = record {
          run = record { 0 = 0 };
          left = record { 0 = 0 };
          found = 0;
          mode = Hunting;
          runlevel = 0;
          level = 0;
        };
      };
      bits = replicate 128 0;
    }
