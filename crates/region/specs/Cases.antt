-- Rules V10 to V12 and R91: the example, byte for byte, a region with no boards, and a board that is refused.
use Rattle.std.specs.Prelude.{ℕ, List, [], ◌∷◌, ◌++◌, length, replicate}
use Rattle.measure.specs.Refusals.{Answer, given, refused}
use Rattle.measure.specs.Table.{Case}
use Rattle.settings.specs.Survey.{Region, region}
use Rattle.region.specs.Answers.{survey_lines}

-- boards of P8, with an r for each
abbrev boards_of : (r : List ℕ) → Region
boards_of r =
    let all : ℕ → List ℕ = replicate (length r) in
    region (all 5) (all 13) (all 1) (all 10) (all 100) r

-- "accepted 2", "M1 116 at 1", "M2 3 at 2", "M3 -4 at 1", each with a line feed
abbrev example_text : List ℕ
example_text =
    (97 ∷ 99 ∷ 99 ∷ 101 ∷ 112 ∷ 116 ∷ 101 ∷ 100 ∷ 32 ∷ 50 ∷ 10 ∷ [])
    ++ (77 ∷ 49 ∷ 32 ∷ 49 ∷ 49 ∷ 54 ∷ 32 ∷ 97 ∷ 116 ∷ 32 ∷ 49 ∷ 10 ∷ [])
    ++ (77 ∷ 50 ∷ 32 ∷ 51 ∷ 32 ∷ 97 ∷ 116 ∷ 32 ∷ 50 ∷ 10 ∷ [])
    ++ (77 ∷ 51 ∷ 32 ∷ 45 ∷ 52 ∷ 32 ∷ 97 ∷ 116 ∷ 32 ∷ 49 ∷ 10 ∷ [])

-- V12: with a byte of room left over
abbrev example : Case
example =
    record {
      kind = Answer ℕ × List ℕ;
      gives = survey_lines (boards_of (141 ∷ 142 ∷ 67 ∷ 142 ∷ [])) (replicate 44 0 ++ 7 ∷ []);
      printed = (given 44, example_text ++ 7 ∷ []);
    }

-- "accepted 0", "M1 - at -", "M2 - at -", "M3 - at -", each with a line feed
abbrev pub empty_text : List ℕ
empty_text =
    (97 ∷ 99 ∷ 99 ∷ 101 ∷ 112 ∷ 116 ∷ 101 ∷ 100 ∷ 32 ∷ 48 ∷ 10 ∷ [])
    ++ (77 ∷ 49 ∷ 32 ∷ 45 ∷ 32 ∷ 97 ∷ 116 ∷ 32 ∷ 45 ∷ 10 ∷ [])
    ++ (77 ∷ 50 ∷ 32 ∷ 45 ∷ 32 ∷ 97 ∷ 116 ∷ 32 ∷ 45 ∷ 10 ∷ [])
    ++ (77 ∷ 51 ∷ 32 ∷ 45 ∷ 32 ∷ 97 ∷ 116 ∷ 32 ∷ 45 ∷ 10 ∷ [])

-- V11: no boards, with a byte of room left over
abbrev empty : Case
empty =
    record {
      kind = Answer ℕ × List ℕ;
      gives = survey_lines (boards_of []) (replicate 41 0 ++ 7 ∷ []);
      printed = (given 41, empty_text ++ 7 ∷ []);
    }

-- R91: r 0 of the third board, which leaves the output
abbrev unfit : Case
unfit =
    record {
      kind = Answer ℕ × List ℕ;
      gives = survey_lines (boards_of (141 ∷ 142 ∷ 0 ∷ [])) (7 ∷ []);
      printed = (refused 1 2, 7 ∷ []);
    }

-- V11, V12, R91
abbrev pub cases : List Case
cases = example ∷ empty ∷ unfit ∷ []
