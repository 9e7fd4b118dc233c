-- Rules V1 to V4 and R90: the survey of a region: how many boards are accepted, and of each margin the smallest with
-- the first place that has it, said by comparing each board with all others.
use Rattle.std.specs.Prelude.{ℕ, zero, suc, Bool, true, not, ◌&&◌, List, ltb, eqb, ℤ, length, get_or}
use Rattle.std.specs.Prelude.{Option, None, Some, Result}
use Rattle.std.specs.Int.Signed.{le_z}
use Rattle.measure.specs.Choose.{choose}
use Rattle.measure.specs.Refusals.{Answer, given, refused, says}
use Rattle.measure.specs.declared.Refusal.{Refusal}
use Rattle.settings.specs.Margins.{Ends, steady, m1, m2, m3, accepted}
use Rattle.settings.specs.Answers.{in_range}
use Rattle.settings.specs.declared.surveying.Smallest.{Smallest}
use Rattle.settings.specs.declared.surveying.Figures.{Figures}

-- V1: the settings of a region: a list of each of a, b, g, k, w and r, with an entry for each board
pub record Region : Type 0 where
  pub a : List ℕ
  pub b : List ℕ
  pub g : List ℕ
  pub k : List ℕ
  pub w : List ℕ
  pub r : List ℕ

-- V1
abbrev pub region : (a b g k w r : List ℕ) → Region
region a b g k w r = record { a = a; b = b; g = g; k = k; w = w; r = r }

-- V1: how many boards a region has
abbrev pub boards : Region → ℕ
boards s = length s.a

-- V1: its lists fit one another if there are as many entries in each
abbrev pub lists_fit : Region → Bool
lists_fit s =
    eqb (length s.b) (boards s) && eqb (length s.g) (boards s) && eqb (length s.k) (boards s)
    && eqb (length s.w) (boards s) && eqb (length s.r) (boards s)

-- N34: the most boards of a region
abbrev pub boards_most : ℕ
boards_most = 4096

-- V1: the clocks of the board at a place, which are steady
abbrev pub clocks_at : Region → ℕ → Ends
clocks_at s i = steady (get_or s.w i 0) (get_or s.r i 0)

-- R90: the settings of the board at a place are in range
abbrev pub fits_at : Region → ℕ → Bool
fits_at s i = in_range (get_or s.a i 0) (get_or s.b i 0) (get_or s.g i 0) (get_or s.k i 0) (clocks_at s i)

-- V2, M11: the settings of the board at a place are accepted
abbrev pub accepted_at : Region → ℕ → Bool
accepted_at s i = accepted (get_or s.a i 0) (get_or s.b i 0) (get_or s.g i 0) (get_or s.k i 0) (clocks_at s i)

-- V3: the margins M1, M2 and M3 of the board at a place
abbrev pub m1_at : Region → ℕ → ℤ
m1_at s i = m1 (get_or s.a i 0) (get_or s.g i 0) (clocks_at s i)

-- V3
abbrev pub m2_at : Region → ℕ → ℤ
m2_at s i = m2 (get_or s.a i 0) (get_or s.g i 0) (get_or s.k i 0) (clocks_at s i)

-- V3
abbrev pub m3_at : Region → ℕ → ℤ
m3_at s i = m3 (get_or s.a i 0) (get_or s.b i 0) (get_or s.g i 0) (get_or s.k i 0) (clocks_at s i)

-- V3, R90: the first of n places that passes a test, or n where none does
unfoldable pub first_place : (n : ℕ) (test : ℕ → Bool) → ℕ
first_place zero test = 0
first_place (suc n) test = choose (test 0) 0 (suc (first_place n (λ i. test (suc i))))

-- V3: each of n places passes a test
unfoldable pub every_place : (n : ℕ) (test : ℕ → Bool) → Bool
every_place zero test = true
every_place (suc n) test = every_place n test && test n

-- V2: how many of n places pass a test
unfoldable pub how_many : (n : ℕ) (test : ℕ → Bool) → ℕ
how_many zero test = 0
how_many (suc n) test = choose (test n) (suc (how_many n test)) (how_many n test)

-- V3: the margin at a place is the least of n: it is above none of them
unfoldable pub is_least : (n : ℕ) (margin : ℕ → ℤ) (i : ℕ) → Bool
is_least n margin i = every_place n (λ j. le_z (margin i) (margin j))

-- V3: the first place with the least of n margins; where n is above 0 there is one
abbrev pub least_place : (n : ℕ) (margin : ℕ → ℤ) → ℕ
least_place n margin = first_place n (is_least n margin)

-- V3: the smallest of n margins, with that place
abbrev pub smallest : (n : ℕ) (margin : ℕ → ℤ) → Smallest
smallest n margin = record { margin = margin (least_place n margin); place = least_place n margin }

-- V2, V3: what is told of a region that has a board
abbrev pub figures_of : Region → Figures
figures_of s =
    record {
      accepted = how_many (boards s) (accepted_at s);
      m1 = smallest (boards s) (m1_at s);
      m2 = smallest (boards s) (m2_at s);
      m3 = smallest (boards s) (m3_at s);
    }

-- V4: with no boards there is no smallest margin, which is a case of its own
pub data Report : Type 0 where
  none : Report
  told : Figures → Report

-- V4
abbrev pub report_of : Region → Report
report_of s = choose (eqb (boards s) 0) none (told (figures_of s))

-- R90: the first board with a setting out of range
abbrev pub first_unfit : Region → ℕ
first_unfit s = first_place (boards s) (λ i. not (fits_at s i))

-- R90: what is answered where the lists fit one another: refusal 1 with the place of the first board that has a setting
-- out of range, wherever it stands, and then 3 for more than 4,096 boards
unfoldable pub judged_boards : Region → Answer Report
judged_boards s =
    choose (ltb (first_unfit s) (boards s)) (refused 1 (first_unfit s))
    (choose (ltb boards_most (boards s)) (refused 3 0) (given (report_of s)))

-- R90: the survey: refusal 1 with place 0 comes first, where the lists do not fit one another
unfoldable pub surveyed : Region → Answer Report
surveyed s = choose (lists_fit s) (judged_boards s) (refused 1 0)

-- A8: what the code's figures say
abbrev pub reported : Option Figures → Report
reported None = none
reported (Some figures) = told figures

-- A8: what each case of the code's answer says
abbrev pub surveyed_says : Result (Option Figures) Refusal → Answer Report
surveyed_says answer = says reported answer
