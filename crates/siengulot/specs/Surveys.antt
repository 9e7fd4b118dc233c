-- What crosses to C of the survey of a region.
use Rattle.std.specs.Prelude.{ℕ, List, [], ◌∷◌, ℤ}
use Rattle.measure.specs.Refusals.{Answer, given, refused, refused_after}
use Rattle.settings.specs.Survey.{Report, none, told}

-- H20: the smallest margins and their places, as they are lent
pub record Found : Type 0 where
  pub margins : List ℤ
  pub places : List ℕ

-- H20: The refusal's number (0: none), its place, how many boards were surveyed and how many of them are accepted, and
-- the smallest of M1, M2 and M3 one after another with their places. A refusal, and a region with no boards, leave the
-- lent margins and places, and both counts are 0.
abbrev pub surveyed_over : (boards : ℕ) (lent : Found) → Answer Report → (ℕ × ℕ × ℕ × ℕ) × Found
surveyed_over boards lent (given none) = ((0, 0, 0, 0), lent)
surveyed_over boards lent (given (told f)) = (
  (0, 0, boards, f.accepted),
  record {
    margins = f.m1.margin ∷ f.m2.margin ∷ f.m3.margin ∷ [];
    places = f.m1.place ∷ f.m2.place ∷ f.m3.place ∷ [];
  },
)
surveyed_over boards lent (refused number place) = ((number, place, 0, 0), lent)
surveyed_over boards lent (refused_after number place count) = ((number, place, 0, 0), lent)
