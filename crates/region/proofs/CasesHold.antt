-- The definitions compute to what the rules print.
use Rattle.std.proofs.Common.{refl}
use Rattle.measure.specs.Table.{Agree}
use Rattle.settings.specs.Margins.{m1, m2, m3, accepted}
use Rattle.settings.specs.Survey.{first_place, every_place, how_many, is_least, judged_boards, surveyed}
use Rattle.text.specs.Decimal.{decimal_in}
use Rattle.region.specs.Answers.{survey_lines}
use Rattle.region.specs.Cases.{cases}

pub cases_hold : Agree cases
unfolding m1 m2 m3 accepted first_place every_place how_many is_least judged_boards surveyed decimal_in survey_lines
cases_hold = (refl, (refl, (refl, tt)))
