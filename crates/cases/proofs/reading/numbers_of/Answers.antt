-- `numbers_of` meets its contract: the array has the number of each place, and so many places as it has.
use Rattle.std.proofs.Common.{◌∙◌, ap, ℕ, rules}
use Rattle.cases.specs.Reading.{numbers_from, number_words}
use Rattle.cases.proofs.Listing.{each_listed}
use Rattle.cases.proofs.reading.numbers_of.Goals as goal

pub returns : goal.returns
returns g c =
    each_listed 0 (number_words c.args.case.now) c.number_list.new.list (λ i l. search rules)
    ∙ ap (λ (n : ℕ). numbers_from n 0 (number_words c.args.case.now)) (search rules)
