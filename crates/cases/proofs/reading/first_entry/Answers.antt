-- `first_entry` meets its contract: the entry's digits and what follows them are known.
use Rattle.std.proofs.Common.{◌<◌, length, ◌∙◌, sym, rules, tests}
use Rattle.cases.proofs.Entries.{entry_there, entry_number_is, entry_times_is, entry_rest_is}
use Rattle.cases.proofs.reading.first_entry.Goals as goal

pub returns : goal.returns
returns c =
    let text = c.args.text.now in
    let digits = c.from_digit-digits in
    let after = c.number-first.result.rest.now in
    let some : 0 < length digits.result.now = search (rules, tests) in (
      entry_there text digits.result.now after digits.ensures c.number-first.ensures.rest some,
      c.number-first.ensures.value ∙ sym (entry_number_is text digits.result.now after digits.ensures c.number-first.ensures.rest),
      c.times-many.ensures.value ∙ sym (entry_times_is text digits.result.now after digits.ensures c.number-first.ensures.rest some),
      c.times-many.ensures.rest ∙ entry_rest_is text digits.result.now after digits.ensures c.number-first.ensures.rest,
    )
