-- `pads_in_range` meets its contract: the pads are in range where each passes the test.
use Rattle.std.proofs.Common.{◌∙◌, sym, rules, tests, leb}
use Rattle.std.proofs.lemmas.Iterator.{YieldsList-from_slice}
use Rattle.std.proofs.lemmas.Iterator.Search.{all_from_yields_List}
use Rattle.measure.specs.Ranges.{pad_most}
use Rattle.sender.proofs.Ranged.{padded_all}
use Rattle.sender.proofs.pads_in_range.Goals as goal

pub returns : goal.returns
returns c =
    all_from_yields_List (λ pad. leb pad pad_most) _ _ _ c.all.ensures.ran (YieldsList-from_slice c.args.pads.now cc)
    (λ x b q k. search (rules, tests))
    ∙ sym (padded_all c.args.pads.now)
