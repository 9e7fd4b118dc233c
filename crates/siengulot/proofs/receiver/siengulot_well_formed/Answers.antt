-- `siengulot_well_formed` meets its contract: the two tests are the definition's.
use Rattle.siengulot.proofs.Brought.{ill_formed, well_formed_brought}
use Rattle.siengulot.proofs.receiver.siengulot_well_formed.Goals as goal

pub returns-in_default : goal.returns-in_default
returns-in_default c = ill_formed _ _ c.in_default.ensures

pub returns : goal.returns
returns c =
    let made = c.in-Some.ensures in
    well_formed_brought _ _ made.0 (made.1 _) c.well_formed-2.ensures c.flag.ensures
