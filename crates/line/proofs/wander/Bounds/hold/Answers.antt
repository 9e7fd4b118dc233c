-- `hold` meets its contract: what finds no length out of its bounds is the judging.
use Rattle.std.proofs.Common.{◌≡◌, true, false, rules, tests}
use Rattle.std.proofs.lemmas.Iterator.{cases_from_all, YieldsList-from_slice}
use Rattle.measure.specs.Choose.{between}
use Rattle.line.proofs.LengthsFit.{judges}
use Rattle.line.proofs.wander.Bounds.hold.Goals as goal

pub returns : goal.returns
returns c =
    let least = c.args.self.least.0 in
    let most = c.args.self.most.0 in
    judges least most c.args.lengths.now c.all.result
    (cases_from_all _ _ _ (λ one. between least most one ≡ true) (λ one. between least most one ≡ false)
    c.all.ensures.ran (YieldsList-from_slice c.args.lengths.now cc) (λ x q k. search (rules, tests)) (λ x q k. search (rules, tests)))
