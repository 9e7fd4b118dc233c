-- `search` meets its contract: the first entry that passes the test is the first above the bound.
use Rattle.std.proofs.Common.{◌∙◌, ◌≤◌, ◌<◌, refl, sym, rules, tests}
use Rattle.std.proofs.lemmas.Iterator.{IsFirst-from_position, YieldsList-from_slice, index_from_first}
use Rattle.measure.specs.Lists.{first_above}
use Rattle.measure.proofs.Above.{first_above_hit, first_above_miss}
use Rattle.measure.proofs.search.Goals as goal

pub returns : goal.returns
unfolding first_above
returns c =
    let m = c.args.most in
    let first = IsFirst-from_position _ _ _ (λ x. m < x) (λ x. x ≤ m) c.position.ensures.ran (YieldsList-from_slice c.args.entries.now cc) (λ x q k. search (rules, tests)) (λ x q k. search (rules, tests)) in
    let found = index_from_first (first_above m) (λ x. m < x) (λ x. x ≤ m) refl (first_above_hit m) (first_above_miss m) c.args.entries.now c.position.result first in
    c.unwrap_or.ensures ∙ sym found
