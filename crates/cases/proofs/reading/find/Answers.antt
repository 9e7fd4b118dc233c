-- `find` meets its contract: the first entry that passes the test is the first of the sign.
use Rattle.std.proofs.Common.{◌≡◌, refl, sym, rules, tests, ◌∙◌}
use Rattle.std.proofs.lemmas.Iterator.{IsFirst-from_position, YieldsList-from_slice, index_from_first}
use Rattle.cases.specs.Reading.{first_of}
use Rattle.cases.proofs.Signs.{first_hit, first_miss}
use Rattle.cases.proofs.reading.find.Goals as goal

pub returns-clause-found : goal.returns-clause-found
unfolding first_of
returns-clause-found c =
    let sign = c.args.sign in
    let text = c.args.text.now in
    let first = IsFirst-from_position _ _ _ (λ x. x ≡ sign) (λ x. x ≡ sign → ⊥) c.position.ensures.ran (YieldsList-from_slice text cc) (λ x q k. search (rules, tests)) (λ x q k. search (rules, tests)) in
    let found = index_from_first (first_of sign) (λ x. x ≡ sign) (λ x. x ≡ sign → ⊥) refl (first_hit sign) (first_miss sign) text c.position.result first in
    c.unwrap_or.ensures ∙ sym found
