-- `from_digit` meets its contract: the first sign that passes the test is the first digit.
use Rattle.std.proofs.Common.{◌≡◌, ℕ, ◌<◌, ◌≤◌, drop, length-drop, take_all, refl, sym, ap, arith, rules, tests, ◌∙◌}
use Rattle.std.proofs.lemmas.Iterator.{IsFirst-from_position, YieldsList-from_slice, index_from_first}
use Rattle.cases.specs.Reading.{digit_of, first_digit}
use Rattle.cases.proofs.Signs.{digit_hit, digit_miss}
use Rattle.cases.proofs.reading.from_digit.Goals as goal

pub returns : goal.returns
unfolding first_digit
returns c =
    let text = c.args.text.now in
    let first = IsFirst-from_position _ _ _ (λ x. digit_of x < 10) (λ x. 10 ≤ digit_of x) c.position.ensures.ran (YieldsList-from_slice text cc) (λ x q k. search (rules, tests)) (λ x q k. search (rules, tests)) in
    let found = index_from_first first_digit (λ x. digit_of x < 10) (λ x. 10 ≤ digit_of x) refl digit_hit digit_miss text c.position.result first in
    let place : c.unwrap_or-before.result ≡ first_digit text = c.unwrap_or-before.ensures ∙ sym found in
    take_all _ _ (omega (arith, length-drop c.unwrap_or-before.result text)) ∙ ap (λ (n : ℕ). drop n text) place
