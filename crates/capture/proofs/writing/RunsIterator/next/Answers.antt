-- `next` of the runs meets its contract: the reads at the front that are alike are a run, and the runs of the others
-- follow.
use Rattle.std.proofs.Common.{refl, sym, ap, ◌∙◌, ◌≡◌, length, rules, tests, arith}
use Rattle.std.proofs.lemmas.Iterator.{IsFirst-from_position, YieldsList-from_slice, index_from_first}
use Rattle.capture.proofs.Grouping.{alike, alike_hit, alike_miss, next_run, no_runs}
use Rattle.capture.proofs.writing.RunsIterator.next.Goals as goal

pub returns-in_err-level-clause-steps : goal.returns-in_err-level-clause-steps
returns-in_err-level-clause-steps c =
    let none = no_runs c.args.self.now.0.now c.in_err-level.ensures.cases in
    rw c.from_residual.ensures (none, none)

-- how many of the others are alike
found : (c : goal.After-self-2-1) → c.unwrap_or-alike.result ≡ alike c.in_ok-level.level.now c.in_ok-level.others.now
found c =
    let level = c.in_ok-level.level.now in
    let others = c.in_ok-level.others.now in
    let first =
    IsFirst-from_position _ _ _ (λ x. x ≡ level → ⊥) (λ x. x ≡ level) c.position.ensures.ran
    (YieldsList-from_slice others cc) (λ x q k. search (rules, tests)) (λ x q k. search (rules, tests)) in
    c.unwrap_or-alike.ensures
    ∙ sym (index_from_first (alike level) (λ x. x ≡ level → ⊥) (λ x. x ≡ level) refl (alike_hit level)
    (alike_miss level) others c.position.result first)

pub returns-clause-steps : goal.returns-clause-steps
returns-clause-steps c = rw c.in_ok-level.ensures.cases.0 (next_run _ c.in_ok-level.others.now _ (found c))

pub returns-clause-goes : goal.returns-clause-goes
returns-clause-goes c =
    let e = next_run _ c.in_ok-level.others.now _ (found c) in
    record {
      on = λ f. (tt, tt, rw c.in_ok-level.ensures.cases.0 (omega (arith, ap length e)));
      keeps = tt;
      rests = λ f. tt;
    }
