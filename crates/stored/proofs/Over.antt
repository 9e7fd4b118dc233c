-- The joined lead pads of the rows that are left, and the first of them that is over the greatest.
use Rattle.std.proofs.Common.{◌≡◌, true, List, [], ◌∷◌, ℕ, ◌+◌, ◌≤◌, ◌<◌, arith, length, leb, eqb, eqb-true}
use borrow.Author.Tests.{not-true}
use Rattle.measure.specs.Ranges.{pad_most}
use Rattle.measure.specs.Levels.{AtMost}
use Rattle.measure.specs.Lists.{first_above, some_above}
use Rattle.measure.proofs.Above.{first_above_hit, first_above_miss}
use Rattle.measure.proofs.Both.{each}
use Rattle.measure.proofs.LevelLaws.{most_none_some}
use Rattle.sender.specs.Answers.{padded}
use Rattle.stored.specs.Stored.{joined_leads}
use Rattle.stored.specs.Answers.{stored_in_range}
use Rattle.stored.proofs.Joins.{joined_none, joined_more}

-- what keeps the pads of rows within bounds, with so many cycles before the first of them
pub record Bounded (before : ℕ) (leads trails : List ℕ) : Type 0 where
  pub same : length trails ≡ length leads
  pub before_most : before ≤ 65535
  pub leads_most : AtMost pad_most leads
  pub trails_most : AtMost pad_most trails

-- where a stored plan is in range, its pads are
pub all_bounded : (leads trails : List ℕ) → stored_in_range leads trails ≡ true → Bounded 0 leads trails
all_bounded leads trails accepts =
    let row = leb 1 (length leads) in
    let same = eqb (length trails) (length leads) in
    let test = each row (same ∷ padded leads ∷ padded trails ∷ []) accepts in
    record {
      same = eqb-true (length trails) (length leads) (test 1);
      before_most = omega arith;
      leads_most = most_none_some pad_most leads (not-true (some_above pad_most leads) (test 2));
      trails_most = most_none_some pad_most trails (not-true (some_above pad_most trails) (test 3));
    }

pub next_bounded : {before lead trail : ℕ} {leads trails leads' trails' : List ℕ} → Bounded before leads trails
    → leads ≡ lead ∷ leads' → trails ≡ trail ∷ trails' → (lead ≤ 65535) × Bounded trail leads' trails'
next_bounded q e f =
    let m = rw e at q.leads_most in
    let n = rw f at q.trails_most in
    (m.0, record { same = omega (arith, rw (e, f) at q.same); before_most = n.0; leads_most = m.1; trails_most = n.1 })

-- the first row is over itself
pub over_here : (before lead trail : ℕ) (leads trails : List ℕ) → pad_most < before + lead
    → first_above pad_most (joined_leads before (lead ∷ leads) (trail ∷ trails)) ≡ 0
over_here before lead trail leads trails h =
    rw (joined_more before lead trail leads trails) (first_above_hit pad_most (before + lead) _ h)

-- or it is not, and the first is among the others
pub over_later : (before : ℕ) {lead trail : ℕ} {leads trails leads' trails' : List ℕ} → leads ≡ lead ∷ leads'
    → trails ≡ trail ∷ trails' → before + lead ≤ pad_most
    → first_above pad_most (joined_leads before leads trails) ≡ first_above pad_most (joined_leads trail leads' trails') + 1
over_later before {lead} e f h =
    rw (e, f, joined_more before lead) (first_above_miss pad_most (before + lead) _ h)

-- or there is none left
pub over_none : (before : ℕ) (leads trails : List ℕ) → length leads ≡ 0
    → first_above pad_most (joined_leads before leads trails) ≡ 0
unfolding first_above
over_none before [] trails h = rw (joined_none before trails)
over_none before (lead ∷ leads) trails h = absurd (omega arith)
