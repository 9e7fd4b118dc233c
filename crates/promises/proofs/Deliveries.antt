-- Where the rules' words place a row: the Q reads of a lead are the first that pass the test of lying within it, so the
-- Q-th is the last of them, and the last sample is counted from the read after it.
use mathlib.Core.Path.{◌≡◌, refl, subst, ap, ◌∙◌}
use mathlib.Core.Bool.{Bool, true, false}
use mathlib.Core.List.{List, ◌∷◌}
use Prim.Native.Nat.{ℕ, zero, suc, ◌+◌, ◌-◌, ◌≤◌, ◌<◌, suc-le-suc}
use native.Mathlib.Nat.{add-zero, add-suc, suc-add, zero-add}
use native.Mathlib.Omega.{arith}
use lib.ListN.{length, get_or}
use borrow.Author.Tests.{le-leb, lt-leb, lt-ltb}
use Rattle.sender.specs.Sending.{Row}
use Rattle.sender.proofs.PlanWaves.{length_one}
use Rattle.line.proofs.ClockBounds.{Clock, mono}
use Rattle.board.specs.Feeding.{Report}
use Rattle.promises.specs.Places.{quiet_on, Scene, places_where, numbered, wholly, within_lead}
use Rattle.promises.specs.Places.{heard, last_after, last_sample, deliveries}
use Rattle.promises.specs.Replaced.{reports_at, below}
use Rattle.promises.proofs.Sampling.{Samples, samples_on, sampled_at}
use Rattle.promises.proofs.OneRow.{delivered_at}
use Rattle.promises.proofs.Quiets.{Lead}
use Rattle.promises.proofs.ManyRows.{Fit, Placed, no_row, a_row}

module _ (test : ℕ → Bool) where
  -- d places that do not pass
  passing_none : (d many place : ℕ) → ((i : ℕ) → place ≤ i → i < place + d → test i ≡ false)
      → places_where test place (d + many) ≡ places_where test (place + d) many
  unfolding places_where
  passing_none zero many place f = rw (zero-add, add-zero)
  passing_none (suc d) many place f =
      rw (suc-add, f place (omega arith) (omega arith), add-suc, ← suc-add)
      (passing_none d many (suc place) (λ i p q. f i (omega arith) (omega arith)))

  -- q places and one more that pass
  numbered_all : (q many place : ℕ) → q < many → ((i : ℕ) → place ≤ i → i ≤ place + q → test i ≡ true)
      → numbered (suc q) (places_where test place many) ≡ place + q
  unfolding places_where numbered
  numbered_all q zero place h f = absurd (omega arith)
  numbered_all zero (suc many) place h f = rw (f place (omega arith) (omega arith), add-zero)
  numbered_all (suc q) (suc many) place h f =
      rw (f place (omega arith) (omega arith), add-suc, ← suc-add)
      (numbered_all q many (suc place) (omega arith) (λ i p r. f i (omega arith) (omega arith)))

  many_pass : (q many place : ℕ) → q ≤ many → ((i : ℕ) → place ≤ i → i < place + q → test i ≡ true)
      → q ≤ length (places_where test place many)
  unfolding places_where
  many_pass zero many place h f = omega arith
  many_pass (suc q) zero place h f = absurd (omega arith)
  many_pass (suc q) (suc many) place h f =
      rw (f place (omega arith) (omega arith))
      (suc-le-suc (many_pass q many (suc place) (omega arith) (λ i p r. f i (omega arith) (omega arith))))

  -- the first i0 places do not pass, and the next Q do
  module _ (i0 Q many : ℕ) (fits : i0 + Q ≤ many) (fail : (i : ℕ) → i < i0 → test i ≡ false)
      (pass : (i : ℕ) → i0 ≤ i → i < i0 + Q → test i ≡ true) where
    skipped : places_where test 0 many ≡ places_where test i0 (many - i0)
    skipped =
        ap (λ (m : ℕ). places_where test 0 m) all ∙ passing_none i0 (many - i0) 0 (λ i p q. fail i (omega arith))
        ∙ rw zero-add
      where
        all : many ≡ i0 + (many - i0)
        all = omega arith

    pub enough : Q ≤ length (places_where test 0 many)
    enough = rw skipped (many_pass Q (many - i0) i0 (omega arith) pass)

    pub the_qth : 0 < Q → suc (numbered Q (places_where test 0 many)) ≡ i0 + Q
    the_qth some = rw skipped (go Q some (omega arith) pass)
      where
        go : (Q : ℕ) → 0 < Q → Q ≤ many - i0 → ((i : ℕ) → i0 ≤ i → i < i0 + Q → test i ≡ true)
            → suc (numbered Q (places_where test i0 (many - i0))) ≡ i0 + Q
        go zero p h f = absurd (omega arith)
        go (suc q) p h f = omega (arith, numbered_all q (many - i0) i0 (omega arith) (λ i y z. f i y (omega arith)))

-- rows that are placed among the first N reads are reported below N
pub placed_below : {tw tr D : ℕ → ℕ} {g k Q v r2 d N c : ℕ} {rows : List Row} {fs : List Report}
    → Placed tw tr D g k Q v r2 d N c rows fs → below N fs ≡ fs
unfolding reports_at
placed_below no_row = refl
placed_below {N = N} (a_row {s = s} {row = row} {fs = fs} lead samples within last more) =
    rw (lt-ltb s N within) (ap (λ (l : List Report). delivered_at s row.bits ∷ l) (placed_below more))

module _ (x : Scene) (reader : Clock x.begins x.ends.r1 x.ends.r2) where
  abbrev R : List ℕ
  R = x.reads

  abbrev tw : ℕ → ℕ
  tw = x.starts

  abbrev tr : ℕ → ℕ
  tr = x.begins

  abbrev v : ℕ
  v = quiet_on x.pair

  -- the Q reads of lead cycles are the first that lie wholly within them
  module _ (c m i0 : ℕ) (lead : Lead tw tr x.g x.Q c m i0) (there : i0 + x.Q ≤ length R) where
    outside : (i : ℕ) → i < i0 → wholly x (c + x.g) (c + m) i ≡ false
    outside i h = rw (lt-leb (tw (c + x.g)) (tr i) (omega (arith, lead.first i h)))

    inside : (i : ℕ) → i0 ≤ i → i < i0 + x.Q → wholly x (c + x.g) (c + m) i ≡ true
    inside i h l =
        rw (
          le-leb (tw (c + x.g)) (tr i) (omega (arith, lead.starts, mono reader i0 i h)),
          le-leb (tr (suc i)) (tw (c + m)) (omega (arith, lead.ends, mono reader (suc i) (i0 + x.Q) l)),
        )

    pub lead_enough : x.Q ≤ length (within_lead x c m)
    unfolding within_lead
    lead_enough = enough (wholly x (c + x.g) (c + m)) i0 x.Q (length R) there outside inside

    pub heard_is : 0 < x.Q → suc (heard x c m) ≡ i0 + x.Q
    unfolding heard within_lead
    heard_is = the_qth (wholly x (c + x.g) (c + m)) i0 x.Q (length R) there outside inside

  -- the n-th sample that the counted rule finds after a read
  pub last_after_lem : (read : ℕ) {j s : ℕ} → suc read ≡ j → Samples x.k (λ i. get_or R i 2) x.n v j s → s < length R
      → last_after x read ≡ s
  last_after_lem read e samples there = rw e (sampled_at R samples there)

  -- rows that are placed are placed where the rules' words place them
  pub placed_is : {c : ℕ} {rows : List Row} {fs : List Report} → 0 < x.Q
      → Fit x.n x.Q x.g x.ends.w1 x.ends.r2 rows
      → Placed tw tr (λ i. get_or R i 2) x.g x.k x.Q v x.ends.r2 (x.a + x.b) (length R) c rows fs
      → fs ≡ deliveries x c rows
  unfolding deliveries last_sample
  placed_is some fit no_row = refl
  placed_is {c} some fit (a_row {i0 = i0} {s = s} {row = row} {rows = rows} {fs = fs} lead samples within last more) =
      rw (sampled, length_one x.a x.b row)
      (ap (λ (l : List Report). delivered_at s row.bits ∷ l) (placed_is some fit.3 more))
    where
      sampled : last_after x (heard x c row.lead) ≡ s
      sampled =
          last_after_lem (heard x c row.lead) (heard_is c row.lead i0 lead (omega (arith, samples_on samples)) some)
          (subst (λ (n : ℕ). Samples x.k (λ i. get_or R i 2) n v (i0 + x.Q) s) fit.1 samples) within
