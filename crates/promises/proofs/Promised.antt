-- A test that is failed decides the answer, and one that is passed leaves it to those after it.
use Prim.Native.Nat.{ℕ}
use mathlib.Core.Path.{◌≡◌, refl, sym, ap, ◌∙◌}
use mathlib.Core.Bool.{Bool, true, false, ◌&&◌, not, false≢true}
use mathlib.Core.List.{List, [], ◌∷◌, ◌++◌}
use lib.ListN.{length}
use Rattle.measure.specs.Choose.{choose}
use Rattle.measure.specs.Refusals.{lent}
use Rattle.promises.specs.Promised.{Test, good, first, Answered, setting, room, Fills}

module _ {O : Type 0} {result : O} {refusal : ℕ → ℕ → O} where
  -- no test is left
  pub done : {outcome : O} → outcome ≡ result → Answered [] outcome result refusal
  unfolding good
  done is = record { gives = λ e. is; refuses = λ e. absurd (false≢true (sym e)) }

  pub past : (test : Test) {tests : List Test} {rest : O} → Answered tests rest result refusal
      → Answered (test ∷ tests) (choose test.failed (refusal test.number test.place) rest) result refusal
  unfolding good first
  past test {tests} {rest} so = go test.failed
    where
      go : (failed : Bool)
          → Answered (record { number = test.number; place = test.place; failed = failed } ∷ tests)
          (choose failed (refusal test.number test.place) rest) result refusal
      go true = record { gives = λ e. absurd (false≢true e); refuses = λ e. refl }
      go false = record { gives = λ e. so.gives e; refuses = λ e. so.refuses e }

  -- a test that is said the other way round
  pub within : (fits : Bool) (number place : ℕ) {tests : List Test} {rest : O} → Answered tests rest result refusal
      → Answered (record { number = number; place = place; failed = not fits } ∷ tests)
      (choose fits rest (refusal number place)) result refusal
  unfolding good first
  within true number place so = record { gives = λ e. so.gives e; refuses = λ e. so.refuses e }
  within false number place so = record { gives = λ e. absurd (false≢true e); refuses = λ e. refl }

  pub same : {tests : List Test} {outcome other : O} → outcome ≡ other → Answered tests other result refusal
      → Answered tests outcome result refusal
  same is so = record { gives = λ e. is ∙ so.gives e; refuses = λ e. is ∙ so.refuses e }

-- what is made of an outcome is promised with it
pub across : {O P : Type 0} (make : O → P) {tests : List Test} {outcome result : O} {refusal : ℕ → ℕ → O}
    → Answered tests outcome result refusal
    → Answered tests (make outcome) (make result) (λ number place. make (refusal number place))
across make so = record { gives = λ e. ap make (so.gives e); refuses = λ e. ap make (so.refuses e) }

-- the last test of an operation on a lent output
pub laid : (result output : List ℕ) → Fills (room (length result) output ∷ []) result output (lent result output)
laid result output = past (room (length result) output) (done refl)

-- tests before others
pub good_append : (tests more : List Test) → good (tests ++ more) ≡ (good tests && good more)
unfolding good
good_append [] more = refl
good_append (test ∷ tests) more = go (not test.failed) (good_append tests more)
  where
    go : (passed : Bool) → good (tests ++ more) ≡ (good tests && good more)
        → (passed && good (tests ++ more)) ≡ ((passed && good tests) && good more)
    go true e = e
    go false e = refl

pub first_good : (tests more : List Test) → good tests ≡ true → first (tests ++ more) ≡ first more
unfolding good first
first_good [] more e = refl
first_good (test ∷ tests) more e = go test.failed e (first_good tests more)
  where
    go : (failed : Bool) → (not failed && good tests) ≡ true → (good tests ≡ true → first (tests ++ more) ≡ first more)
        → choose failed (test.number, test.place) (first (tests ++ more)) ≡ first more
    go true e so = absurd (false≢true e)
    go false e so = so e

pub first_bad : (tests more : List Test) → good tests ≡ false → first (tests ++ more) ≡ first tests
unfolding good first
first_bad [] more e = absurd (false≢true (sym e))
first_bad (test ∷ tests) more e = go test.failed e (first_bad tests more)
  where
    go : (failed : Bool) → (not failed && good tests) ≡ false
        → (good tests ≡ false → first (tests ++ more) ≡ first tests)
        → choose failed (test.number, test.place) (first (tests ++ more))
        ≡ choose failed (test.number, test.place) (first tests)
    go true e so = refl
    go false e so = so e

-- One outcome after another: where the first is given, the second follows, by tests of its own.
pub followed : {O P : Type 0} {tests more : List Test} {outcome result : O} {refusal : ℕ → ℕ → O} {end : P}
    {denied : ℕ → ℕ → P} (on : O → P) → Answered tests outcome result refusal
    → ((number place : ℕ) → on (refusal number place) ≡ denied number place)
    → (good tests ≡ true → Answered more (on result) end denied) → Answered (tests ++ more) (on outcome) end denied
followed {tests = tests} {more = more} {outcome = outcome} {end = end} {denied = denied} on one handed other =
    go (good tests) refl
  where
    go : (passed : Bool) → good tests ≡ passed → Answered (tests ++ more) (on outcome) end denied
    go true e = record {
      gives = λ h. ap on (one.gives e) ∙ (other e).gives (rw (good_append tests more, e) at h);
      refuses = λ h. ap on (one.gives e) ∙ (other e).refuses (rw (good_append tests more, e) at h)
          ∙ ap (λ (p : ℕ × ℕ). denied p.0 p.1) (sym (first_good tests more e));
    }
    go false e = record {
      gives = λ h. absurd (false≢true (rw (good_append tests more, e) at h));
      refuses = λ h. ap on (one.refuses e) ∙ handed (first tests).0 (first tests).1
          ∙ ap (λ (p : ℕ × ℕ). denied p.0 p.1) (sym (first_bad tests more e));
    }

-- a yes or no that is made of clauses: of one, and of one more
pub clause : (fits : Bool) → Answered (setting fits ∷ []) fits true (λ number place. false)
unfolding good first
clause true = record { gives = λ e. refl; refuses = λ e. absurd (false≢true (sym e)) }
clause false = record { gives = λ e. absurd (false≢true e); refuses = λ e. refl }

pub also : (fits : Bool) {tests : List Test} {before : Bool} → Answered tests before true (λ number place. false)
    → Answered (tests ++ setting fits ∷ []) (before && fits) true (λ number place. false)
also fits so = followed (λ before. before && fits) so (λ number place. refl) (λ e. clause fits)

-- good input passes each test, and input that passes each is good
pub passes : (test : Test) (tests : List Test) → good (test ∷ tests) ≡ true
    → (test.failed ≡ false) × (good tests ≡ true)
unfolding good
passes test tests = go test.failed
  where
    go : (failed : Bool) → (not failed && good tests) ≡ true → (failed ≡ false) × (good tests ≡ true)
    go true e = absurd (false≢true e)
    go false e = (refl, e)

pub passing : (test : Test) (tests : List Test) → test.failed ≡ false → good tests ≡ true → good (test ∷ tests) ≡ true
unfolding good
passing test tests e so = rw e so

pub none_left : good [] ≡ true
unfolding good
none_left = refl
