-- Places that pass a test: the first, all, and how many.
use Rattle.std.proofs.Common.{◌≡◌, refl, Bool, true, false, ◌&&◌, ℕ, zero, suc, ◌+◌, ◌<◌, ◌≤◌, add-one, arith}
use native.Mathlib.Decide.{dec_le}
use Rattle.settings.specs.Survey.{first_place, every_place, how_many}

pub first_found : (n : ℕ) (test : ℕ → Bool) (i : ℕ) → i < n → ((j : ℕ) → j < i → test j ≡ false) → test i ≡ true
    → first_place n test ≡ i
unfolding first_place
first_found zero test i l before here = absurd (omega arith)
first_found (suc n) test zero l before here = rw here
first_found (suc n) test (suc i) l before here =
    rw (
      before 0 (omega arith),
      first_found n (λ j. test (suc j)) i (omega arith) (λ j h. before (suc j) (omega arith)) here,
    )

pub first_none : (n : ℕ) (test : ℕ → Bool) → ((j : ℕ) → j < n → test j ≡ false) → first_place n test ≡ n
unfolding first_place
first_none zero test none = refl
first_none (suc n) test none =
    rw (none 0 (omega arith), first_none n (λ j. test (suc j)) (λ j h. none (suc j) (omega arith)))

pub every_passes : (n : ℕ) (test : ℕ → Bool) → ((j : ℕ) → j < n → test j ≡ true) → every_place n test ≡ true
unfolding every_place
every_passes zero test each = refl
every_passes (suc n) test each = rw (every_passes n test (λ j h. each j (omega arith)), each n (omega arith))

last_fails : (one : Bool) → one && false ≡ false
last_fails true = refl
last_fails false = refl

pub every_fails : (n : ℕ) (test : ℕ → Bool) (i : ℕ) → i < n → test i ≡ false → every_place n test ≡ false
unfolding every_place
every_fails zero test i l fails = absurd (omega arith)
every_fails (suc n) test i l fails = go (dec_le n i) (λ h. every_fails n test i h fails)
  where
    go : Dec (n ≤ i) → (i < n → every_place n test ≡ false) → every_place n test && test n ≡ false
    go (no h) before = rw (before (omega arith))
    go (yes h) before =
        let e : n ≡ i = omega arith in
        rw (e, fails) (last_fails (every_place i test))

pub one_more : (n : ℕ) (test : ℕ → Bool) → test n ≡ true → how_many (n + 1) test ≡ how_many n test + 1
unfolding how_many
one_more n test passes = rw (add-one, passes, add-one)

pub no_more : (n : ℕ) (test : ℕ → Bool) → test n ≡ false → how_many (n + 1) test ≡ how_many n test
unfolding how_many
no_more n test fails = rw (add-one, fails)
