-- When margins are zero or more, said without a difference: what a margin takes away is at most what it has.
use Rattle.std.proofs.Common.{◌≡◌, sym, ap, ◌∙◌, true, ℕ, zero, suc, ◌+◌, ◌*◌, ◌≤◌, zero-mul, add-zero, arith, leb, ℤ}
use Rattle.std.proofs.Common.{pos, neg_ℤ, ◌+ℤ◌, ◌-ℤ◌, ◌*ℤ◌, lt-ltb, le-ltb, le-leb, leb-true}
use Rattle.std.proofs.lemmas.Bool.{lt-leb}
use native.Mathlib.Decide.{dec_le}
use lib.IntN.{+ℤ-pred_ℤ, +ℤ_assoc, +ℤ_comm, neg_ℤ-+ℤ, neg_ℤ-suc_ℤ, pred_ℤ-*ℤ}
use Rattle.measure.proofs.Both.{both_3}
use Rattle.settings.specs.Margins.{Ends, m1, m2, m3, m4, m5, zero_or_more, accepted, quiet_accepted}

-- a difference of two lengths is zero or more exactly if the second is at most the first
pub difference_met : (p q : ℕ) → zero_or_more (pos p -ℤ pos q) ≡ leb q p
difference_met p zero = sym (le-leb 0 p (omega arith))
difference_met p (suc q) = go (dec_le (suc q) p)
  where
    go : Dec (suc q ≤ p) → zero_or_more (pos p -ℤ pos (suc q)) ≡ leb (suc q) p
    go (yes h) = rw (le-ltb p (suc q) h, le-leb (suc q) p h)
    go (no h) = rw (lt-ltb p (suc q) (omega arith), lt-leb (suc q) p (omega arith))

pub less_less : (z : ℤ) (a b : ℕ) → z -ℤ pos a -ℤ pos b ≡ z -ℤ pos (a + b)
less_less z a b = +ℤ_assoc z (neg_ℤ (pos a)) (neg_ℤ (pos b)) ∙ ap (λ (y : ℤ). z +ℤ y) (sym (neg_ℤ-+ℤ (pos a) (pos b)))

times_less : (x c u : ℕ) → (pos x -ℤ pos c) *ℤ pos u ≡ pos (x * u) -ℤ pos (c * u)
times_less x zero u = rw (zero-mul u, add-zero x, add-zero (x * u))
times_less x (suc c) u =
    ap (λ (y : ℤ). (pos x +ℤ y) *ℤ pos u) (neg_ℤ-suc_ℤ (pos c))
    ∙ ap (λ (y : ℤ). y *ℤ pos u) (+ℤ-pred_ℤ (pos x) (neg_ℤ (pos c)))
    ∙ pred_ℤ-*ℤ (pos x -ℤ pos c) (pos u)
    ∙ ap (λ (y : ℤ). y -ℤ pos u) (times_less x c u)
    ∙ less_less (pos (x * u)) (c * u) u
    ∙ ap (λ (n : ℕ). pos (x * u) -ℤ pos n) (more c u)
  where
    more : (c u : ℕ) → c * u + u ≡ suc c * u
    more c u = omega arith

-- The one form of all five margins, with x, c and y counts and u and v lengths, as a difference of two lengths.
pub margin_is : (x c u y v : ℕ) → (pos x -ℤ pos c) *ℤ pos u -ℤ pos y *ℤ pos v ≡ pos (x * u) -ℤ pos (c * u + y * v)
margin_is x c u y v = ap (λ (z : ℤ). z -ℤ pos (y * v)) (times_less x c u) ∙ less_less (pos (x * u)) (c * u) (y * v)

pub margin_met : (x c u y v : ℕ)
    → zero_or_more ((pos x -ℤ pos c) *ℤ pos u -ℤ pos y *ℤ pos v) ≡ leb (c * u + y * v) (x * u)
margin_met x c u y v = ap zero_or_more (margin_is x c u y v) ∙ difference_met (x * u) (c * u + y * v)

-- The same of a margin that is -d or more.
pub margin_least : (d x c u y v : ℕ)
    → zero_or_more ((pos x -ℤ pos c) *ℤ pos u -ℤ pos y *ℤ pos v +ℤ pos d) ≡ leb (c * u + y * v) (x * u + d)
margin_least d x c u y v =
    ap (λ (z : ℤ). zero_or_more (z +ℤ pos d)) (margin_is x c u y v)
    ∙ ap zero_or_more (later (x * u) (c * u + y * v))
    ∙ difference_met (x * u + d) (c * u + y * v)
  where
    later : (p q : ℕ) → pos p -ℤ pos q +ℤ pos d ≡ pos (p + d) -ℤ pos q
    later p q =
        +ℤ_assoc (pos p) (neg_ℤ (pos q)) (pos d)
        ∙ ap (λ (z : ℤ). pos p +ℤ z) (+ℤ_comm (neg_ℤ (pos q)) (pos d))
        ∙ sym (+ℤ_assoc (pos p) (pos d) (neg_ℤ (pos q)))

-- Each margin is zero or more exactly if what it takes away is at most what it has.
pub m1_met : (a g : ℕ) (e : Ends) → zero_or_more (m1 a g e) ≡ leb (2 * e.r2 + g * e.w1) (a * e.w1)
unfolding m1
m1_met a g e = margin_met a g e.w1 2 e.r2 ∙ ap (λ (n : ℕ). leb n (a * e.w1)) (omega arith)

pub m2_met : (a g k : ℕ) (e : Ends) → zero_or_more (m2 a g k e) ≡ leb ((a + g) * e.w2 + e.r1) (k * e.r1)
unfolding m2
m2_met a g k e = margin_met k 1 e.r1 (a + g) e.w2 ∙ ap (λ (n : ℕ). leb n (k * e.r1)) (omega arith)

pub m3_met : (a b g k : ℕ) (e : Ends)
    → zero_or_more (m3 a b g k e) ≡ leb ((k + 2) * e.r2 + g * e.w1) ((a + b) * e.w1)
unfolding m3
m3_met a b g k e =
    margin_met (a + b) g e.w1 (k + 2) e.r2 ∙ ap (λ (n : ℕ). leb n ((a + b) * e.w1)) (omega arith)

pub m4_met : (a b g : ℕ) (e : Ends) (Q : ℕ)
    → zero_or_more (m4 a b g e Q) ≡ leb ((a + b + g) * e.w2 + 2 * e.r1) (Q * e.r1)
unfolding m4
m4_met a b g e Q = margin_met Q 2 e.r1 (a + b + g) e.w2 ∙ ap (λ (n : ℕ). leb n (Q * e.r1)) (omega arith)

pub m5_met : (g : ℕ) (e : Ends) (Q p1 : ℕ)
    → zero_or_more (m5 g e Q p1) ≡ leb ((Q + 1) * e.r2 + g * e.w1) (p1 * e.w1)
unfolding m5
m5_met g e Q p1 = margin_met p1 g e.w1 (Q + 1) e.r2 ∙ ap (λ (n : ℕ). leb n (p1 * e.w1)) (omega arith)

-- what accepted settings keep to: M1, M2 and M3
pub record Accepted (a b g k : ℕ) (e : Ends) : Type 0 where
  pub M1 : 2 * e.r2 + g * e.w1 ≤ a * e.w1
  pub M2 : (a + g) * e.w2 + e.r1 ≤ k * e.r1
  pub M3 : (k + 2) * e.r2 + g * e.w1 ≤ (a + b) * e.w1

-- what accepted quiet settings keep to besides: M4 and M5
pub record QuietAccepted (a b g : ℕ) (e : Ends) (Q p1 : ℕ) : Type 0 where
  pub M4 : (a + b + g) * e.w2 + 2 * e.r1 ≤ Q * e.r1
  pub M5 : (Q + 1) * e.r2 + g * e.w1 ≤ p1 * e.w1

pub accepted_keeps : (a b g k : ℕ) (e : Ends) → accepted a b g k e ≡ true → Accepted a b g k e
unfolding accepted
accepted_keeps a b g k e met =
    let parts = both_3 (zero_or_more (m1 a g e)) (zero_or_more (m2 a g k e)) (zero_or_more (m3 a b g k e)) met in
    record {
      M1 = leb-true _ _ (sym (m1_met a g e) ∙ parts.0);
      M2 = leb-true _ _ (sym (m2_met a g k e) ∙ parts.1);
      M3 = leb-true _ _ (sym (m3_met a b g k e) ∙ parts.2);
    }

pub keeps_accepted : (a b g k : ℕ) (e : Ends) → Accepted a b g k e → accepted a b g k e ≡ true
unfolding accepted
keeps_accepted a b g k e h =
    rw (
      m1_met a g e ∙ le-leb _ _ h.M1,
      m2_met a g k e ∙ le-leb _ _ h.M2,
      m3_met a b g k e ∙ le-leb _ _ h.M3,
    )

pub quiet_keeps : (a b g k : ℕ) (e : Ends) (Q p1 : ℕ) → quiet_accepted a b g k e Q p1 ≡ true
    → Accepted a b g k e × QuietAccepted a b g e Q p1
unfolding quiet_accepted
quiet_keeps a b g k e Q p1 met =
    let parts = both_3 (accepted a b g k e) (zero_or_more (m4 a b g e Q)) (zero_or_more (m5 g e Q p1)) met in (
      accepted_keeps a b g k e parts.0,
      record {
        M4 = leb-true _ _ (sym (m4_met a b g e Q) ∙ parts.1);
        M5 = leb-true _ _ (sym (m5_met g e Q p1) ∙ parts.2);
      },
    )

pub keeps_quiet : (a b g k : ℕ) (e : Ends) (Q p1 : ℕ) → Accepted a b g k e → QuietAccepted a b g e Q p1
    → quiet_accepted a b g k e Q p1 ≡ true
unfolding quiet_accepted
keeps_quiet a b g k e Q p1 h q =
    rw (keeps_accepted a b g k e h, m4_met a b g e Q ∙ le-leb _ _ q.M4, m5_met g e Q p1 ∙ le-leb _ _ q.M5)
