-- What levels one after another agree on: two stretches of them that meet or overlap agree on what the whole does. A
-- wave with g high cycles before it is smoothed by what g + 1 of its levels agree on.
use Rattle.std.proofs.Common.{◌≡◌, refl, sym, ap, subst, ◌∙◌, ◌≢◌, List, ◌∷◌, ◌++◌, ℕ, zero, suc, ◌+◌, ◌-◌, ◌≤◌, ◌<◌, add-zero, add-suc, suc-add, add_assoc, arith, add-one, length, get_or, ext_get_or, eq-eqb, ne_eqb, lt-ltb, le-ltb}
use mathlib.Core.Logic.{dite}
use native.Mathlib.Decide.{ℕ_discrete, dec_le}
use Rattle.std.proofs.lemmas.List.{get_or_append_left}
use Rattle.measure.proofs.LevelLaws.{get_d_any}
use Rattle.line.specs.Smooth.{smooth}
use Rattle.line.specs.Warp.{reconcile}
use Rattle.line.specs.Windows.{level_at, led, agreeing, listed, agreed_apart, Holds, Widens}
use Rattle.line.proofs.AgreeLaws.{reconcile_same}
use Rattle.line.proofs.SmoothLaws.{length_smooth, kept, flat, stretch_known}

-- where all of them are v, so is what they agree on
pub all_agree : (W : ℕ → ℕ) (more start v : ℕ) → ((i : ℕ) → start ≤ i → i ≤ start + more → W i ≡ v)
    → agreeing W more start ≡ v
unfolding agreeing
all_agree W zero start v h = h start (omega arith) (omega arith)
all_agree W (suc more) start v h =
    rw (all_agree W more (suc start) v (λ i p q. h i (omega arith) (omega arith)), h start (omega arith) (omega arith))
    (reconcile_same v)

reconciled : (x y v : ℕ) → reconcile x y ≡ v → v ≢ 2 → (x ≡ v) × (y ≡ v)
reconciled x y v e k =
    dite (ℕ_discrete x y) (λ s. let f = rw (eq-eqb x y s) at e in (f, sym s ∙ f))
    (λ d. absurd (k (sym (rw (ne_eqb x y d) at e))))

-- where that is not unknown, they all are that
pub agree_all : (W : ℕ → ℕ) (more start v : ℕ) → agreeing W more start ≡ v → v ≢ 2
    → (i : ℕ) → start ≤ i → i ≤ start + more → W i ≡ v
unfolding agreeing
agree_all W zero start v e k i p q = subst (λ (x : ℕ). W x ≡ v) (omega arith) e
agree_all W (suc more) start v e k i p q =
    let (later, this) = reconciled (agreeing W more (suc start)) (W start) v e k in
    dite (dec_le (suc start) i) (λ h. agree_all W more (suc start) v later k i h (omega arith))
    (λ h. subst (λ (x : ℕ). W x ≡ v) (omega arith) this)

-- the same levels elsewhere
pub agreeing_same : (W U : ℕ → ℕ) (more start there : ℕ) → ((i : ℕ) → i ≤ more → W (start + i) ≡ U (there + i))
    → agreeing W more start ≡ agreeing U more there
unfolding agreeing
agreeing_same W U zero start there h = rw (add-zero start, add-zero there) at (h 0 (omega arith))
agreeing_same W U (suc more) start there h =
    rw (
      agreeing_same W U more (suc start) (suc there)
          (λ i p.
          rw (add-suc start i, add-suc there i, ← suc-add start i, ← suc-add there i) at (h (suc i) (omega arith))),
      rw (add-zero start, add-zero there) at (h 0 (omega arith)),
    )

-- two stretches of the same length, of which the later starts within the earlier or right after it
module _ (W : ℕ → ℕ) (reach apart start : ℕ) (near : apart ≤ suc reach) where
  abbrev both : ℕ
  both = agreeing W (reach + apart) start

  abbrev late : ℕ
  late = agreeing W reach (start + apart)

  abbrev early : ℕ
  early = agreeing W reach start

  wider_known : both ≢ 2 → reconcile late early ≡ both
  wider_known k =
      rw (
        all_agree W reach (start + apart) both
            (λ i p q. agree_all W (reach + apart) start both refl k i (omega arith) (omega arith)),
        all_agree W reach start both
            (λ i p q. agree_all W (reach + apart) start both refl k i (omega arith) (omega arith)),
      )
      (reconcile_same both)

  whole : late ≡ early → late ≢ 2 → both ≡ late
  whole e k =
      all_agree W (reach + apart) start late λ i p q.
      dite (dec_le (start + apart) i) (λ h. agree_all W reach (start + apart) late refl k i h (omega arith))
      (λ h. agree_all W reach start late (sym e) k i p (omega arith))

  wider_unknown : both ≡ 2 → reconcile late early ≡ both
  wider_unknown u =
      dite (ℕ_discrete late early)
      (λ e. rw (eq-eqb late early e)
      (dite (ℕ_discrete late 2) (λ t. t ∙ sym u) (λ k. absurd (k (sym (whole e k) ∙ u)))))
      (λ d. rw (ne_eqb late early d) (sym u))

  pub agree_wider : reconcile late early ≡ both
  agree_wider = dite (ℕ_discrete both 2) wider_unknown wider_known

pub length_listed : (f : ℕ → ℕ) (from count : ℕ) → length (listed f from count) ≡ count
unfolding listed
length_listed f from zero = refl
length_listed f from (suc count) = ap suc (length_listed f (suc from) count)

pub listed_at : (f : ℕ → ℕ) (from count i : ℕ) → i < count → level_at (listed f from count) i ≡ f (from + i)
unfolding listed
listed_at f from zero i h = absurd (omega arith)
listed_at f from (suc count) zero h = rw add-zero
listed_at f from (suc count) (suc i) h =
    rw (add-suc from i, ← suc-add from i) (listed_at f (suc from) count i (omega arith))

pub listed_same : (f h : ℕ → ℕ) (from there count : ℕ) → ((i : ℕ) → i < count → f (from + i) ≡ h (there + i))
    → listed f from count ≡ listed h there count
listed_same f h from there count same =
    ext_get_or 2 (listed f from count) (listed h there count)
    (length_listed f from count ∙ sym (length_listed h there count))
    λ i p. let q : i < count = rw (length_listed f from count) at p in
    listed_at f from count i q ∙ same i q ∙ sym (listed_at h there count i q)

pub listed_split : (f : ℕ → ℕ) (from one other : ℕ)
    → listed f from (one + other) ≡ listed f from one ++ listed f (from + one) other
unfolding listed
listed_split f from zero other =
    let e : zero + other ≡ other = omega arith in
    rw (e, add-zero from)
listed_split f from (suc one) other =
    let e : suc one + other ≡ suc (one + other) = omega arith in
    rw (e, add-suc from one, ← suc-add from one) (ap (λ l. f from ∷ l) (listed_split f (suc from) one other))

-- a list whose entries are such values, in turn
pub listed_by : (f : ℕ → ℕ) (xs : List ℕ) (count : ℕ) → length xs ≡ count
    → ((i : ℕ) → i < count → get_or xs i 0 ≡ f i) → listed f 0 count ≡ xs
listed_by f xs count size is =
    ext_get_or 2 (listed f 0 count) xs (length_listed f 0 count ∙ sym size)
    λ i p. let q : i < count = rw (length_listed f 0 count) at p in
    let e : 0 + i ≡ i = omega arith in
    rw e at (listed_at f 0 count i q) ∙ sym (is i q) ∙ get_d_any xs i 0 2 (omega arith)

-- values one after another stand at the front of a list
front_at : (f : ℕ → ℕ) (front rest : List ℕ) (count : ℕ) → listed f 0 count ≡ front → (i : ℕ) → i < count
    → level_at (front ++ rest) i ≡ f i
front_at f front rest count is i h =
    let size : length front ≡ count = ap length (sym is) ∙ length_listed f 0 count in
    let e : 0 + i ≡ i = omega arith in
    get_or_append_left front rest 2 i (omega arith) ∙ ap (λ (l : List ℕ). level_at l i) (sym is)
    ∙ rw e at (listed_at f 0 count i h)

-- a list of what reach + 1 levels agree on, compared with itself some places further on, is one of what more of them do
module _ (W : ℕ → ℕ) (reach apart start count : ℕ) (held : List ℕ) (near : apart ≤ suc reach) where
  pub holds_wider : Holds W reach start (count + apart) held
      → (i : ℕ) → i < count → agreed_apart (level_at held) apart i ≡ agreeing W (reach + apart) (start + i)
  holds_wider holds i h =
      rw (holds (i + apart) (omega arith), holds i (omega arith), ← add_assoc start i apart)
      (agree_wider W reach apart (start + i) near)

  -- also where it stands at the front of another list
  pub front_wider : (front rest : List ℕ) → Holds W reach start (count + apart) held
      → listed (agreed_apart (level_at held) apart) 0 count ≡ front
      → Holds W (reach + apart) start count (front ++ rest)
  front_wider front rest holds is i h =
      front_at (agreed_apart (level_at held) apart) front rest count is i h ∙ holds_wider holds i h

module _ (reach g count : ℕ) (held after : List ℕ) where
  -- the last step
  pub widens_last : reach < g → g - reach ≤ reach + 1
      → listed (agreed_apart (level_at held) (g - reach)) 0 count ≡ after → Widens reach g count held after
  widens_last less near is W start holds =
      let e : reach + (g - reach) ≡ g = omega arith in
      sym (listed_same (agreed_apart (level_at held) (g - reach)) (agreeing W g) 0 start count λ i h.
      let f : 0 + i ≡ i = omega arith in
      rw f
      (holds_wider W reach (g - reach) start count held (omega arith) holds i h
      ∙ ap (λ (n : ℕ). agreeing W n (start + i)) e))
      ∙ is

  -- any other, which stands at the front of another list
  pub widens_again : (wanted : ℕ) (front rest : List ℕ) → reach + 1 < g - reach
      → wanted ≡ count + (g - reach - (reach + 1))
      → listed (agreed_apart (level_at held) (reach + 1)) 0 wanted ≡ front
      → Widens (reach + (reach + 1)) g count (front ++ rest) after → Widens reach g count held after
  widens_again wanted front rest more size is again W start holds =
      let had : count + (g - reach) ≡ wanted + (reach + 1) = omega arith in
      let wants : count + (g - (reach + (reach + 1))) ≡ wanted = omega arith in
      again W start
      (rw wants (front_wider W reach (reach + 1) start wanted held (omega arith) front rest (rw had at holds) is))

-- the first step, from the levels themselves
first_step : (W : ℕ → ℕ) (i : ℕ) → agreed_apart W 1 i ≡ agreeing W 1 i
unfolding agreeing
first_step W i = rw add-one

module _ (W : ℕ → ℕ) (count : ℕ) (after : List ℕ) where
  -- it is the only one for a g of 1
  pub block_one : (g : ℕ) → g ≡ 1 → listed (agreed_apart W 1) 0 count ≡ after → listed (agreeing W g) 0 count ≡ after
  block_one g e is =
      rw e (sym (listed_same (agreed_apart W 1) (agreeing W 1) 0 0 count λ i h. first_step W (0 + i)) ∙ is)

  pub block_more : (g wanted : ℕ) (front rest : List ℕ) → wanted ≡ count + (g - 1)
      → listed (agreed_apart W 1) 0 wanted ≡ front → Widens 1 g count (front ++ rest) after
      → listed (agreeing W g) 0 count ≡ after
  block_more g wanted front rest size is widens =
      widens W 0 λ i h.
      let e : 0 + i ≡ i = omega arith in
      rw e (front_at (agreed_apart W 1) front rest wanted is i (omega arith) ∙ first_step W i)

module _ (g : ℕ) (wave : List ℕ) where
  -- the led wave by places
  pub led_before : (i : ℕ) → i < g → led g wave i ≡ 1
  led_before i h = rw (lt-ltb i g h)

  pub led_from : (i : ℕ) → g ≤ i → led g wave i ≡ level_at wave (i - g)
  led_from i h = rw (le-ltb i g h)

  -- a cycle becomes what it and the g before it agree on
  module _ (i : ℕ) (there : i < length wave) where
    abbrev this : ℕ
    this = level_at (smooth g wave) i

    abbrev all : ℕ
    all = agreeing (led g wave) g i

    known : this ≢ 2 → this ≡ all
    known k =
        let (z, before, level) = kept g 0 1 wave i this (omega arith) k refl in
        sym (all_agree (led g wave) g i this λ j p q.
        dite (dec_le g j) (λ h. led_from j h ∙ level (j - g) (omega arith) (omega arith))
        (λ h. led_before j (omega arith) ∙ before (omega arith)))

    back : all ≢ 2 → (j : ℕ) → j ≤ i → i ≤ j + g → level_at wave j ≡ all
    back k j p q =
        let e : j + g - g ≡ j = omega arith in
        rw e at (sym (led_from (j + g) (omega arith))
        ∙ agree_all (led g wave) g i all refl k (j + g) (omega arith) (omega arith))

    stays : all ≢ 2 → Dec (g ≤ i) → this ≡ all
    stays k (yes h) =
        stretch_known g wave 0 1 (i - g) (suc g) all (omega arith) (λ j p q. back k j (omega arith) (omega arith))
        (omega arith) i (omega arith) (omega arith)
    stays k (no h) =
        let high : 1 ≡ all =
        sym (led_before i (omega arith)) ∙ agree_all (led g wave) g i all refl k i (omega arith) (omega arith) in
        subst (λ (v : ℕ). level_at (smooth g wave) i ≡ v) high
        (flat g wave 0 1 i (suc i) (λ j p. back k j (omega arith) (omega arith) ∙ sym high) (omega arith) (omega arith)
        (omega arith))

    unknown : this ≡ 2 → this ≡ all
    unknown u = dite (ℕ_discrete all 2) (λ t. u ∙ sym t) (λ k. stays k (dec_le g i))

    pub smooth_agreeing : level_at (smooth g wave) i ≡ agreeing (led g wave) g i
    smooth_agreeing = dite (ℕ_discrete this 2) unknown known

  pub smooth_listed : smooth g wave ≡ listed (agreeing (led g wave) g) 0 (length wave)
  smooth_listed =
      ext_get_or 2 (smooth g wave) (listed (agreeing (led g wave) g) 0 (length wave))
      (length_smooth g wave ∙ sym (length_listed (agreeing (led g wave) g) 0 (length wave)))
      λ i p. let q : i < length wave = rw (length_smooth g wave) at p in
      let e : 0 + i ≡ i = omega arith in
      smooth_agreeing i q ∙ sym (rw e at (listed_at (agreeing (led g wave) g) 0 (length wave) i q))
