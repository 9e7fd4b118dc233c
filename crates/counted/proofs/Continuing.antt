-- To count on from the current read, with the level then in force, is to have counted on from the start.
use mathlib.Core.Path.{◌≡◌, refl, sym, ap, ◌∙◌}
use mathlib.Core.List.{List, [], ◌∷◌}
use Prim.Native.Nat.{ℕ, zero, suc, ◌+◌, ◌-◌, ◌≤◌, ◌<◌}
use native.Mathlib.Nat.{zero-add}
use native.Mathlib.Decide.{dec_le}
use native.Mathlib.Omega.{arith}
use borrow.Author.Tests.{lt-ltb, le-ltb}
use lib.ListN.{length, drop, get_or}
use lib.Seq.{drop-drop, get_or-drop}
use Rattle.counted.specs.Counted.{from_mark, counted, current, in_force}
use Rattle.measure.specs.Cells.{bit_of}
use Rattle.counted.specs.Continued.{Continues, CountingContinues}
use Rattle.counted.proofs.Marks.{mark_dropped}

-- where no sample is there, nothing is found, and the receiver stays
module _ (k level : ℕ) (reads : List ℕ) (few : length (from_mark level reads) ≤ k) where
  pub none_counted : (n : ℕ) → counted k n level reads ≡ []
  unfolding counted
  none_counted zero = refl
  none_counted (suc n) = rw (le-ltb k (length (from_mark level reads)) few)

  pub none_current : (n : ℕ) → current k n level reads ≡ 0
  unfolding current
  none_current zero = refl
  none_current (suc n) = rw (le-ltb k (length (from_mark level reads)) few)

  pub none_held : (n : ℕ) → in_force k n level reads ≡ level
  unfolding in_force
  none_held zero = refl
  none_held (suc n) = rw (le-ltb k (length (from_mark level reads)) few)

  stays : (n m : ℕ) → Continues k n m level reads
  stays n m = record {
    bits = rw (none_counted (n + m), none_counted n, none_held n, none_current n) (sym (none_counted m));
    place = rw (none_current (n + m), none_held n, none_current n)
        (sym (none_current m) ∙ sym (zero-add (current k m level reads)));
    sampled = λ h. absurd (omega (arith, h, ap length (none_counted n)));
    unsampled = λ h. none_held n;
  }

-- where the sample is there, it stands so many places on, and what follows is found from it on
module _ (k level : ℕ) (reads : List ℕ) (enough : k < length (from_mark level reads)) where
  unfoldable pub ahead : ℕ
  ahead = length reads - length (from_mark level reads) + k

  unfoldable pub sample : ℕ
  sample = get_or (from_mark level reads) k 0

  unfoldable pub from_sample : List ℕ
  from_sample = drop k (from_mark level reads)

  from_ahead : from_sample ≡ drop ahead reads
  unfolding from_sample ahead
  from_ahead =
      let before = length reads - length (from_mark level reads) in
      ap (λ (l : List ℕ). drop k l) (mark_dropped level reads) ∙ drop-drop k before reads

  at_ahead : sample ≡ get_or reads ahead 0
  unfolding sample ahead
  at_ahead =
      let before = length reads - length (from_mark level reads) in
      ap (λ (l : List ℕ). get_or l k 0) (mark_dropped level reads) ∙ get_or-drop before reads k 0

  pub next_current : (n : ℕ) → current k (suc n) level reads ≡ ahead + current k n sample from_sample
  unfolding current sample from_sample ahead
  next_current n = rw (lt-ltb k (length (from_mark level reads)) enough)

  pub next_held : (n : ℕ) → in_force k (suc n) level reads ≡ in_force k n sample from_sample
  unfolding in_force sample from_sample
  next_held n = rw (lt-ltb k (length (from_mark level reads)) enough)

  unfoldable pub bit : ℕ
  bit = bit_of (get_or (from_mark level reads) 0 0) sample

  pub next_counted : (n : ℕ) → counted k (suc n) level reads ≡ bit ∷ counted k n sample from_sample
  unfolding counted bit sample from_sample
  next_counted n = rw (lt-ltb k (length (from_mark level reads)) enough)

-- the level in force is that of the current read, if it was so at the start
held_at : (k n level : ℕ) (reads all : List ℕ) (at : ℕ) → reads ≡ drop at all → level ≡ get_or all at 0
    → in_force k n level reads ≡ get_or all (at + current k n level reads) 0
unfolding in_force current
held_at k zero level reads all at e l =
    let here : at + 0 ≡ at = omega arith in
    rw here l
held_at k (suc n) level reads all at e l = go (dec_le (suc k) (length (from_mark level reads)))
    (λ (next : ℕ). held_at k n next)
  where
    go : Dec (suc k ≤ length (from_mark level reads))
        → ((next : ℕ) (reads all : List ℕ) (at : ℕ) → reads ≡ drop at all → next ≡ get_or all at 0
        → in_force k n next reads ≡ get_or all (at + current k n next reads) 0)
        → in_force k (suc n) level reads ≡ get_or all (at + current k (suc n) level reads) 0
    go (no few) rest =
        let here : at + 0 ≡ at = omega arith in
        let short : length (from_mark level reads) ≤ k = omega arith in
        none_held k level reads short (suc n) ∙ l
        ∙ ap (λ (i : ℕ). get_or all i 0) (sym (ap (λ (i : ℕ). at + i) (none_current k level reads short (suc n)) ∙ here))
    go (yes enough) rest =
        let on = ahead k level reads enough in
        let later : from_sample k level reads enough ≡ drop (at + on) all =
        from_ahead k level reads enough ∙ ap (λ (l : List ℕ). drop on l) e ∙ drop-drop on at all in
        let there : sample k level reads enough ≡ get_or all (at + on) 0 =
        at_ahead k level reads enough ∙ ap (λ (l : List ℕ). get_or l on 0) e ∙ get_or-drop at all on 0 in
        let moved = current k n (sample k level reads enough) (from_sample k level reads enough) in
        let place : at + on + moved ≡ at + (on + moved) = omega arith in
        next_held k level reads enough n
        ∙ rest (sample k level reads enough) (from_sample k level reads enough) all (at + on) later there
        ∙ ap (λ (i : ℕ). get_or all i 0) (place ∙ sym (ap (λ (i : ℕ). at + i) (next_current k level reads enough n)))

-- where nothing is asked for nothing is found, and the receiver stays
pub nothing_yet : (k level : ℕ) (reads : List ℕ)
    → (counted k 0 level reads ≡ []) × (current k 0 level reads ≡ 0) × (in_force k 0 level reads ≡ level)
unfolding counted current in_force
nothing_yet k level reads = (refl, refl, refl)

-- C8
pub counting_continues : CountingContinues
counting_continues k zero m level reads = record {
  bits = rw (zero-add, no_counted, no_current, no_held);
  place = rw (zero-add, no_current, no_held) (sym (zero-add (current k m level reads)));
  sampled = λ h. absurd (omega (arith, h, ap length no_counted));
  unsampled = λ h. no_held;
}
  where
    no_counted : counted k 0 level reads ≡ []
    no_counted = (nothing_yet k level reads).0

    no_current : current k 0 level reads ≡ 0
    no_current = (nothing_yet k level reads).1

    no_held : in_force k 0 level reads ≡ level
    no_held = (nothing_yet k level reads).2
counting_continues k (suc n) m level reads =
    go (dec_le (suc k) (length (from_mark level reads))) (counting_continues k n m)
  where
    go : Dec (suc k ≤ length (from_mark level reads)) → ((next : ℕ) (reads : List ℕ) → Continues k n m next reads)
        → Continues k (suc n) m level reads
    go (no few) rest = stays k level reads (omega arith) (suc n) m
    go (yes enough) rest =
        let next = sample k level reads enough in
        let on = ahead k level reads enough in
        let later = from_sample k level reads enough in
        let moved = current k n next later in
        let held = in_force k n next later in
        let q = rest next later in
        let onward : drop moved later ≡ drop (on + moved) reads =
        ap (λ (l : List ℕ). drop moved l) (from_ahead k level reads enough) ∙ drop-drop moved on reads in
        let more : suc n + m ≡ suc (n + m) = omega arith in
        record {
          bits = rw (
            more,
            next_counted k level reads enough (n + m),
            next_counted k level reads enough n,
            next_held k level reads enough n,
            next_current k level reads enough n,
            ← onward,
          )
              (ap (λ (l : List ℕ). bit k level reads enough ∷ l) q.bits);
          place = rw (
            more,
            next_current k level reads enough (n + m),
            next_held k level reads enough n,
            next_current k level reads enough n,
            ← onward,
          ) (omega (arith, q.place));
          sampled = λ h. rw (next_held k level reads enough n, next_current k level reads enough n)
              (held_at k n next later reads on (from_ahead k level reads enough) (at_ahead k level reads enough));
          unsampled = λ h. absurd (omega (arith, h, ap length (next_counted k level reads enough n)));
        }
