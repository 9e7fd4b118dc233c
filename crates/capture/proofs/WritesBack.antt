-- Each number of an accepted capture has the bytes of its value, so the whole is spelled by its numbers; and the runs
-- are those of the reads.
use Rattle.std.proofs.Common.{ℕ, zero, suc, ◌+◌, ◌-◌, ◌≤◌, ◌<◌, ◌≡◌, refl, sym, ap, ◌∙◌, List, [], ◌∷◌, ◌++◌, Bool}
use Rattle.std.proofs.Common.{true, false, ◌&&◌, arith, eqb, length, drop, replicate, drop_of_length-le, eq-eqb}
use native.Mathlib.Decide.{dec_le}
use borrow.Author.Tests.{eqb-false}
use Rattle.measure.specs.Ranges.{sampling, row_bits, quiet}
use Rattle.measure.specs.Choose.{between}
use Rattle.measure.specs.Refusals.{given}
use Rattle.capture.specs.Numbers.{Group, value, cut, long, group, further, Numeral, placed, number_at, spelled}
use Rattle.capture.specs.Capture.{Heading, Capture, runs_from, total_most, with_runs, capture, reads_of_runs}
use Rattle.capture.specs.Writing.{runs_after, runs_of, first_level, numbers, capture_of}
use Rattle.capture.proofs.Groups.{Bytes}
use Rattle.capture.proofs.Headings.{then_given, fitting_given, in_range_lem, Four, heading_given}
use Rattle.capture.proofs.Captures.{capture_given}
use Rattle.capture.proofs.ReadLaws.{captured, with_given}
use Rattle.capture.proofs.Runs.{sum, next_refused, next_is, runs_end}
use Rattle.capture.proofs.Grouping.{after_other}
use Rattle.capture.proofs.ReadsBack.{Some}
use Rattle.capture.proofs.Respelling.{number_again}
use Rattle.capture.proofs.WriteLaws.{InRange}

-- where all the runs can be read, the number at a place can
had : (total : ℕ) (s : List ℕ) (at : ℕ) → at < length s → (runs : List ℕ) → runs_from total s at ≡ given runs
    → (n : Numeral) × (number_at s at ≡ given n)
unfolding number_at
had total s at h runs g = go (group further (drop at s)) refl
  where
    go : (x : Group) → group further (drop at s) ≡ x → (n : Numeral) × (number_at s at ≡ given n)
    go (value v size) e = (record { value = v; after = at + size }, ap (placed at) e)
    go cut e = absurd (next_refused total s at h runs g 6 at (ap (placed at) e))
    go long e = absurd (next_refused total s at h runs g 7 at (ap (placed at) e))

-- runs that were read, to the end of the bytes
pub record Spelt (s : List ℕ) (total at : ℕ) (runs : List ℕ) : Type 0 where
  pub bytes : drop at s ≡ numbers runs
  pub some : Some runs
  pub low : total + sum runs ≤ total_most

pub runs_again : (s : List ℕ) → Bytes s → (runs : List ℕ) (total at : ℕ) → total ≤ total_most
    → runs_from total s at ≡ given runs → Spelt s total at runs
unfolding numbers
runs_again s b [] total at h e = go (dec_le (length s) at)
  where
    go : Dec (length s ≤ at) → Spelt s total at []
    go (yes l) = record { bytes = drop_of_length-le s l; some = tt; low = omega arith }
    go (no l) =
        let n = had total s at (omega arith) [] e in
        let x = next_is total s at (omega arith) [] e n.0 n.1 in
        let z : ◌≡◌ {A = ℕ} 0 1 = cc x.is in
        absurd (omega arith)
runs_again s b (run ∷ runs) total at h e = go (dec_le (length s) at) (runs_again s b runs)
  where
    go : Dec (length s ≤ at)
        → ((total at : ℕ) → total ≤ total_most → runs_from total s at ≡ given runs → Spelt s total at runs)
        → Spelt s total at (run ∷ runs)
    go (yes l) rest = let z : ◌≡◌ {A = ℕ} 0 1 = cc (runs_end total s at l, e) in absurd (omega arith)
    go (no l) rest =
        let n = had total s at (omega arith) (run ∷ runs) e in
        let x = next_is total s at (omega arith) (run ∷ runs) e n.0 n.1 in
        let v : run ≡ n.0.value = cc x.is in
        let w : runs ≡ x.others = cc x.is in
        let r = rest (total + n.0.value) n.0.after x.low (x.spelt ∙ ap given (sym w)) in
        record {
          bytes = number_again s at n.0 b n.1 ∙ ap (λ (l : List ℕ). spelled n.0.value ++ l) r.bytes
              ∙ ap (λ (i : ℕ). spelled i ++ numbers runs) (sym v);
          some = (omega (arith, x.some), r.some);
          low = omega (arith, r.low);
        }

-- runs, from their reads
after_same : (level count times : ℕ) (l : List ℕ)
    → runs_after level count (replicate times level ++ l) ≡ runs_after level (count + times) l
unfolding runs_after
after_same level count zero l = let e : count ≡ count + 0 = omega arith in ap (λ (i : ℕ). runs_after level i l) e
after_same level count (suc times) l =
    let e : suc count + times ≡ count + suc times = omega arith in
    rw (eq-eqb level level refl) (after_same level (suc count) times l ∙ ap (λ (i : ℕ). runs_after level i l) e)

after_turned : (level count : ℕ) (runs : List ℕ) → level ≤ 1 → Some runs
    → runs_after level count (reads_of_runs (1 - level) runs) ≡ count ∷ runs_of (reads_of_runs (1 - level) runs)
unfolding reads_of_runs runs_after runs_of
after_turned level count [] h p = refl
after_turned level count (zero ∷ runs) h p = absurd (omega arith)
after_turned level count (suc run ∷ runs) h p =
    after_other level count (1 - level) (replicate run (1 - level) ++ reads_of_runs (1 - (1 - level)) runs)
    (λ e. omega arith)

runs_of_lem : (level : ℕ) (runs : List ℕ) → level ≤ 1 → Some runs → runs_of (reads_of_runs level runs) ≡ runs
unfolding reads_of_runs runs_of
runs_of_lem level [] h p = refl
runs_of_lem level (zero ∷ runs) h p = absurd (omega arith)
runs_of_lem level (suc run ∷ runs) h p =
    let e : 1 + run ≡ suc run = omega arith in
    after_same level 1 run (reads_of_runs (1 - level) runs)
    ∙ ap (λ (i : ℕ). runs_after level i (reads_of_runs (1 - level) runs)) e
    ∙ after_turned level (suc run) runs h p.1
    ∙ ap (λ (l : List ℕ). suc run ∷ l) (runs_of_lem (1 - level) runs (omega arith) p.1)

first_of : (level : ℕ) (runs : List ℕ) → Some runs → (length runs ≡ 0 → level ≡ 1)
    → first_level (reads_of_runs level runs) ≡ level
unfolding reads_of_runs
first_of level [] p e = sym (e refl)
first_of level (zero ∷ runs) p e = absurd (omega arith)
first_of level (suc run ∷ runs) p e = refl

-- what an accepted capture is made of
pub record Accepted (s : List ℕ) (c : Capture) : Type 0 where
  pub in_range : InRange c.k c.n c.Q
  pub low : c.level ≤ 1
  pub some : Some c.runs
  pub few : sum c.runs ≤ total_most
  pub first : first_level (reads_of_runs c.level c.runs) ≡ c.level
  pub bytes : spelled c.k ++ (spelled c.n ++ (spelled c.Q ++ (spelled c.level ++ numbers c.runs))) ≡ s

all_true : (a b c : Bool) → a ≡ true → b ≡ true → c ≡ true → (a && b && c) ≡ true
all_true a b c e f g = rw (e, f, g)

no_run : (level : ℕ) (runs : List ℕ) → level ≤ 1 → (eqb level 0 && eqb (length runs) 0) ≡ false → length runs ≡ 0
    → level ≡ 1
no_run level runs l e f = go (eqb level 0) refl (rw (eq-eqb (length runs) 0 f) at e)
  where
    go : (test : Bool) → eqb level 0 ≡ test → (test && true) ≡ false → level ≡ 1
    go true g k = let z : ◌≡◌ {A = ℕ} 0 1 = cc in absurd (omega arith)
    go false g k = omega (arith, eqb-false level 0 g)

pub accepted : (s : List ℕ) (c : Capture) → Bytes s → capture s ≡ given c → Accepted s c
accepted s c b e =
    let h = capture_given s c e in
    let r = then_given (runs_from 0 s h.0.after) (with_runs h.0) c h.1.1 in
    let w = with_given h.0 r.0 c r.1.1 in
    rw w.0 (made h.0 (heading_given s h.0 h.1.0) r.0 r.1.0 w.1)
  where
    made : (h : Heading) → Four s h → (runs : List ℕ) → runs_from 0 s h.after ≡ given runs
        → (eqb h.level 0 && eqb (length runs) 0) ≡ false
        → Accepted s (captured h runs)
    made h four runs g w =
        let front : Heading =
        record {
          k = four.k.value;
          n = four.n.value;
          Q = four.Q.value;
          level = four.level.value;
          level_at =
              four.Q.after;
          after = four.level.after;
        } in
        let k = fitting_given sampling s 0 four.k four.k_fits in
        let n = fitting_given row_bits s four.k.after four.n four.n_fits in
        let Q = fitting_given quiet s four.n.after four.Q four.q_fits in
        let level = fitting_given (between 0 1) s four.Q.after four.level four.level_fits in
        let g' : runs_from 0 s four.level.after ≡ given runs = rw four.is at g in
        let w' : (eqb four.level.value 0 && eqb (length runs) 0) ≡ false = rw four.is at w in
        let r = runs_again s b runs 0 four.level.after (omega arith) g' in
        let l : four.level.value ≤ 1 = (in_range_lem 0 1 four.level.value level.1).1 in
        let parts : s ≡ spelled four.k.value
        ++ (spelled four.n.value
        ++ (spelled four.Q.value ++ (spelled four.level.value ++ numbers runs))) =
        number_again s 0 four.k b k.0
        ∙ ap (λ (x : List ℕ). spelled four.k.value ++ x) (number_again s four.k.after four.n b n.0
        ∙ ap (λ (x : List ℕ). spelled four.n.value ++ x) (number_again s four.n.after four.Q b Q.0
        ∙ ap (λ (x : List ℕ). spelled four.Q.value ++ x) (number_again s four.Q.after four.level b level.0
        ∙ ap (λ (x : List ℕ). spelled four.level.value ++ x) r.bytes))) in
        let a : Accepted s (captured front runs) = record {
          in_range =
              all_true (sampling four.k.value) (row_bits four.n.value) (quiet four.Q.value) k.1 n.1
              Q.1;
          low = l;
          some = r.some;
          few = omega (arith, r.low);
          first = first_of four.level.value runs r.some (no_run four.level.value runs l w');
          bytes = sym parts;
        } in
        rw four.is a

-- an accepted capture, written again from its reads
pub capture_again : (s : List ℕ) (c : Capture) → Bytes s → capture s ≡ given c
    → capture_of c.k c.n c.Q (reads_of_runs c.level c.runs) ≡ s
unfolding capture_of numbers
capture_again s c b e =
    let a = accepted s c b e in
    rw (a.first, runs_of_lem c.level c.runs a.low a.some) a.bytes
