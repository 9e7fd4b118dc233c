-- Runs become reads one run at a time: the reads stored so far and those of the runs still to come are the reads of
-- them all.
use Rattle.std.proofs.Common.{ℕ, ◌+◌, ◌-◌, ◌≤◌, ◌<◌, ◌≡◌, refl, sym, ap, List, [], ◌++◌, append_assoc, true, arith}
use Rattle.std.proofs.Common.{leb, length, take, drop, replicate, length-append, length-drop, drop-drop}
use Rattle.std.proofs.Common.{length-take-le, leb-true}
use lib.ListN.{length-replicate}
use lib.Seq.{sets, sets-eq}
use Rattle.measure.specs.Refusals.{Answer, given, refused, refused_after}
use Rattle.capture.specs.Numbers.{Numeral, number_at}
use Rattle.capture.specs.Capture.{then, runs_from, reads_of_runs}
use Rattle.capture.proofs.Runs.{Next, next_refused, next_is, runs_end}
use Rattle.measure.proofs.Stores.{Stored, stored_none, stored_part, stored_all}

-- runs that can be read, and whose reads have room
roomy : (answer : Answer (List ℕ)) (level room : ℕ)
    → then answer (λ runs. given (leb (length (reads_of_runs level runs)) room)) ≡ given true
    → (runs : List ℕ) × ((answer ≡ given runs) × (length (reads_of_runs level runs) ≤ room))
roomy (given runs) level room e = (runs, (refl, leb-true _ _ cc))
roomy (refused number place) level room e = let z : ◌≡◌ {A = ℕ} 0 1 = cc in absurd (omega arith)
roomy (refused_after number place count) level room e = let z : ◌≡◌ {A = ℕ} 0 1 = cc in absurd (omega arith)

pub record Unrolled (s : List ℕ) (from level : ℕ) (out₀ out : List ℕ) (at done current : ℕ) : Type 0 where
  pub runs : List ℕ
  pub whole : runs_from 0 s from ≡ given runs
  pub room : length (reads_of_runs level runs) ≤ length out₀
  pub others : List ℕ
  pub spelt : runs_from done s at ≡ given others
  pub stored : Stored out₀ 0 (reads_of_runs level runs) out done (reads_of_runs current others)
  pub bit : current ≤ 1

pub unrolled_none : (s : List ℕ) (from level : ℕ) (out : List ℕ) → level ≤ 1
    → then (runs_from 0 s from) (λ runs. given (leb (length (reads_of_runs level runs)) (length out)))
    ≡ given true → Unrolled s from level out out from 0 level
unrolled_none s from level out b e =
    let r = roomy (runs_from 0 s from) level (length out) e in
    record {
      runs = r.0;
      whole = r.1.0;
      room = r.1.1;
      others = r.0;
      spelt = r.1.0;
      stored =
          stored_none out 0 (reads_of_runs level r.0);
      bit = b;
    }

module _ {s : List ℕ} {from level : ℕ} {out₀ out : List ℕ} {at done current : ℕ}
    (q : Unrolled s from level out₀ out at done current) where
  pub unrolled_refused : at < length s → (number place : ℕ) → number_at s at ≡ refused number place → ⊥
  unrolled_refused h = next_refused done s at h q.others q.spelt

  module _ (n : Numeral) (h : at < length s) (e : number_at s at ≡ given n) where
    next : Next done s n q.others
    next = next_is done s at h q.others q.spelt n e

    parts : reads_of_runs current q.others ≡ replicate n.value current ++ reads_of_runs (1 - current) next.others
    unfolding reads_of_runs
    parts = ap (reads_of_runs current) next.is

    pub unrolled_room : done + n.value ≤ length out₀
    unrolled_room =
        omega (
          arith,
          q.stored.reach,
          q.room,
          ap length parts,
          length-append (replicate n.value current) (reads_of_runs (1 - current) next.others),
          length-replicate n.value current,
        )

    pub unrolled_one : (out' : List ℕ) → out' ≡ sets out done (replicate n.value current)
        → Unrolled s from level out₀ out' n.after (done + n.value) (1 - current)
    unrolled_one out' o = record {
      runs = q.runs;
      whole = q.whole;
      room = q.room;
      others = next.others;
      spelt = next.spelt;
      stored =
          stored_part (replicate n.value current) out' (done + n.value) (rw parts at q.stored) o
          (ap (λ (x : ℕ). done + x) (sym (length-replicate n.value current)));
      bit = omega arith;
    }

  pub unrolled_all : length s ≤ at
      → then (runs_from 0 s from) (λ runs. given (sets out₀ 0 (reads_of_runs level runs))) ≡ given out
  unfolding reads_of_runs
  unrolled_all h =
      let none : q.others ≡ [] = cc (runs_end done s at h, q.spelt) in
      let e : out ≡ sets out₀ 0 (reads_of_runs level q.runs) = stored_all (rw none at q.stored) in
      rw (q.whole, e)

-- a part of an output that is filled with a level
pub filled_part : (out : List ℕ) (at run level : ℕ) {filled : List ℕ} → at + run ≤ length out
    → filled ≡ replicate (length (take (at + run - at) (drop at out))) level
    → take at out ++ (filled ++ drop (at + run - at) (drop at out)) ≡ sets out at (replicate run level)
filled_part out at run level h e =
    let size : at + run - at ≡ run = omega arith in
    let long : length (take run (drop at out)) ≡ run =
    length-take-le run (drop at out) (omega (arith, length-drop at out)) in
    rw (e, size, long, drop-drop run at out)
    (sym (rw (append_assoc, length-replicate) at
    (sets-eq (replicate run level) out at (omega (arith, length-replicate run level)))))
