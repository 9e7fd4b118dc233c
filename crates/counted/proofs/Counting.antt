-- The loop that counts: what is written, followed by what is found in the reads left, is all that is found.
use Rattle.std.proofs.Common.{◌≡◌, ℕ, suc, ◌+◌, ◌-◌, ◌≤◌, ◌<◌, List, [], ◌++◌, append_assoc, length, length-drop, eqb, take, drop, get_or, set, ap, sym, ◌∙◌, arith}
use mathlib.Core.List.{append-nil}
use borrow.Author.Tests.{eq-eqb, ne_eqb}
use lib.Seq.{length-take-le, get_or-drop}
use lib.ListN.{take-append-drop}
use Rattle.std.proofs.lemmas.List.{drop-append-le}
use Rattle.measure.specs.Lists.{onto}
use Rattle.measure.specs.Cells.{bit_of}
use Rattle.measure.specs.Choose.{choose}
use Rattle.measure.specs.Refusals.{Answer, given, refused_after}
use Rattle.measure.proofs.Wrote.{Wrote, wrote_none, wrote_more, wrote_all}
use Rattle.counted.specs.Counted.{from_mark, counted, current}
use Rattle.counted.specs.Answers.{counted_into}
use Rattle.counted.proofs.Samples.{counted_most}
use Rattle.counted.proofs.Marks.{marked_few}
use Rattle.counted.proofs.Continuing.{none_counted, none_current, next_counted, next_current, nothing_yet, sample, from_sample, bit, ahead}

-- of n bits, i are found, and the rest are to be found in the reads left
pub record Counting (k n level : ℕ) (reads out₀ out : List ℕ) (held : ℕ) (left : List ℕ) (i : ℕ) : Type 0 where
  pub few : length left ≤ length reads
  pub wrote : Wrote (counted k n level reads) out₀ out (counted k (n - i) held left) i
  pub place : current k n level reads ≡ length reads - length left + current k (n - i) held left

pub counting_none : (k n level : ℕ) (reads out : List ℕ) → Counting k n level reads out out level reads 0
counting_none k n level reads out =
    let e : n - 0 ≡ n = omega arith in
    record { few = omega arith; wrote = rw e (wrote_none _ _); place = rw e (omega arith) }

-- one more of n is found
less : (n i : ℕ) → i < n → n - i ≡ suc (n - (i + 1))
less n i h = omega arith

module _ {k n level : ℕ} {reads out₀ out : List ℕ} {held : ℕ} {left : List ℕ} {i : ℕ}
    (q : Counting k n level reads out₀ out held left i) (room : n ≤ length out₀) where
  -- the loop ends where nothing is to come: as many are found as are written
  answered : (answer : Answer (ℕ × ℕ)) → counted k (n - i) held left ≡ [] → i ≤ n
      → choose (eqb i n) (given (n, current k n level reads)) (refused_after 5 (current k n level reads) i) ≡ answer
      → counted_into n (counted k n level reads) (current k n level reads) out₀ ≡ (answer, out)
  answered answer none most e =
      let w = rw none at q.wrote in
      let found : length (counted k n level reads) ≡ i =
      ap length (w.front ∙ append-nil (take i out)) ∙ length-take-le i out (omega (arith, w.size)) in
      rw (← wrote_all _ _ _ _ w (omega arith), found, e)

  pub counting_all : n ≤ i → i ≤ n
      → counted_into n (counted k n level reads) (current k n level reads) out₀
      ≡ (given (n, length reads - length left), out)
  counting_all done most =
      let (none, stays, _) = nothing_yet k held left in
      let e : n - i ≡ 0 = omega arith in
      let here : current k n level reads ≡ length reads - length left = omega (arith, rw (e, stays) at q.place) in
      answered _ (rw e none) most (rw (eq-eqb i n (omega arith), here))

  module _ (h : i < n) where
    pub counting_short : length (from_mark held left) ≤ k
        → counted_into n (counted k n level reads) (current k n level reads) out₀
        ≡ (refused_after 5 (length reads - length left) i, out)
    counting_short few =
        let stays = none_current k held left few (n - i) in
        let here : current k n level reads ≡ length reads - length left = omega (arith, q.place, stays) in
        answered _ (none_counted k held left few (n - i)) (omega arith) (rw (ne_eqb i n (omega arith), here))

    -- the sample is the first of the reads left after it
    pub counting_one : k < length (from_mark held left)
        → Counting k n level reads out₀
        (set out i (bit_of (get_or (from_mark held left) 0 0) (get_or (drop k (from_mark held left)) 0 0)))
        (get_or (drop k (from_mark held left)) 0 0) (drop k (from_mark held left)) (i + 1)
    unfolding sample from_sample bit ahead
    counting_one enough =
        let more = less n i h in
        let most = marked_few held left in
        let here : k + 0 ≡ k = omega arith in
        let first : get_or (drop k (from_mark held left)) 0 0 ≡ get_or (from_mark held left) k 0 =
        rw here at (get_or-drop k (from_mark held left) 0 0) in
        rw first (record {
          few = rw length-drop (omega (arith, q.few));
          wrote = wrote_more _ _ _ _ _ _ (rw (more, next_counted k held left enough) at q.wrote) (omega arith);
          place = rw length-drop (omega (arith, rw (more, next_current k held left enough) at q.place, q.few));
        })

-- the front of a lent output that has room for it has its length
pub front_length : (m n : ℕ) (out front : List ℕ) → length front ≡ length (take m out) → n ≤ length out → m ≡ n → length front ≡ n
front_length m n out front e room same = e ∙ length-take-le m out (omega (arith, same)) ∙ same

-- bits that are written to the front of a lent output leave what comes after it untouched
pub counted_front : (k n level front : ℕ) (reads out out' : List ℕ) (answer : Answer (ℕ × ℕ)) → n ≤ length out → front ≡ n
    → counted_into n (counted k n level reads) (current k n level reads) (take front out) ≡ (answer, out')
    → counted_into n (counted k n level reads) (current k n level reads) out ≡ (answer, out' ++ drop front out)
counted_front k n level front reads out out' answer room same e =
    let bits = counted k n level reads in
    let most : length bits ≤ length (take n out) =
    omega (arith, counted_most k n level reads, length-take-le n out room) in
    let rest : drop (length bits) (take n out) ++ drop n out ≡ drop (length bits) out =
    sym (drop-append-le _ _ _ most) ∙ ap (λ (l : List ℕ). drop (length bits) l) (take-append-drop n out) in
    let laid : onto bits out ≡ onto bits (take n out) ++ drop n out =
    ap (λ (l : List ℕ). bits ++ l) (sym rest) ∙ sym (append_assoc bits _ _) in
    rw (same, laid) (ap (λ (p : Answer (ℕ × ℕ) × List ℕ). (p.0, p.1 ++ drop n out)) (rw same at e))
