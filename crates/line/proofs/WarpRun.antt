-- A loop that warps a wave read by read: so many reads are written, the rest are to come, and the next one begins with
-- the first cycle left.
use mathlib.Core.Path.{◌≡◌, refl, sym, ◌∙◌}
use mathlib.Core.List.{List, append-nil}
use Prim.Native.Nat.{ℕ, suc, ◌+◌, ◌-◌, ◌<◌, ◌≤◌}
use native.Mathlib.Nat.{zero-add, sub-zero}
use native.Mathlib.Numerals.{add-one}
use native.Mathlib.Omega.{arith}
use lib.ListN.{length, take, drop, set}
use lib.Seq.{length-take-le, take_at}
use Rattle.measure.specs.Lists.{onto}
use Rattle.measure.proofs.Wrote.{Wrote, wrote_none, wrote_more, wrote_all}
use Rattle.line.specs.Warp.{look, dropped, warp_by}
use Rattle.line.specs.Sharing.{first_left}
use Rattle.line.proofs.Clocks.{Clocks, reads_take}
use Rattle.line.proofs.FirstLeft.{first_left_lem}
use Rattle.line.proofs.ReadsThere.{reads_from, reads_more, reads_over}

-- j reads are written, and `first` is the first cycle left
pub record Run (starts reads : ℕ → ℕ) (levels out₀ out : List ℕ) (first j : ℕ) : Type 0 where
  pub at : first_left starts reads levels j ≡ first
  pub wrote : Wrote (warp_by starts reads levels) out₀ out
      (reads_from starts reads levels (starts (length levels)) (starts (length levels) - j) j) j

module _ {starts reads : ℕ → ℕ} (clocks : Clocks starts reads) (levels : List ℕ) where
  pub run_none : (out₀ : List ℕ) → Run starts reads levels out₀ out₀ 0 0
  unfolding first_left
  run_none out₀ = record { at = refl; wrote = rw (sub-zero (starts (length levels))) (wrote_none _ _) }

  -- the next read ends after the first cycle left starts
  pub run_begun : (out₀ out : List ℕ) (first j : ℕ) → Run starts reads levels out₀ out first j
      → starts first < reads (suc j)
  run_begun out₀ out first j run = rw (← run.at) (omega (arith, (first_left_lem clocks levels j).begun, clocks.reads_on j))

  left_next : (first j t left : ℕ) → first_left starts reads levels j ≡ first → reads (suc j) ≡ t
      → first + dropped starts t first (drop first levels) ≡ left → first_left starts reads levels (suc j) ≡ left
  unfolding first_left
  left_next first j t left at e leaves = rw (at, e) leaves

  -- a read that ends at t, by the end of the last cycle, is written
  pub run_more : (out₀ out : List ℕ) (first j t v left : ℕ) → Run starts reads levels out₀ out first j → j < length out₀
      → reads (suc j) ≡ t → t ≤ starts (length levels)
      → look starts t first (drop first levels) ≡ v → first + dropped starts t first (drop first levels) ≡ left
      → Run starts reads levels out₀ (set out j v) left (j + 1)
  run_more out₀ out first j t v left run room e ends is leaves =
      let end = starts (length levels) in
      let more : starts (length levels) - j ≡ suc (starts (length levels) - suc j) =
      omega (arith, rw zero-add at (reads_take clocks.reads_on 0 (suc j))) in
      let next =
      rw (more, reads_more starts reads levels end (end - suc j) j (omega arith), run.at, e, is) at run.wrote in
      record {
        at = rw (add-one j) (left_next first j t left run.at e leaves);
        wrote = wrote_more (warp_by starts reads levels) out₀ out
            (reads_from starts reads levels end (end - (j + 1)) (j + 1)) j v
            (rw (add-one j) next) room;
      }

  -- with the first read that would end later, all are written
  pub run_all : (out₀ out : List ℕ) (first j : ℕ) → Run starts reads levels out₀ out first j
      → starts (length levels) < reads (suc j)
      → j ≤ length out₀ → onto (warp_by starts reads levels) out₀ ≡ out
  run_all out₀ out first j run late room =
      sym
      (wrote_all _ _ _ _
      (rw (reads_over starts reads levels (starts (length levels)) (starts (length levels) - j) j late) at
      run.wrote) room)

  -- so far, as many of the reads are written
  pub run_some : (out₀ out : List ℕ) (first j : ℕ) → Run starts reads levels out₀ out first j → j ≤ length out₀
      → onto (take j (warp_by starts reads levels)) out₀ ≡ out
  run_some out₀ out first j run room =
      let w = run.wrote in
      let rest = reads_from starts reads levels (starts (length levels)) (starts (length levels) - j) j in
      let size : length (take j out) ≡ j = length-take-le j out (omega (arith, w.size)) in
      let front : take j (warp_by starts reads levels) ≡ take j out = rw w.front (take_at (take j out) rest j size) in
      sym
      (wrote_all _ _ _ j
      (record { front = front ∙ sym (append-nil (take j out)); back = w.back; size = w.size }) room)
