-- Whatever hears as the rules do, with entries that are no level passed over, meets demand 3: a plan's own reads are
-- levels, and what stands in the stretch leaves no trace once a lead quiet has been heard.
use Prim.Native.Nat.{ℕ, suc, ◌+◌, ◌-◌}
use mathlib.Core.Path.{ap, ◌∙◌}
use mathlib.Core.List.{List}
use native.Mathlib.Omega.{arith}
use lib.ListN.{length, take, drop}
use lib.Seq.{get_or-drop}
use Rattle.measure.proofs.LevelLaws.{most_at}
use Rattle.board.specs.Rows.{Settings, fresh, ready}
use Rattle.board.specs.Feeding.{Report}
use Rattle.board.proofs.PackedBits.{Binary, binary_take}
use Rattle.promises.specs.Places.{quiet_on, Scene, last_from, heard}
use Rattle.promises.specs.Replaced.{damaged, below, above, moved}
use Rattle.promises.specs.Demand3.{receiver_settings, Demand3}
use Rattle.promises.specs.Hearing.{heeding, Hears}
use Rattle.promises.proofs.Recovery.{before_stretch, after_stretch}
use Rattle.promises.proofs.Demand3.{Clocked, whole, heard_row}
use Rattle.promises.proofs.Hearing.{heeded_reports, heeded_after}

pub binary_drop : (n : ℕ) (list : List ℕ) → Binary list → Binary (drop n list)
binary_drop n list all i = rw (get_or-drop n list i 0) (all (n + i))

-- settled reads are levels
pub read_binary : (x : Scene) (high : ℕ) → Clocked x high → Binary x.reads
read_binary x high fits = most_at 1 x.reads fits.levels

pub any_hearing : (x : Scene) (high : ℕ) → Clocked x high → (hear : List ℕ → List Report)
    → Hears (receiver_settings x) hear → Demand3 x hear
any_hearing x high fits hear hears = record {
  before = λ i j junk ij le.
      ap (below i) (hears (damaged x i j junk))
      ∙ before_stretch (heeding g) x.reads i j junk (omega arith)
      ∙ ap (below i) (heeded_reports g fresh 0 x.reads levels ∙ whole x high fits);
  after = λ earlier row later same m long i j junk ij le wholly.
      let at = heard_row x high fits j earlier row later same m long wholly in
      let h : ℕ = heard x (last_from x earlier row m) m in
      let lead : List ℕ = take (suc h - j) (drop j x.reads) in
      ap (above (i + length junk + (h - j))) (hears (damaged x i j junk))
      ∙ after_stretch (heeding g) x.reads i j junk h (ready x.Q (quiet_on x.pair)) (omega arith) at.from
      at.there
      (λ s. heeded_after g s lead (binary_take (suc h - j) (drop j x.reads) (binary_drop j x.reads levels))
      ∙ at.readies s)
      ∙ ap (moved i j junk)
      (heeded_reports g (ready x.Q (quiet_on x.pair)) (suc h) (drop (suc h) x.reads)
      (binary_drop (suc h) x.reads levels)
      ∙ at.told);
}
  where
    g : Settings
    g = receiver_settings x

    levels : Binary x.reads
    levels = read_binary x high fits
