-- The sample that delivers a row is that of its last cell: its mark touches the cell, so M2 brings it past the settled
-- edge of the code, and its mark comes soon after the settled edge of the cell, so M3 has it end before the cell does.
use mathlib.Core.Path.{◌≡◌, refl, subst, sym, ◌∙◌}
use mathlib.Core.List.{List, [], ◌∷◌}
use Prim.Native.Nat.{ℕ, suc, ◌+◌, ◌*◌, ◌-◌, ◌≤◌, ◌<◌}
use native.Mathlib.Nat.{add-suc}
use native.Mathlib.Numerals.{add-one}
use native.Mathlib.Omega.{arith}
use lib.ListN.{length, get_or}
use borrow.Author.Tests.{leb-true}
use Rattle.settings.proofs.Inequalities.{m2_met, m3_met}
use Rattle.sender.specs.Sending.{Row, plan_wave}
use Rattle.sender.proofs.PlanWaves.{length_rows, length_one}
use Rattle.line.proofs.ClockBounds.{mono, span_high, reach_low}
use Rattle.board.specs.Rows.{fresh}
use Rattle.board.specs.Feeding.{Report, reports}
use Rattle.promises.specs.Places.{quiet_on, Scene, Link, scene, cycles_of}
use Rattle.promises.specs.Demand3.{Fitting, receiver_settings}
use Rattle.promises.specs.Ready.{WithinCode, WithinSettledCode, EachRow, Ready, ReadyHolds}
use Rattle.promises.proofs.Timing.{counts}
use Rattle.promises.proofs.Sent.{settles_in_code}
use Rattle.promises.proofs.OneRow.{LastCell}
use Rattle.promises.proofs.ManyRows.{Placed, no_row, a_row}
use Rattle.promises.proofs.Demand3.{Clocked, ok, in_rows, placed, whole}
use Rattle.promises.proofs.Scenes.{running, clocked, on, along, link_deliveries}

-- what holds of each row's read up to a cycle may be replaced by what follows from it
each_map : (a b E : ℕ) {P Q : ℕ → ℕ → Type 0} → ((c place : ℕ) → c ≤ E → P c place → Q c place)
    → (rows : List Row) (c : ℕ) (told : List Report) → c + length (plan_wave a b rows) ≤ E
    → EachRow a b P c rows told → EachRow a b Q c rows told
each_map a b E f [] c [] within each = tt
each_map a b E f [] c (one ∷ told) within each = each
each_map a b E f (row ∷ rows) c [] within each = each
each_map a b E f (row ∷ rows) c (one ∷ told) within each =
    let all = length_rows a b (row ∷ rows) in
    let first = length_rows a b (row ∷ []) in
    let rest = length_rows a b rows in (
      each.0,
      f (c + length (plan_wave a b (row ∷ []))) one.place (omega arith) each.1,
      each_map a b E f rows (c + length (plan_wave a b (row ∷ []))) told (omega arith) each.2,
    )

module _ (x : Scene) (high : ℕ) (fits : Clocked x high) where
  -- the settling count is below the code subcell's length
  pub settles : x.g < x.b
  settles =
      settles_in_code (omega (arith, fits.writer.low 0, fits.writer.high 0))
      (omega (arith, fits.reader.low 0, fits.reader.high 0)) fits.timed (ok x high fits)

  some_k : 0 < x.k
  some_k = counts fits.writer fits.reader fits.timed fits.line.settled (ok x high fits)

  -- the sample of a cell that ends before cycle c
  sharp : (c place : ℕ) → place < length x.reads
      → LastCell x.starts x.begins (x.a + x.b) x.g x.k x.ends.r2 c place → WithinSettledCode x c place
  sharp c place here last = record {
    cell = omega (arith, last.whole);
    read = here;
    starts = subst (λ (s : ℕ). x.starts (c - x.b + x.g) + 1 ≤ x.begins s) last.sample
        (subst (λ (i : ℕ). x.starts i + 1 ≤ x.begins (last.mark + x.k)) settled_at late);
    ends = subst (λ (s : ℕ). x.begins (suc s) + 1 ≤ x.starts c) last.sample
        (subst (λ (i : ℕ). x.begins (suc (last.mark + x.k)) + 1 ≤ x.starts i) last.whole early);
  }
    where
      settled_at : last.cell + (x.a + x.g) ≡ c - x.b + x.g
      settled_at = omega (arith, last.whole)

      late : x.starts (last.cell + (x.a + x.g)) + 1 ≤ x.begins (last.mark + x.k)
      late =
          omega (
            arith,
            last.edge,
            span_high fits.writer last.cell (x.a + x.g),
            leb-true,
            rw m2_met at fits.asked.m2,
            rw add-one at (reach_low fits.reader last.mark 1 x.k some_k),
          )

      early : x.begins (suc (last.mark + x.k)) + 1 ≤ x.starts (last.cell + (x.a + x.b))
      early =
          omega (
            arith,
            last.soon,
            rw add-suc at (span_high fits.reader last.mark (suc x.k)),
            leb-true,
            rw m3_met at fits.asked.m3,
            reach_low fits.writer last.cell x.g (x.a + x.b) (omega (arith, settles)),
          )

  plain : (c place : ℕ) → WithinSettledCode x c place → WithinCode x c place
  plain c place within = record {
    cell = within.cell;
    read = within.read;
    starts = omega (arith, within.starts, mono fits.writer (c - x.b) (c - x.b + x.g) (omega arith));
    ends = omega (arith, within.ends);
  }

  each : {c : ℕ} {rows : List Row} {told : List Report}
      → Placed x.starts x.begins (λ i. get_or x.reads i 2) x.g x.k x.Q (quiet_on x.pair)
      x.ends.r2 (x.a + x.b) (length x.reads) c rows told
      → EachRow x.a x.b (WithinSettledCode x) c rows told
  each no_row = tt
  each {c} (a_row {s = s} {row = row} lead samples here last more) =
      let end : ℕ = c + (row.lead + length row.bits * (x.a + x.b)) in
      rw (length_one x.a x.b row) (refl, sharp end s here last, each more)

  pub each_settled :
      EachRow x.a x.b (WithinSettledCode x) 0 x.rows (reports (receiver_settings x) fresh 0 x.reads)
  each_settled = each (placed x high fits (length x.reads) (omega arith) (in_rows x high fits))

-- of a link, and of whatever hears its reads as the rules do
module _ (x : Link) (fits : Fitting x) where
  abbrev told : List Report
  told = reports (receiver_settings (scene x)) fresh 0 (scene x).reads

  runs : Clocked (running x) x.high_after
  runs = clocked x fits

  settled_on : (c place : ℕ) → c ≤ cycles_of (scene x) x.rows → WithinSettledCode (running x) c place
      → WithinSettledCode (scene x) c place
  settled_on c place within h = record {
    cell = h.cell;
    read = h.read;
    starts =
        omega (
          arith,
          h.starts,
          on x fits (c - x.b + x.g) (omega (arith, h.cell, settles (running x) x.high_after runs)),
          along x fits place (omega (arith, h.read)),
        );
    ends = omega (arith, h.ends, on x fits c within, along x fits (suc place) h.read);
  }

  code_on : (c place : ℕ) → c ≤ cycles_of (scene x) x.rows → WithinSettledCode (running x) c place
      → WithinCode (scene x) c place
  code_on c place within h =
      let code = plain (running x) x.high_after runs c place h in
      record {
        cell = code.cell;
        read = code.read;
        starts =
            omega (
              arith,
              code.starts,
              on x fits (c - x.b) (omega arith),
              along x fits place (omega (arith, code.read)),
            );
        ends = omega (arith, code.ends, on x fits c within, along x fits (suc place) code.read);
      }

  pub ready_by : (hear : List ℕ → List Report) → told ≡ hear (scene x).reads → Ready (scene x) hear
  ready_by hear same = record {
    reported = sym same ∙ whole (running x) x.high_after runs ∙ link_deliveries x fits;
    within_code =
        subst (λ (l : List Report). EachRow x.a x.b (WithinCode (scene x)) 0 x.rows l) same
        (each_map x.a x.b (cycles_of (scene x) x.rows) code_on x.rows 0 told (omega arith)
        (each_settled (running x) x.high_after runs));
    settled =
        subst (λ (l : List Report). EachRow x.a x.b (WithinSettledCode (scene x)) 0 x.rows l) same
        (each_map x.a x.b (cycles_of (scene x) x.rows) settled_on x.rows 0 told (omega arith)
        (each_settled (running x) x.high_after runs));
  }

pub ready_holds : ReadyHolds
ready_holds x fits = ready_by x fits (reports (receiver_settings (scene x)) fresh 0) refl
