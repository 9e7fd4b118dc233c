-- What a capture that is accepted has: settings in range, a first level that is one, and reads that are levels and no
-- more than a stream may have.
use Rattle.std.proofs.Common.{ℕ, ◌≤◌, ◌≡◌, true, List, arith, length}
use Rattle.measure.specs.Levels.{Levels}
use Rattle.measure.specs.Ranges.{sampling, row_bits, quiet, entries_most, row_settings_fit}
use Rattle.measure.specs.Refusals.{given}
use Rattle.capture.specs.Capture.{Heading, Capture, four_numbers, runs_from, with_runs, capture, reads_of_runs}
use Rattle.capture.proofs.Headings.{then_given, fitting_given, heading_given, heading_level}
use Rattle.capture.proofs.Captures.{capture_given}
use Rattle.capture.proofs.ReadLaws.{captured, with_given}
use Rattle.capture.proofs.Runs.{length_reads, reads_levels, runs_total}

pub record Good (c : Capture) : Type 0 where
  pub fit : row_settings_fit c.k c.n c.Q ≡ true
  pub low : c.level ≤ 1
  pub levels : Levels (reads_of_runs c.level c.runs)
  pub few : length (reads_of_runs c.level c.runs) ≤ entries_most

-- a capture by its heading and its runs
good_runs : (s : List ℕ) (h : Heading) (runs : List ℕ) → four_numbers s ≡ given h → runs_from 0 s h.after ≡ given runs
    → Good (captured h runs)
good_runs s h runs e r =
    let four = heading_given s h e in
    let k = fitting_given sampling s 0 four.k four.k_fits in
    let n = fitting_given row_bits s four.k.after four.n four.n_fits in
    let Q = fitting_given quiet s four.n.after four.Q four.q_fits in
    record {
      fit = rw (four.is, k.1, n.1, Q.1);
      low = heading_level s h e;
      levels = reads_levels h.level runs (heading_level s h e);
      few = omega (arith, length_reads h.level runs, runs_total 0 s h.after runs (omega arith) r);
    }

pub capture_good : (s : List ℕ) (c : Capture) → capture s ≡ given c → Good c
capture_good s c e =
    let h = capture_given s c e in
    let r = then_given (runs_from 0 s h.0.after) (with_runs h.0) c h.1.1 in
    rw (with_given h.0 r.0 c r.1.1).0 (good_runs s h.0 r.0 h.1.0 r.1.0)
