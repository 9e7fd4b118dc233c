-- Plans as they are stored, with trail pads, on a link: demand 3 of the plan that one is read into, and that nothing is
-- lost of what it says of the stored plan.
use Rattle.std.specs.Prelude.{ℕ, ◌≤◌, ◌<◌, ◌≡◌, List, ◌∷◌, ◌++◌, length, get_or, take, ◌≤ℤ◌}
use Rattle.settings.specs.Margins.{m5 as M5}
use Rattle.sender.specs.Sending.{Row, rows_of}
use Rattle.stored.specs.Stored.{StoredRow, stored_wave, stored_rows_of, joined, dropped}
use Rattle.measure.specs.Levels.{Levels}
use Rattle.board.specs.Rows.{fresh}
use Rattle.board.specs.Feeding.{Report, reports}
use Rattle.promises.specs.Places.{Pair, over, Scene, Clocks, ends_of, reads_by, Link, line_wave, scene, cycles_of}
use Rattle.promises.specs.Places.{last_from, heard, last_after, last_sample}
use Rattle.promises.specs.Reaching.{ClocksFit}
use Rattle.promises.specs.Demand3.{Asked, Fitting, After, Demand3, receiver_settings}

-- D21: a stored plan on its link: the settings, the clocks, how the pair is laid, the plan's three lists, and what the
-- line chooses for unknown reads
pub record StoredLink : Type 0 where
  pub a : ℕ
  pub b : ℕ
  pub g : ℕ
  pub k : ℕ
  pub n : ℕ
  pub Q : ℕ
  pub clocks : Clocks
  pub pair : Pair
  pub leads : List ℕ
  pub trails : List ℕ
  pub bits : List ℕ
  pub choices : List ℕ

-- D21: the same link with a plan of these lead pads and the same bits, and so many high cycles after it
abbrev pub link_with : (y : StoredLink) (leads : List ℕ) (high_after : ℕ) → Link
link_with y leads high_after =
    record {
      a = y.a;
      b = y.b;
      g = y.g;
      k = y.k;
      n = y.n;
      Q = y.Q;
      clocks = y.clocks;
      pair = y.pair;
      rows = rows_of y.n leads y.bits;
      high_after = high_after;
      choices = y.choices;
    }

-- D21: with the plan that the stored one is read into
abbrev pub read_into : (y : StoredLink) (high_after : ℕ) → Link
read_into y high_after = link_with y (joined y.leads y.trails) high_after

-- D21: and with the dropped cycles after it, which is the stored plan's own wave
abbrev pub itself : StoredLink → Scene
itself y = scene (read_into y (dropped y.trails))

-- D21: and with no cycle after it
abbrev pub alone : StoredLink → Scene
alone y = scene (read_into y 0)

-- D21: the stored plan's own rows, with their trail pads
abbrev pub stored_rows : StoredLink → List StoredRow
stored_rows y = stored_rows_of y.n y.leads y.trails y.bits

-- D21: what the pair makes of the stored plan's own wave, and its reads
abbrev pub own_wave : StoredLink → List ℕ
own_wave y = over y.pair (stored_wave y.a y.b (stored_rows y))

-- D21
abbrev pub stored_reads : StoredLink → List ℕ
stored_reads y = reads_by y.clocks y.g (own_wave y) y.choices

-- D23: the cycle of that wave with which the lead pad of the row with this number begins
abbrev pub stored_from : (y : StoredLink) (number : ℕ) → ℕ
stored_from y number = length (stored_wave y.a y.b (take number (stored_rows y)))

-- D23: that lead pad, as it is stored
abbrev pub stored_lead : (y : StoredLink) (number : ℕ) → ℕ
stored_lead y number = get_or y.leads number 0

-- D21, D22: what holds of a stored plan whatever its margins
pub record WhateverItsMargins (y : StoredLink) : Type 0 where
  -- with the dropped cycles after it, the plan that it is read into has its very reads
  pub all : (itself y).reads ≡ stored_reads y
  -- and without them the front of these, where a read takes time and the clocks reach the end of the stored plan's wave
  pub front : 0 < (ends_of y.clocks).r1 → ClocksFit y.clocks (own_wave y)
      → (alone y).reads ≡ take (length (alone y).reads) (stored_reads y)
  -- M5 is no smaller for any row
  pub m5_no_smaller : (number : ℕ)
      → M5 y.g (ends_of y.clocks) y.Q (stored_lead y number)
      ≤ℤ M5 y.g (ends_of y.clocks) y.Q (get_or (joined y.leads y.trails) number 0)

-- D21, D22: of every stored plan that has a trail pad for each lead pad
abbrev pub EveryStoredPlan : Type 0
EveryStoredPlan = (y : StoredLink) → length y.trails ≡ length y.leads → WhateverItsMargins y

-- D22: what is asked of a stored plan: a trail pad for each lead pad, and what demand 3 asks (D20), with M5 for each
-- lead pad as it is stored, and with clocks that reach the end of its own wave
pub record StoredFits (y : StoredLink) : Type 0 where
  pub lists : length y.trails ≡ length y.leads
  pub asked : Asked (scene (link_with y y.leads 0))
  pub choices : Levels y.choices
  pub clocks : ClocksFit y.clocks (own_wave y)

-- D21, D22, D23: what holds then
pub record AsStored (y : StoredLink) : Type 0 where
  -- with nothing replaced, the same rows are delivered by the same reads
  pub same_rows : reports (receiver_settings (alone y)) fresh 0 (stored_reads y)
      ≡ reports (receiver_settings (alone y)) fresh 0 (alone y).reads
  -- the plan meets what demand 3 asks, and demand 3 holds of it, with as many high cycles after it as the clocks reach:
  -- with those that were dropped, and with any fewer
  pub reached : (high_after : ℕ) → high_after ≤ dropped y.trails
      → ClocksFit y.clocks (line_wave (read_into y high_after))
  pub fits : (high_after : ℕ) → ClocksFit y.clocks (line_wave (read_into y high_after)) → Fitting (read_into y high_after)
  pub demand : (high_after : ℕ) → ClocksFit y.clocks (line_wave (read_into y high_after))
      → let x = scene (read_into y high_after) in Demand3 x (reports (receiver_settings x) fresh 0)
  -- each lead pad as it is stored is the end of the row's lead, at the cycles where it stood
  pub same_cycles : (earlier : List Row) (row : Row) (later : List Row) → (itself y).rows ≡ earlier ++ row ∷ later
      → last_from (itself y) earlier row (stored_lead y (length earlier)) ≡ stored_from y (length earlier)
  -- What demand 3 says of the stored plan, whatever the stretch: of its own reads, and of each row's lead pad as it is
  -- stored, at its own cycles. The last samples are those that are counted from there.
  pub as_it_was : (hear : List ℕ → List Report) → Demand3 (itself y) hear
      → (earlier : List Row) (row : Row) (later : List Row) → (itself y).rows ≡ earlier ++ row ∷ later
      → After (itself y) hear (stored_from y (length earlier)) (stored_lead y (length earlier)) earlier row later
  pub same_samples : (earlier : List Row) (row : Row) (later : List Row) → (itself y).rows ≡ earlier ++ row ∷ later
      → last_after (itself y) (heard (itself y) (stored_from y (length earlier)) (stored_lead y (length earlier)))
      ≡ last_sample (itself y) (cycles_of (itself y) earlier) row

-- D21, D22, D23: of every stored plan
abbrev pub StoredPlansHold : Type 0
StoredPlansHold = (y : StoredLink) → StoredFits y → AsStored y
