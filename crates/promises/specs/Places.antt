-- A plan over a link: when its cycles and its reads start, its settled reads, with which of them a row's lead quiet has
-- been heard, and where its last sample falls. None of this asks the row receiver.
use Rattle.std.specs.Prelude.{ℕ, zero, suc, ◌+◌, ◌-◌, Bool, true, false, ◌&&◌, List, [], ◌∷◌, ◌++◌, length, drop, eqb, leb}
use Rattle.measure.specs.Choose.{choose}
use Rattle.settings.specs.Margins.{Ends, steady}
use Rattle.sender.specs.Sending.{opposite, Row, pad, plan_wave}
use Rattle.line.specs.Warp.{cycle_start, read_start}
use Rattle.line.specs.Wander.{start_of}
use Rattle.line.specs.Passes.{over_the_line, over_the_line_by_lengths}
use Rattle.counted.specs.Counted.{from_mark}
use Rattle.board.specs.Rows.{row as delivered}
use Rattle.board.specs.Feeding.{Report}

-- D10: how the two wires of a pair are laid (what crosses to C is another matter: `siengulot:Crossing`)
pub data Pair : Type 0 where
  straight : Pair
  crossed : Pair

-- D10: the level that is read in a quiet: high, and low where the wires are crossed
abbrev pub quiet_on : Pair → ℕ
quiet_on straight = 1
quiet_on crossed = 0

-- D10: a wave with every level turned over
unfoldable pub turned_over : List ℕ → List ℕ
turned_over [] = []
turned_over (level ∷ levels) = opposite level ∷ turned_over levels

-- D10: what a pair makes of a wave
abbrev pub over : Pair → List ℕ → List ℕ
over straight wave = wave
over crossed wave = turned_over wave

-- D10: a plan as it is read: the settings, the ends that the clocks keep to, how the pair is laid, the rows, when each
-- writer cycle and each read starts, and the settled reads
pub record Scene : Type 0 where
  pub a : ℕ
  pub b : ℕ
  pub g : ℕ
  pub k : ℕ
  pub ends : Ends
  pub n : ℕ
  pub Q : ℕ
  pub pair : Pair
  pub rows : List Row
  pub starts : ℕ → ℕ
  pub begins : ℕ → ℕ
  pub reads : List ℕ

-- D10: the clocks of a link: steady ones, with cycles of w and reads of r from p on, or ends, p, and a length for each
-- cycle and for each read
pub data Clocks : Type 0 where
  steadily : (w r p : ℕ) → Clocks
  by_lengths : (e : Ends) (p : ℕ) (cycle_lengths read_lengths : List ℕ) → Clocks

-- M40: the ends that they keep to
abbrev pub ends_of : Clocks → Ends
ends_of (steadily w r p) = steady w r
ends_of (by_lengths e p cycle_lengths read_lengths) = e

-- L20, L40: when each writer cycle starts, and when each read does
abbrev pub starts_by : Clocks → ℕ → ℕ
starts_by (steadily w r p) = cycle_start w
starts_by (by_lengths e p cycle_lengths read_lengths) = start_of 0 cycle_lengths

-- L20, L40
abbrev pub begins_by : Clocks → ℕ → ℕ
begins_by (steadily w r p) = read_start p r
begins_by (by_lengths e p cycle_lengths read_lengths) = start_of p read_lengths

-- L1: the settled reads of a wave: the wave after the three passes of the line
abbrev pub reads_by : Clocks → (g : ℕ) (wave choices : List ℕ) → List ℕ
reads_by (steadily w r p) g wave choices = over_the_line g w r p wave choices
reads_by (by_lengths e p cycle_lengths read_lengths) g wave choices =
    over_the_line_by_lengths g p cycle_lengths read_lengths wave choices

-- D10: the settings of a link, its clocks, how its pair is laid, the plan sent over it, how many high cycles are sent
-- after the plan (low ones, over a crossed pair), and what the line chooses for unknown reads
pub record Link : Type 0 where
  pub a : ℕ
  pub b : ℕ
  pub g : ℕ
  pub k : ℕ
  pub n : ℕ
  pub Q : ℕ
  pub clocks : Clocks
  pub pair : Pair
  pub rows : List Row
  pub high_after : ℕ
  pub choices : List ℕ

-- D10: what goes over the line: what the pair makes of the plan's wave, and of so many high cycles after it
abbrev pub line_wave : Link → List ℕ
line_wave x = over x.pair (plan_wave x.a x.b x.rows ++ pad x.high_after)

-- D10: its plan as it is read
abbrev pub scene : Link → Scene
scene x =
    record {
      a = x.a;
      b = x.b;
      g = x.g;
      k = x.k;
      ends = ends_of x.clocks;
      n = x.n;
      Q = x.Q;
      pair = x.pair;
      rows = x.rows;
      starts = starts_by x.clocks;
      begins = begins_by x.clocks;
      reads = reads_by x.clocks x.g (line_wave x) x.choices;
    }

-- D14: how many cycles rows have, one after another
abbrev pub cycles_of : Scene → List Row → ℕ
cycles_of x rows = length (plan_wave x.a x.b rows)

-- D12, D14: the cycle with which the last m lead cycles of a row begin that comes after these rows; with m its lead it
-- is the row's first
abbrev pub last_from : (x : Scene) (earlier : List Row) (row : Row) (m : ℕ) → ℕ
last_from x earlier row m = cycles_of x earlier + (row.lead - m)

-- D14: an entry before others, where a test holds
abbrev pub keep : {A : Type 0} → Bool → A → List A → List A
keep true entry entries = entry ∷ entries
keep false entry entries = entries

-- D14: the places where a test holds, of so many from one on
unfoldable pub places_where : (test : ℕ → Bool) (place many : ℕ) → List ℕ
places_where test place zero = []
places_where test place (suc many) = keep (test place) place (places_where test (suc place) many)

-- D14: the entry of a list with this number, the first is number 1
unfoldable pub numbered : (number : ℕ) → List ℕ → ℕ
numbered number [] = 0
numbered zero (entry ∷ entries) = entry
numbered (suc zero) (entry ∷ entries) = entry
numbered (suc (suc number)) (entry ∷ entries) = numbered (suc number) entries

-- D13: a read lies wholly within the cycles from one up to another; touching ends count
abbrev pub wholly : (x : Scene) (from to read : ℕ) → Bool
wholly x from to read =
    leb (x.starts from) (x.begins read) && leb (x.begins (suc read)) (x.starts to)

-- D14: the reads that lie wholly within lead cycles, so many from this cycle on, without the first g of them
unfoldable pub within_lead : (x : Scene) (cycle lead : ℕ) → List ℕ
within_lead x cycle lead = places_where (wholly x (cycle + x.g) (cycle + lead)) 0 (length x.reads)

-- D14: the read at which these lead cycles count as heard: number Q of these
unfoldable pub heard : (x : Scene) (cycle lead : ℕ) → ℕ
heard x cycle lead = numbered x.Q (within_lead x cycle lead)

-- C1: the place of the mark, where the first of these reads has this place
unfoldable pub mark_place : (level place : ℕ) (reads : List ℕ) → ℕ
mark_place level place [] = place
mark_place level place (read ∷ reads) = choose (eqb read level) (mark_place level (suc place) reads) place

-- C4: what follows a sample: the search for the next mark begins with it, at its level
abbrev pub from_sample : (ℕ → ℕ → List ℕ → ℕ) → ℕ → List ℕ → ℕ
from_sample next place [] = place
from_sample next place (sample ∷ reads) = next sample place (sample ∷ reads)

-- D15: the place of the n-th sample by the counted receiver's rule: the sample of each bit is k places after its mark
unfoldable pub sample_place : (k n level place : ℕ) (reads : List ℕ) → ℕ
sample_place k zero level place reads = place
sample_place k (suc n) level place reads =
    from_sample (sample_place k n) (mark_place level place reads + k) (drop k (from_mark level reads))

-- D15: the n-th sample by that rule, started at the level of a quiet with the read after this one
abbrev pub last_after : (x : Scene) (read : ℕ) → ℕ
last_after x read = sample_place x.k x.n (quiet_on x.pair) (suc read) (drop (suc read) x.reads)

-- D15: a row's last sample: the one after its whole lead has been heard
unfoldable pub last_sample : (x : Scene) (cycle : ℕ) (row : Row) → ℕ
last_sample x cycle row = last_after x (heard x cycle row.lead)

-- D16, D17: rows, the first of which begins with this cycle, each delivered once, at its last sample, in order
unfoldable pub deliveries : (x : Scene) (cycle : ℕ) (rows : List Row) → List Report
deliveries x cycle [] = []
deliveries x cycle (one ∷ rows) =
    record { place = last_sample x cycle one; event = delivered one.bits } ∷ deliveries x
    (cycle + cycles_of x (one ∷ [])) rows
