-- What is asked of clocks for a wave: of lists of lengths that they keep to their ends and reach the wave's end. Steady
-- clocks are a case of such lists.
use Rattle.std.specs.Prelude.{ℕ, suc, ◌*◌, ◌≤◌, ◌<◌, ◌≡◌, true, List, length, get_or, replicate}
use Rattle.settings.specs.Margins.{Ends}
use Rattle.line.specs.Wander.{start_of}
use Rattle.line.specs.Answers.{all_between}
use Rattle.promises.specs.Places.{Clocks, steadily, by_lengths, reads_by}

-- N14 to N19, D10, D20
pub record Reaching (e : Ends) (p : ℕ) (cycle_lengths read_lengths wave : List ℕ) : Type 0 where
  -- each cycle is w1 to w2 long, and each read r1 to r2
  pub w_order : e.w1 ≤ e.w2
  pub r_order : e.r1 ≤ e.r2
  pub written : all_between e.w1 e.w2 cycle_lengths ≡ true
  pub read : all_between e.r1 e.r2 read_lengths ≡ true
  -- the first read starts within the first cycle
  pub phase : p < get_or cycle_lengths 0 0
  -- each cycle of the wave has a length, and the reads go on until the wave ends
  pub lasting : length wave ≤ length cycle_lengths
  pub reach : start_of 0 cycle_lengths (length wave) ≤ start_of p read_lengths (length read_lengths)

-- D10, D20: of steady clocks a phase below w is asked, of others lengths that keep to the ends and reach the wave's end
abbrev pub ClocksFit : Clocks → (wave : List ℕ) → Type 0
ClocksFit (steadily w r p) wave = p < w
ClocksFit (by_lengths e p cycle_lengths read_lengths) wave = Reaching e p cycle_lengths read_lengths wave

-- M20: w and r lie within ends
pub record WithinEnds (e : Ends) (w r : ℕ) : Type 0 where
  pub w_least : e.w1 ≤ w
  pub w_most : w ≤ e.w2
  pub r_least : e.r1 ≤ r
  pub r_most : r ≤ e.r2

-- M20: clocks keep to ends: steady ones if w and r lie within them, others if these are the ends of their lengths
abbrev pub KeepsTo : Ends → Clocks → Type 0
KeepsTo e (steadily w r p) = WithinEnds e w r
KeepsTo e (by_lengths own p cycle_lengths read_lengths) = own ≡ e

-- D24: lists for steady clocks: w for each cycle of the wave and one more, and r as often as the wave has time units
abbrev pub equal_cycles : (w : ℕ) (wave : List ℕ) → List ℕ
equal_cycles w wave = replicate (suc (length wave)) w

-- D24
abbrev pub equal_reads : (w r : ℕ) (wave : List ℕ) → List ℕ
equal_reads w r wave = replicate (length wave * w) r

-- D24: clocks with these lists, within any ends
abbrev pub equal_lengths : (e : Ends) (w r p : ℕ) (wave : List ℕ) → Clocks
equal_lengths e w r p wave = by_lengths e p (equal_cycles w wave) (equal_reads w r wave)

-- D24: the lists reach the wave's end, and the reads are those of steady clocks
pub record SameByLengths (e : Ends) (w r p : ℕ) (wave : List ℕ) : Type 0 where
  pub fits : ClocksFit (equal_lengths e w r p wave) wave
  pub same_reads : (g : ℕ) (choices : List ℕ)
      → reads_by (equal_lengths e w r p wave) g wave choices ≡ reads_by (steadily w r p) g wave choices

-- D24: so steady clocks that keep to ends are a case of lists that do
abbrev pub SteadyByLengths : Type 0
SteadyByLengths = (e : Ends) (w r p : ℕ) (wave : List ℕ) → WithinEnds e w r → 1 ≤ r → p < w → SameByLengths e w r p wave
