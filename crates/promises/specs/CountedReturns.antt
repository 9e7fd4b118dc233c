-- Rules M: with settings that are accepted, no message is lost between sender and counted receiver, with all clocks
-- that keep to the ends, on a straight pair, where it starts high. Steady clocks are a case of it, and source 002's
-- results cases of that.
use Rattle.std.specs.Prelude.{ℕ, ◌+◌, ◌*◌, ◌≤◌, ◌<◌, ◌≡◌, true, List, [], ◌∷◌, ◌++◌, length}
use Rattle.measure.specs.Choose.{between}
use Rattle.measure.specs.Ranges.{sampling, bits_most, entries_most}
use Rattle.measure.specs.Levels.{Levels}
use Rattle.measure.specs.Lists.{onto}
use Rattle.measure.specs.Refusals.{given}
use Rattle.settings.specs.Margins.{Ends, steady, accepted}
use Rattle.sender.specs.Sending.{pad, wave}
use Rattle.line.specs.Passes.{over_the_line}
use Rattle.counted.specs.Counted.{counted, current}
use Rattle.counted.specs.Answers.{counted_bits}
use Rattle.promises.specs.Places.{Clocks, reads_by}
use Rattle.promises.specs.Reaching.{ClocksFit, KeepsTo}

-- M20: the wave of a message, followed by so many high cycles, 0 included
abbrev pub followed : (a b p1 after : ℕ) (bits : List ℕ) → List ℕ
followed a b p1 after bits = wave a b p1 bits ++ pad after

-- M20: what the counted receiver, started high, finds of so many bits in reads
abbrev pub found : (k : ℕ) (bits reads : List ℕ) → List ℕ
found k bits reads = counted k (length bits) 1 reads

-- M20: Something holds of every message and its reads: with any lead, any number of high cycles after it, 0 included,
-- any choices, and all clocks that keep to the ends and reach the wave's end.
abbrev pub EveryMessage : (a b g : ℕ) (e : Ends) (Holds : (bits reads : List ℕ) → Type 0) → Type 0
EveryMessage a b g e Holds =
    (c : Clocks) → KeepsTo e c → (p1 after : ℕ) (bits choices : List ℕ) → ClocksFit c (followed a b p1 after bits)
    → Levels bits → Levels choices → Holds bits (reads_by c g (followed a b p1 after bits) choices)

-- M20: every message is returned
abbrev pub EveryMessageReturned : (a b g k : ℕ) (e : Ends) → Type 0
EveryMessageReturned a b g k e = EveryMessage a b g e (λ bits reads. found k bits reads ≡ bits)

-- M20: the theorem: accepted settings return every message
abbrev pub AcceptedReturn : Type 0
AcceptedReturn = (a b g k : ℕ) (e : Ends) → 1 ≤ g → accepted a b g k e ≡ true → EveryMessageReturned a b g k e

-- M20: steady clocks are a case of it, with warp itself and any phase below w
abbrev pub SteadyReturn : Type 0
SteadyReturn = (a b g k w r p p1 after : ℕ) (bits choices : List ℕ) → 1 ≤ g → accepted a b g k (steady w r) ≡ true
    → p < w → Levels bits → Levels choices
    → found k bits (over_the_line g w r p (followed a b p1 after bits) choices) ≡ bits

-- M20: What that means for the operation: where its own ranges, limits and room are kept, it answers with the number of
-- bits and the place of the last sample, and the bits stand at the output's front.
abbrev pub Operates : (k : ℕ) (bits reads : List ℕ) → Type 0
Operates k bits reads =
    (output : List ℕ) → sampling k ≡ true → length bits ≤ bits_most → length reads ≤ entries_most
    → length bits ≤ length output
    → counted_bits k (length bits) 1 reads output
    ≡ (given (length bits, current k (length bits) 1 reads), onto bits output)

-- M20: so it does with accepted settings
abbrev pub OperationReturns : Type 0
OperationReturns = (a b g k : ℕ) (e : Ends) → 1 ≤ g → accepted a b g k e ≡ true → EveryMessage a b g e (Operates k)

-- M21: w / r is within one part in n of unity: from 1 - 1/n to 1 + 1/n
pub record WithinOnePartIn (n w r : ℕ) : Type 0 where
  pub least : n * r ≤ n * w + r
  pub most : n * w ≤ n * r + r

-- M21: source 002's two results: its 18-cycle cell within 1/18 of unity, and its 32-cycle cell, with k 23, within 1/32;
-- both lie inside the margins of a settling count of 1
pub record Source002 : Type 0 where
  pub cell_18_accepted : (w r : ℕ) → WithinOnePartIn 18 w r → accepted 5 13 1 10 (steady w r) ≡ true
  pub cell_18_returns : (w r : ℕ) → WithinOnePartIn 18 w r → EveryMessageReturned 5 13 1 10 (steady w r)
  pub cell_32_accepted : (w r : ℕ) → WithinOnePartIn 32 w r → accepted 16 16 1 23 (steady w r) ≡ true
  pub cell_32_returns : (w r : ℕ) → WithinOnePartIn 32 w r → EveryMessageReturned 16 16 1 23 (steady w r)

-- M23: the shortest and the longest read that the 18-cycle cell bears at w 100
abbrev pub shortest_read : ℕ
shortest_read = 67

-- M23
abbrev pub longest_read : ℕ
longest_read = 141

-- M23: Source 002 conjectures that its 18-cycle cell bears ratios almost 30 per cent from unity. At w 100 the reads of
-- these lengths are accepted and no others, and return every message; one step further on either side a bit is lost.
pub record Conjecture002 : Type 0 where
  pub accepts_exactly : (r : ℕ) → accepted 5 13 1 10 (steady 100 r) ≡ between shortest_read longest_read r
  pub returns : (r : ℕ) → shortest_read ≤ r → r ≤ longest_read → EveryMessageReturned 5 13 1 10 (steady 100 r)
  pub too_fast : found 10 (1 ∷ []) (over_the_line 1 100 66 35 (followed 5 13 1 0 (1 ∷ [])) []) ≡ 0 ∷ []
  pub too_slow : found 10 (0 ∷ []) (over_the_line 1 100 142 97 (followed 5 13 0 10 (0 ∷ [])) (1 ∷ 1 ∷ [])) ≡ 1 ∷ []
