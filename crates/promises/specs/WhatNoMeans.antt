-- Rules M, on what a refusal of settings leaves open. What it does say: the margins are exact to one time unit. All of
-- it is about the counted receiver, started high on a straight pair.
use Rattle.std.specs.Prelude.{ℕ, zero, suc, ◌≤◌, ◌<◌, ◌≡◌, ◌≢◌, Bool, true, false, ◌&&◌, List, [], ◌∷◌, ℤ, pos, negsuc, length}
use Rattle.measure.specs.Ranges.{pad_most, entries_most}
use Rattle.measure.specs.Levels.{Levels}
use Rattle.settings.specs.Margins.{Ends, steady, m1, m2, m3, accepted}
use Rattle.settings.specs.Answers.{in_range}
use Rattle.promises.specs.Places.{Clocks, steadily, reads_by}
use Rattle.promises.specs.Reaching.{ClocksFit, WithinEnds, equal_lengths}
use Rattle.promises.specs.CountedReturns.{followed, found, EveryMessageReturned}

-- M22: minus one or more: times are whole numbers, so a margin has one unit to spare
abbrev pub minus_one_or_more : ℤ → Bool
minus_one_or_more (pos n) = true
minus_one_or_more (negsuc zero) = true
minus_one_or_more (negsuc (suc n)) = false

-- M1, M2 and M3 are all minus one or more
unfoldable pub almost_accepted : (a b g k : ℕ) (e : Ends) → Bool
almost_accepted a b g k e =
    minus_one_or_more (m1 a g e) && minus_one_or_more (m2 a g k e) && minus_one_or_more (m3 a b g k e)

-- M22: a message of one bit on its way with steady clocks: its lead, the high cycles after it, a phase and choices
pub record OneBit (w : ℕ) : Type 0 where
  pub p1 : ℕ
  pub after : ℕ
  pub p : ℕ
  pub bit : ℕ
  pub choices : List ℕ
  pub phase : p < w
  pub is_bit : bit ≤ 1
  pub are_choices : Levels choices

-- M22: its wave, with what follows it
abbrev pub bit_wave : (a b : ℕ) {w : ℕ} → OneBit w → List ℕ
bit_wave a b m = followed a b m.p1 m.after (m.bit ∷ [])

-- M22: its reads with these clocks
abbrev pub bit_reads : (a b g : ℕ) (c : Clocks) {w : ℕ} → OneBit w → List ℕ
bit_reads a b g c m = reads_by c g (bit_wave a b m) m.choices

-- M22: with these clocks it is not returned
abbrev pub Lost : (a b g k : ℕ) (c : Clocks) {w : ℕ} → OneBit w → Type 0
Lost a b g k c m = found k (m.bit ∷ []) (bit_reads a b g c m) ≢ m.bit ∷ []

-- M22: its lead, its cycles, its reads and its choices are within the limits of refusals 1 and 3
pub record WithinLimits (a b g w r : ℕ) (m : OneBit w) : Type 0 where
  pub lead : m.p1 ≤ pad_most
  pub cycles : length (bit_wave a b m) ≤ entries_most
  pub reads : length (bit_reads a b g (steadily w r m.p) m) ≤ entries_most
  pub chosen : length m.choices ≤ entries_most

-- M22: lists of equal lengths w and r, within the ends, and a message of one bit that they lose
pub record LostWithin (a b g k : ℕ) (e : Ends) : Type 0 where
  pub w : ℕ
  pub r : ℕ
  pub within : WithinEnds e w r
  -- these are a worse corner of the ends: with steady clocks of w and r one margin is below minus one already
  pub worse : almost_accepted a b g k (steady w r) ≡ false
  pub message : OneBit w
  -- the lists keep to the ends and reach the wave's end
  pub fits : ClocksFit (equal_lengths e w r message.p (bit_wave a b message)) (bit_wave a b message)
  pub lost : Lost a b g k (equal_lengths e w r message.p (bit_wave a b message)) message

-- M22: Every message is returned, with all clocks that keep to the ends and reach its wave's end, exactly if M1, M2 and
-- M3 are minus one or more. At all other settings some of them lose a message of one bit, and some of equal lengths do.
pub record ExactRule (a b g k : ℕ) (e : Ends) : Type 0 where
  pub enough : almost_accepted a b g k e ≡ true → EveryMessageReturned a b g k e
  pub needed : EveryMessageReturned a b g k e → almost_accepted a b g k e ≡ true
  pub lost : almost_accepted a b g k e ≡ false → LostWithin a b g k e

-- M22: the rule holds of all settings of which a, g, k and the ends are at least 1, and the ends are in order
abbrev pub MarginsAreExact : Type 0
MarginsAreExact = (a b g k : ℕ) (e : Ends) → 1 ≤ a → 1 ≤ g → 1 ≤ k → 1 ≤ e.w1 → e.w1 ≤ e.w2 → 1 ≤ e.r1
    → e.r1 ≤ e.r2 → ExactRule a b g k e

-- M14: A "no" that loses nothing: at a 2, b 5, g 1, k 4 and equal clocks M1 is minus one and M2 and M3 are 0, so the
-- settings are refused and return every message.
pub record HarmlessNo : Type 0 where
  pub least : (m1 2 1 (steady 1 1) ≡ negsuc 0) × (m2 2 1 4 (steady 1 1) ≡ pos 0) × (m3 2 5 1 4 (steady 1 1) ≡ pos 0)
  pub refused : accepted 2 5 1 4 (steady 1 1) ≡ false
  pub returned : EveryMessageReturned 2 5 1 4 (steady 1 1)

-- M22: With steady clocks the rules' limits change nothing: where the settings are in range and some message of one bit
-- is within the limits, one within the limits is lost, and that with nothing after it.
abbrev pub LostWithinLimits : Type 0
LostWithinLimits = (a b g k w r : ℕ) → in_range a b g k (steady w r) ≡ true → (m : OneBit w) → WithinLimits a b g w r m
    → almost_accepted a b g k (steady w r) ≡ false → (n : OneBit w) × (n.after ≡ 0) × WithinLimits a b g w r n
    × Lost a b g k (steadily w r n.p) n
