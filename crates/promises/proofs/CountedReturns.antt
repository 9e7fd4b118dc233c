-- Accepted settings meet the margins of the inner theorem, which ask one time unit less; source 002's settings are
-- accepted by three orders. The two runs on either side of its conjecture are computed: for these alone the rooms'
-- definitions are unfolded.
use mathlib.Core.Path.{◌≡◌, refl, subst}
use mathlib.Core.Logic.{dite}
use mathlib.Core.Bool.{Bool, true, false}
use mathlib.Core.List.{List, [], ◌∷◌}
use Prim.Native.Nat.{ℕ, ◌≤◌, ◌<◌}
use native.Mathlib.Nat.{mul-le-mul_right, lt_of_mul-lt-mul_left}
use native.Mathlib.Decide.{dec_le}
use native.Mathlib.Omega.{arith}
use lib.ListN.{length}
use borrow.Author.Tests.{le-leb, lt-leb}
use Rattle.settings.specs.Margins.{Ends, steady, accepted}
use Rattle.settings.proofs.Inequalities.{accepted_keeps, keeps_accepted}
use Rattle.sender.specs.Sending.{cells, wave}
use Rattle.sender.proofs.Waves.{followed_levels}
use Rattle.line.specs.Smooth.{smooth_from}
use Rattle.line.specs.Warp.{look, dropped, warp_from, warp}
use Rattle.line.specs.Settle.{settle}
use Rattle.line.specs.Passes.{over_the_line, over_the_line_by_lengths}
use Rattle.line.proofs.WanderBounds.{writer, reader, wandering_clocks}
use Rattle.line.proofs.WanderLine.{lengths_levels, lengths_reads}
use Rattle.counted.specs.Counted.{from_mark, counted}
use Rattle.counted.proofs.AllFound.{all_found}
use Rattle.measure.specs.Levels.{Levels}
use Rattle.promises.specs.Places.{Clocks, steadily, by_lengths}
use Rattle.promises.specs.Reaching.{Reaching, ClocksFit, KeepsTo, equal_cycles, equal_reads, SameByLengths}
use Rattle.promises.specs.CountedReturns.{followed, found, EveryMessage, EveryMessageReturned, AcceptedReturn}
use Rattle.promises.specs.CountedReturns.{SteadyReturn, Operates, OperationReturns}
use Rattle.promises.specs.CountedReturns.{WithinOnePartIn, Source002, shortest_read, longest_read, Conjecture002}
use Rattle.promises.proofs.Timing.{Margins}
use Rattle.promises.proofs.Received.{returns}
use Rattle.promises.proofs.SignedMargins.{accepted_margins}
use Rattle.promises.proofs.Reaches.{cycle_takes, wandering, within_steady, steady_by_lengths}

-- what holds with lists of lengths holds with steady clocks within their ends
module _ (a b g : ℕ) (e : Ends) (Holds : (bits reads : List ℕ) → Type 0) (takes : 0 < e.r1)
    (lists : (p p1 after : ℕ) (cycles reads bits choices : List ℕ)
    → Reaching e p cycles reads (followed a b p1 after bits) → Levels bits → Levels choices
    → Holds bits (over_the_line_by_lengths g p cycles reads (followed a b p1 after bits) choices)) where
  every : EveryMessage a b g e Holds
  every (steadily w r p) within p1 after bits choices below hb hc =
      subst (Holds bits) (same.same_reads g choices)
      (lists p p1 after (equal_cycles w sent) (equal_reads w r sent) bits choices same.fits hb hc)
    where
      sent : List ℕ
      sent = followed a b p1 after bits

      same : SameByLengths e w r p sent
      same = steady_by_lengths e w r p sent within (omega (arith, within.r_least)) below
  every (by_lengths own p cycles reads) same p1 after bits choices reach hb hc =
      lists p p1 after cycles reads bits choices
      (subst (λ (f : Ends). Reaching f p cycles reads (followed a b p1 after bits)) same reach) hb hc

-- margins of minus one or more and a read that takes time
pub returned : (a b g k : ℕ) (e : Ends) → 0 < g → 0 < e.r1 → Margins a b g k e.w1 e.w2 e.r1 e.r2
    → EveryMessageReturned a b g k e
returned a b g k e settles pos ok =
    every a b g e (λ bits reads. found k bits reads ≡ bits) pos
    (λ p p1 after cycles reads bits choices reach hb hc.
    let x = wandering reach pos in
    returns (writer x) (reader x) pos (wandering_clocks x).begun (wandering_clocks x).unended settles ok p1 after bits
    _ hb
    (lengths_reads x g (followed a b p1 after bits) choices reach.lasting reach.reach
    (followed_levels a b p1 after bits) hc))

-- M2 leaves no room for a read that takes no time
takes_time : (a b g k : ℕ) (e : Ends) → 0 < g → 0 < e.w2 → accepted a b g k e ≡ true → 0 < e.r1
takes_time a b g k e settles some h =
    lt_of_mul-lt-mul_left k (omega (arith, (accepted_keeps a b g k e h).M2, some, mul-le-mul_right e.w2 settles))

cycles_take : (e : Ends) (c : Clocks) (wave : List ℕ) → KeepsTo e c → ClocksFit c wave → 0 < e.w2
cycles_take e (steadily w r p) wave within below = omega (arith, within.w_most)
cycles_take e (by_lengths own p cycles reads) wave same reach =
    cycle_takes (subst (λ (f : Ends). Reaching f p cycles reads wave) same reach)

-- accepted settings
module _ (a b g k : ℕ) (e : Ends) (settles : 0 < g) (h : accepted a b g k e ≡ true) where
  returned_if_timed : 0 < e.r1 → EveryMessageReturned a b g k e
  returned_if_timed pos = returned a b g k e settles pos (accepted_margins a b g k e h)

  counted_if_timed : 0 < e.r1 → EveryMessage a b g e (Operates k)
  counted_if_timed pos =
      every a b g e (Operates k) pos
      (λ p p1 after cycles reads bits choices reach hb hc output ranged few short room.
      all_found k (length bits) 1 (over_the_line_by_lengths g p cycles reads (followed a b p1 after bits) choices) output
      bits ranged few (omega arith) short
      (lengths_levels (wandering reach pos) g (followed a b p1 after bits) choices reach.lasting reach.reach
      (followed_levels a b p1 after bits) hc)
      room (returned_if_timed pos (by_lengths e p cycles reads) refl p1 after bits choices reach hb hc) refl)

  timed : (c : Clocks) (wave : List ℕ) → KeepsTo e c → ClocksFit c wave → 0 < e.r1
  timed c wave keeps fits = takes_time a b g k e settles (cycles_take e c wave keeps fits) h

pub accepted_return : AcceptedReturn
accepted_return a b g k e settles h c keeps p1 after bits choices fits =
    returned_if_timed a b g k e settles h (timed a b g k e settles h c (followed a b p1 after bits) keeps fits) c keeps
    p1 after bits choices fits

pub steady_return : SteadyReturn
steady_return a b g k w r p p1 after bits choices settles h below =
    accepted_return a b g k (steady w r) settles h (steadily w r p) (within_steady w r) p1 after bits choices below

pub operation_returns : OperationReturns
operation_returns a b g k e settles h c keeps p1 after bits choices fits =
    counted_if_timed a b g k e settles h (timed a b g k e settles h c (followed a b p1 after bits) keeps fits) c keeps
    p1 after bits choices fits

pub unless : (b : Bool) → (b ≡ true → ⊥) → b ≡ false
unless true h = absurd (h refl)
unless false h = refl

within_18 : (w r : ℕ) → WithinOnePartIn 18 w r → accepted 5 13 1 10 (steady w r) ≡ true
within_18 w r near =
    keeps_accepted 5 13 1 10 (steady w r) (record { M1 = omega arith; M2 = omega arith; M3 = omega arith })

within_32 : (w r : ℕ) → WithinOnePartIn 32 w r → accepted 16 16 1 23 (steady w r) ≡ true
within_32 w r near =
    keeps_accepted 16 16 1 23 (steady w r) (record { M1 = omega arith; M2 = omega arith; M3 = omega arith })

pub source_002 : Source002
source_002 = record {
  cell_18_accepted = within_18;
  cell_18_returns = λ w r near. accepted_return 5 13 1 10 (steady w r) (omega arith) (within_18 w r near);
  cell_32_accepted = within_32;
  cell_32_returns = λ w r near. accepted_return 16 16 1 23 (steady w r) (omega arith) (within_32 w r near);
}

accepted_between : (r : ℕ) → shortest_read ≤ r → r ≤ longest_read → accepted 5 13 1 10 (steady 100 r) ≡ true
accepted_between r least most =
    keeps_accepted 5 13 1 10 (steady 100 r) (record { M1 = omega arith; M2 = omega arith; M3 = omega arith })

not_faster : (r : ℕ) → r < shortest_read → accepted 5 13 1 10 (steady 100 r) ≡ false
not_faster r short =
    unless (accepted 5 13 1 10 (steady 100 r)) (λ h. omega (arith, accepted_keeps 5 13 1 10 (steady 100 r) h))

not_slower : (r : ℕ) → longest_read < r → accepted 5 13 1 10 (steady 100 r) ≡ false
not_slower r long =
    unless (accepted 5 13 1 10 (steady 100 r)) (λ h. omega (arith, accepted_keeps 5 13 1 10 (steady 100 r) h))

too_fast : found 10 (1 ∷ []) (over_the_line 1 100 66 35 (followed 5 13 1 0 (1 ∷ [])) []) ≡ 0 ∷ []
unfolding cells wave smooth_from look dropped warp_from warp settle over_the_line from_mark counted
too_fast = refl

too_slow : found 10 (0 ∷ []) (over_the_line 1 100 142 97 (followed 5 13 0 10 (0 ∷ [])) (1 ∷ 1 ∷ [])) ≡ 1 ∷ []
unfolding cells wave smooth_from look dropped warp_from warp settle over_the_line from_mark counted
too_slow = refl

pub conjecture_002 : Conjecture002
conjecture_002 = record {
  accepts_exactly = λ r.
      dite (dec_le shortest_read r)
      (λ least.
      dite (dec_le r longest_read)
      (λ most. rw (accepted_between r least most, le-leb shortest_read r least, le-leb r longest_read most))
      (λ most. rw (not_slower r (omega arith), le-leb shortest_read r least, lt-leb r longest_read (omega arith))))
      (λ least. rw (not_faster r (omega arith), lt-leb shortest_read r (omega arith)));
  returns = λ r least most. accepted_return 5 13 1 10 (steady 100 r) (omega arith) (accepted_between r least most);
  too_fast = too_fast;
  too_slow = too_slow;
}
