-- Demand 3 tried at P10's settings: two rows, and reads between their last samples replaced by a false quiet with a
-- false mark after it; tried of the same rows over a crossed pair; of the same rows stored with a trail pad; on a line
-- with a settling count of 2, where rows also come as soon and as late as they can; and with clocks that wander.
use Rattle.std.specs.Prelude.{ℕ, zero, suc, ◌+◌, ◌-◌, ◌≡◌, List, [], ◌∷◌, ◌++◌, get_or, replicate}
use Rattle.settings.specs.Margins.{ends}
use Rattle.sender.specs.Sending.{Row}
use Rattle.board.specs.Rows.{Event, row, broken, fresh}
use Rattle.board.specs.Feeding.{Report, reports as reports_of}
use Rattle.promises.specs.Places.{straight, crossed, turned_over, Scene, steadily, by_lengths, Link, scene}
use Rattle.promises.specs.Places.{cycles_of, heard, deliveries}
use Rattle.promises.specs.Replaced.{WhollyAfter, damaged, below, above}
use Rattle.promises.specs.Demand3.{Fitting, Demand3, receiver_settings}
use Rattle.promises.specs.Ready.{Ready}
use Rattle.promises.specs.WholeWay.{YesForEach, Way, link_of, Within, WholeWay}
use Rattle.promises.specs.StoredPlans.{StoredLink, itself, stored_from, stored_lead, StoredFits}

-- D3
abbrev pub first : Row
first = record { lead = 23; bits = 1 ∷ 0 ∷ [] }

-- D3
abbrev pub second : Row
second = record { lead = 23; bits = 0 ∷ 1 ∷ [] }

-- M4 and both M5 are 0. Each read shares time with two cycles; unknown reads fall both ways, and low where the second
-- row's lead begins.
abbrev pub p10 : Link
p10 = record {
  a = 5;
  b = 13;
  g = 1;
  k = 10;
  n = 2;
  Q = 21;
  clocks = steadily 100 100 40;
  pair = straight;
  rows = first ∷ second ∷ [];
  high_after = 0;
  choices = 1 ∷ 0 ∷ 0 ∷ 1 ∷ 1 ∷ 0 ∷ [];
}

-- D10
abbrev pub p10_read : Scene
p10_read = scene p10

-- D20: the same plan as it is lent, with no more room than the results take
abbrev pub p10_lent : Way
p10_lent = record {
  a = p10.a;
  b = p10.b;
  g = p10.g;
  k = p10.k;
  w = 100;
  r = 100;
  n = p10.n;
  Q = p10.Q;
  p = 40;
  leads = 23 ∷ 23 ∷ [];
  bits = 1 ∷ 0 ∷ 0 ∷ 1 ∷ [];
  choices = p10.choices;
  for_wave = replicate 118 0;
  for_smooth = replicate 118 0;
  for_reads = replicate 117 0;
  for_settled = replicate 117 0;
}

-- D11: Q high reads, then a mark
abbrev pub false_high : List ℕ
false_high = replicate 21 1 ++ replicate 3 0

-- reads 54 up to 58 replaced; read 58 is the first that shares time with the second row's lead
abbrev pub damaged_reports : List Report
damaged_reports = reports_of (receiver_settings p10_read) fresh 0 (damaged p10_read 54 58 false_high)

-- D16: a report
abbrev pub at : (place : ℕ) (event : Event) → Report
at place event = record { place = place; event = event }

-- D3
pub record Tried : Type 0 where
  -- the hypotheses are met, so demand 3 holds here
  pub fits : Fitting p10
  pub demand : Demand3 p10_read (reports_of (receiver_settings p10_read) fresh 0)
  pub wholly : WhollyAfter p10_read (cycles_of p10_read (first ∷ [])) second.lead 58
  -- the places that it speaks of: the last samples, and the read with which the second lead quiet has been heard
  pub samples : deliveries p10_read 0 (first ∷ second ∷ []) ≡ at 51 (row (1 ∷ 0 ∷ [])) ∷ at 111 (row (0 ∷ 1 ∷ [])) ∷ []
  pub hears : heard p10_read (cycles_of p10_read (first ∷ [])) second.lead ≡ 80
  -- The reports. The false row is broken with the very read that the second lead quiet is heard with, now at 54 + 24 +
  -- (80 - 58): its own report comes before.
  pub reports : damaged_reports ≡ at 51 (row (1 ∷ 0 ∷ [])) ∷ at 100 (broken 1) ∷ at 131 (row (0 ∷ 1 ∷ [])) ∷ []
  pub before : below 54 damaged_reports ≡ at 51 (row (1 ∷ 0 ∷ [])) ∷ []
  pub after : above 100 damaged_reports ≡ at 131 (row (0 ∷ 1 ∷ [])) ∷ []
  -- what the whole way asks is met too, so it holds here
  pub lent : link_of p10_lent ≡ p10
  pub within : Within p10_lent
  pub whole_way : WholeWay p10_lent

-- D10: P10's plan over a crossed pair. Unknown reads fall the other way, one more of them where the first lead begins,
-- so every read is turned over.
abbrev pub p10_crossed : Link
p10_crossed = record {
  a = p10.a;
  b = p10.b;
  g = p10.g;
  k = p10.k;
  n = p10.n;
  Q = p10.Q;
  clocks = p10.clocks;
  pair = crossed;
  rows = p10.rows;
  high_after = 0;
  choices = 0 ∷ 0 ∷ 1 ∷ 1 ∷ 0 ∷ 0 ∷ replicate 9 1;
}

-- D10
abbrev pub crossed_read : Scene
crossed_read = scene p10_crossed

-- D11: Q low reads, then a mark
abbrev pub false_low : List ℕ
false_low = replicate 21 0 ++ replicate 3 1

-- D3: what is reported where reads 54 up to 58 are replaced
abbrev pub crossed_reports : (junk : List ℕ) → List Report
crossed_reports junk = reports_of (receiver_settings crossed_read) fresh 0 (damaged crossed_read 54 58 junk)

-- D3: a crossed pair
pub record TriedCrossed : Type 0 where
  pub fits : Fitting p10_crossed
  pub demand : Demand3 crossed_read (reports_of (receiver_settings crossed_read) fresh 0)
  pub wholly : WhollyAfter crossed_read (cycles_of crossed_read (first ∷ [])) second.lead 58
  pub turned : crossed_read.reads ≡ turned_over p10_read.reads
  -- the last samples and the read with which the second lead quiet, low now, has been heard are those of P10
  pub samples : deliveries crossed_read 0 (first ∷ second ∷ [])
      ≡ at 51 (row (1 ∷ 0 ∷ [])) ∷ at 111 (row (0 ∷ 1 ∷ [])) ∷ []
  pub hears : heard crossed_read (cycles_of crossed_read (first ∷ [])) second.lead ≡ 80
  -- and so are the reports, of a false quiet at either level
  pub reports_low : crossed_reports false_low
      ≡ at 51 (row (1 ∷ 0 ∷ [])) ∷ at 100 (broken 1) ∷ at 131 (row (0 ∷ 1 ∷ [])) ∷ []
  pub reports_high : crossed_reports false_high
      ≡ at 51 (row (1 ∷ 0 ∷ [])) ∷ at 100 (broken 1) ∷ at 131 (row (0 ∷ 1 ∷ [])) ∷ []
  pub before : below 54 (crossed_reports false_low) ≡ at 51 (row (1 ∷ 0 ∷ [])) ∷ []
  pub after : above 100 (crossed_reports false_low) ≡ at 131 (row (0 ∷ 1 ∷ [])) ∷ []

-- D23: the same two rows as they may be stored, with a trail pad of five cycles and one of three, which is dropped
abbrev pub stored : StoredLink
stored = record {
  a = 5;
  b = 13;
  g = 1;
  k = 10;
  n = 2;
  Q = 21;
  clocks = p10.clocks;
  pair = straight;
  leads = 23 ∷ 23 ∷ [];
  trails = 5 ∷ 3 ∷ [];
  bits = 1 ∷ 0 ∷ 0 ∷ 1 ∷ [];
  choices = 1 ∷ 0 ∷ 0 ∷ 1 ∷ 1 ∷ 0 ∷ [];
}

-- D23: Reads 54 up to 63 replaced, which reach into what was a trail pad: into the second row's lead of 28 cycles, and
-- into none of its last 23.
pub record TriedStored : Type 0 where
  pub fits : StoredFits stored
  pub not_whole : WhollyAfter (itself stored) (cycles_of (itself stored) (first ∷ [])) 28 63 → ⊥
  pub wholly : WhollyAfter (itself stored) (stored_from stored 1) (stored_lead stored 1) 63
  -- the read with which these have been heard, which the stretch moves to 54 + 24 + (85 - 63)
  pub hears : heard (itself stored) (stored_from stored 1) (stored_lead stored 1) ≡ 85
  -- so the user's wording says nothing of the second row, and the last 23 cycles still bring it
  pub after : above 100 (reports_of (receiver_settings p10_read) fresh 0 (damaged (itself stored) 54 63 false_high))
      ≡ at 131 (row (0 ∷ 1 ∷ [])) ∷ []

-- D3
abbrev pub slow_first : Row
slow_first = record { lead = 18; bits = 1 ∷ 0 ∷ [] }

-- D14: Two rows, with this second lead, on a line with this settling count. With g 2 and a lead of 18 all five margins
-- are 0. Each read shares time with two cycles, and every unknown read falls low.
abbrev pub slow_link : (g lead : ℕ) → Link
slow_link g lead = record {
  a = 4;
  b = 7;
  g = g;
  k = 7;
  n = 2;
  Q = 15;
  clocks = steadily 2 2 1;
  pair = straight;
  rows = slow_first ∷ record { lead = lead; bits = 0 ∷ 1 ∷ [] } ∷ [];
  high_after = 0;
  choices = [];
}

-- D10
abbrev pub slow : (g lead : ℕ) → Scene
slow g lead = scene (slow_link g lead)

-- D14: what is reported of reads on this line
abbrev pub slow_reports : List ℕ → List Report
slow_reports reads = reports_of (receiver_settings (slow 2 18)) fresh 0 reads

-- D11: reads 36 up to 39 replaced by Q high reads and a mark; read 39 is the first that shares time with the second
-- row's lead
abbrev pub slow_damaged : List ℕ
slow_damaged = damaged (slow 2 18) 36 39 (replicate 15 1 ++ replicate 3 0)

-- D14
pub record TriedSlow : Type 0 where
  pub judged : YesForEach (slow 2 18) (18 ∷ 18 ∷ [])
  pub fits : Fitting (slow_link 2 18)
  pub demand : Demand3 (slow 2 18) slow_reports
  pub wholly : WhollyAfter (slow 2 18) (cycles_of (slow 2 18) (slow_first ∷ [])) 18 39
  -- The slow edge: read 41 lies within the second lead without its first cycle, and is low. With g 1 it is high.
  pub slow_edge : get_or (slow 2 18).reads 41 2 ≡ 0
  pub quick_edge : get_or (slow 1 18).reads 41 2 ≡ 1
  -- so the lead quiet has been heard one read later than it would be with g 1
  pub hears : heard (slow 2 18) (cycles_of (slow 2 18) (slow_first ∷ [])) 18 ≡ 56
  pub hears_sooner : heard (slow 1 18) (cycles_of (slow 1 18) (slow_first ∷ [])) 18 ≡ 55
  -- The reports. The false row is broken with read 56, now at 36 + 18 + (56 - 39): after read 55 it is still to come.
  pub reports : slow_reports slow_damaged
      ≡ at 35 (row (1 ∷ 0 ∷ [])) ∷ at 71 (broken 1) ∷ at 93 (row (0 ∷ 1 ∷ [])) ∷ []
  pub after : above 71 (slow_reports slow_damaged) ≡ at 93 (row (0 ∷ 1 ∷ [])) ∷ []
  -- A second lead of 17 is accepted with g 1, and brings the row; on this line it is lost.
  pub judged_quick : YesForEach (slow 1 17) (18 ∷ 17 ∷ [])
  pub quick : slow_reports (slow 1 17).reads ≡ at 35 (row (1 ∷ 0 ∷ [])) ∷ at 76 (row (0 ∷ 1 ∷ [])) ∷ []
  pub lost : slow_reports (slow 2 17).reads ≡ at 35 (row (1 ∷ 0 ∷ [])) ∷ []

-- D26: Both bounds are reached on this line, whose margins are all 0: the first row ends before cycle 40, and the read
-- that delivers it starts one time unit after its last code has settled; the second ends before cycle 80, and its read
-- ends one time unit before its last cell does.
pub record TriedReady : Type 0 where
  pub ready : Ready (slow 2 18) slow_reports
  pub delivered : slow_reports (slow 2 18).reads ≡ at 35 (row (1 ∷ 0 ∷ [])) ∷ at 78 (row (0 ∷ 1 ∷ [])) ∷ []
  pub ends : (cycles_of (slow 2 18) (slow 2 18).rows ≡ 80) × (cycles_of (slow 2 18) (slow_first ∷ []) ≡ 40)
  pub earliest : (slow 2 18).starts (40 - 7 + 2) + 1 ≡ (slow 2 18).begins 35
  pub latest : (slow 2 18).begins (suc 78) + 1 ≡ (slow 2 18).starts 80

-- L40: lengths that come again and again
abbrev pub again : (times : ℕ) (lengths : List ℕ) → List ℕ
again zero lengths = []
again (suc times) lengths = lengths ++ again times lengths

-- D3
abbrev pub wander_first : Row
wander_first = record { lead = 20; bits = 1 ∷ 0 ∷ [] }

-- D3
abbrev pub wander_second : Row
wander_second = record { lead = 20; bits = 0 ∷ 1 ∷ [] }

-- L40
abbrev pub wander_cycle_lengths : List ℕ
wander_cycle_lengths = again 28 (9 ∷ 10 ∷ 10 ∷ [])

-- L40
abbrev pub wander_read_lengths : List ℕ
wander_read_lengths = again 44 (10 ∷ 9 ∷ [])

-- D10: Two rows on a line both of whose clocks wander by a tenth, from cycle to cycle and from read to read. M3 is 0,
-- M5 is 1, and every unknown read falls low.
abbrev pub wander_link : Link
wander_link = record {
  a = 4;
  b = 7;
  g = 1;
  k = 7;
  n = 2;
  Q = 16;
  clocks = by_lengths (ends 9 10 9 10) 8 wander_cycle_lengths wander_read_lengths;
  pair = straight;
  rows = wander_first ∷ wander_second ∷ [];
  high_after = 0;
  choices = [];
}

-- D10
abbrev pub wander : Scene
wander = scene wander_link

-- D3: what is reported of reads on this line
abbrev pub wander_reports : List ℕ → List Report
wander_reports reads = reports_of (receiver_settings wander) fresh 0 reads

-- D11: reads 39 up to 41 replaced by Q high reads and a mark; read 41 is the first that shares time with the second
-- row's lead
abbrev pub wander_damaged : List ℕ
wander_damaged = damaged wander 39 41 (replicate 16 1 ++ replicate 3 0)

-- D3, D20
pub record TriedWandering : Type 0 where
  pub judged : YesForEach wander (20 ∷ 20 ∷ [])
  pub fits : Fitting wander_link
  pub demand : Demand3 wander wander_reports
  pub wholly : WhollyAfter wander (cycles_of wander (wander_first ∷ [])) 20 41
  -- the last samples, and the read with which the second lead quiet has been heard
  pub samples : deliveries wander 0 (wander_first ∷ wander_second ∷ [])
      ≡ at 37 (row (1 ∷ 0 ∷ [])) ∷ at 82 (row (0 ∷ 1 ∷ [])) ∷ []
  pub hears : heard wander (cycles_of wander (wander_first ∷ [])) 20 ≡ 58
  -- The reports. The false row is broken with read 58, now at 39 + 19 + (58 - 41).
  pub reports : wander_reports wander_damaged
      ≡ at 37 (row (1 ∷ 0 ∷ [])) ∷ at 75 (broken 1) ∷ at 99 (row (0 ∷ 1 ∷ [])) ∷ []
  pub after : above 75 (wander_reports wander_damaged) ≡ at 99 (row (0 ∷ 1 ∷ [])) ∷ []
