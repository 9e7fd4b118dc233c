-- The whole way, call by call: a plan that is lent as lists is judged, sent, taken through the three passes and heard,
-- and each call is given what the one before left. What comes out is what demand 3 speaks of. No operation crosses the
-- wires, so the pair is straight here; over a crossed one each call is as demand 1 has it, and demand 3 of every caller
-- speaks of the reads.
use Rattle.std.specs.Prelude.{ℕ, ◌≤◌, ◌<◌, ◌≡◌, true, List, [], ◌∷◌, length, take}
use Rattle.measure.specs.Ranges.{entries_most}
use Rattle.measure.specs.Lists.{onto}
use Rattle.measure.specs.Refusals.{Answer, given, refused, refused_after}
use Rattle.settings.specs.Answers.{QuietJudgement, quiet_judgement}
use Rattle.sender.specs.Sending.{Row, plan_wave, rows_of}
use Rattle.sender.specs.Answers.{sent_plan}
use Rattle.line.specs.Smooth.{smooth}
use Rattle.line.specs.Warp.{warp}
use Rattle.line.specs.Answers.{smoothed, warped, settled}
use Rattle.measure.specs.Levels.{Levels}
use Rattle.promises.specs.Places.{straight, Scene, steadily, Link, scene, deliveries}
use Rattle.promises.specs.Demand3.{Asked, Fitting, receiver_settings, Demand3}
use Rattle.promises.specs.Promised.{good}
use Rattle.promises.specs.GoodInput as Good
use Rattle.promises.specs.Hearing.{Caller, hearing}

-- M13: the quiet judge says yes
abbrev pub SaysYes : Answer QuietJudgement → Type 0
SaysYes (given judgement) = judgement.accepts ≡ true
SaysYes (refused number place) = ⊥
SaysYes (refused_after number place count) = ⊥

-- D3: it does so for each of these lead pads
abbrev pub YesForEach : Scene → List ℕ → Type 0
YesForEach x [] = Unit {0}
YesForEach x (p1 ∷ leads) =
    SaysYes (quiet_judgement x.a x.b x.g x.k x.ends x.Q p1) × YesForEach x leads

-- D20: each of these rows has n bits, 0 or 1
abbrev pub BitsFit : Scene → List Row → Type 0
BitsFit x [] = Unit {0}
BitsFit x (row ∷ rows) = (length row.bits ≡ x.n) × Levels row.bits × BitsFit x rows

-- S23: the rows' lead pads
abbrev pub leads_of : List Row → List ℕ
leads_of [] = []
leads_of (row ∷ rows) = row.lead ∷ leads_of rows

-- D3, D20: The judge joined to demand 3: a yes for the lead of each row, at least one, is what demand 3 asks of the
-- settings, whether the clocks wander within their ends or are steady. The rest is asked of the bits.
abbrev pub AcceptedFits : Type 0
AcceptedFits = (x : Scene) → 1 ≤ length x.rows → YesForEach x (leads_of x.rows) → 1 ≤ x.n
    → BitsFit x x.rows → Asked x

-- D3: a plan as it is lent, the settings of its link, the line's choices, and the outputs that are lent to the four
-- calls
pub record Way : Type 0 where
  pub a : ℕ
  pub b : ℕ
  pub g : ℕ
  pub k : ℕ
  pub w : ℕ
  pub r : ℕ
  pub n : ℕ
  pub Q : ℕ
  pub p : ℕ
  pub leads : List ℕ
  pub bits : List ℕ
  pub choices : List ℕ
  pub for_wave : List ℕ
  pub for_smooth : List ℕ
  pub for_reads : List ℕ
  pub for_settled : List ℕ

-- D10: its link, with the plan's rows
abbrev pub link_of : Way → Link
link_of y =
    record {
      a = y.a;
      b = y.b;
      g = y.g;
      k = y.k;
      n = y.n;
      Q = y.Q;
      clocks = steadily y.w y.r y.p;
      pair = straight;
      rows = rows_of y.n y.leads y.bits;
      high_after = 0;
      choices = y.choices;
    }

-- D10: that plan as it is read
abbrev pub scene_of : Way → Scene
scene_of y = scene (link_of y)

-- D10: the plan's wave, what smoothing makes of it, and its reads before they settle
abbrev pub wave_of : Way → List ℕ
wave_of y = plan_wave y.a y.b (rows_of y.n y.leads y.bits)

-- D10
abbrev pub warped_of : Way → List ℕ
warped_of y = warp y.w y.r y.p (smooth y.g (wave_of y))

-- R32: the entries that a call has given: so many at the front of what it left
abbrev pub front : Answer ℕ × List ℕ → List ℕ
front (given count, left) = take count left
front (refused number place, left) = []
front (refused_after number place count, left) = []

-- R43: the four calls
abbrev pub sending : Way → Answer ℕ × List ℕ
sending y = sent_plan y.a y.b y.n y.leads y.bits y.for_wave

-- R44
abbrev pub smoothing : Way → Answer ℕ × List ℕ
smoothing y = smoothed y.g (front (sending y)) y.for_smooth

-- R45
abbrev pub warping : Way → Answer ℕ × List ℕ
warping y = warped y.w y.r y.p (front (smoothing y)) y.for_reads

-- R46
abbrev pub settling : Way → Answer ℕ × List ℕ
settling y = settled (front (warping y)) y.choices y.for_settled

-- D20: what is asked: a plan that is good input, a phase, choices that are such, reads and choices within their limits,
-- room in each output, and a yes of the quiet judge for each lead
pub record Within (y : Way) : Type 0 where
  pub plan : good (Good.send_plan y.a y.b y.n y.leads y.bits y.for_wave) ≡ true
  pub phase : y.p < y.w
  pub choices : Levels y.choices
  pub few_choices : length y.choices ≤ entries_most
  pub few_reads : length (warped_of y) ≤ entries_most
  pub smooth_room : length (wave_of y) ≤ length y.for_smooth
  pub reads_room : length (warped_of y) ≤ length y.for_reads
  pub settled_room : length (warped_of y) ≤ length y.for_settled
  pub accepted : YesForEach (scene_of y) y.leads

-- D3: what holds then
pub record WholeWay (y : Way) : Type 0 where
  -- each call gives what the rules make, and leaves all else as it was
  pub sends : sending y ≡ (given (length (wave_of y)), onto (wave_of y) y.for_wave)
  pub smooths : smoothing y ≡ (given (length (wave_of y)), onto (smooth y.g (wave_of y)) y.for_smooth)
  pub warps : warping y ≡ (given (length (warped_of y)), onto (warped_of y) y.for_reads)
  pub settles : settling y ≡ (given (length (warped_of y)), onto (scene_of y).reads y.for_settled)
  -- demand 3 speaks of this link and these reads
  pub fits : Fitting (link_of y)
  pub reads : front (settling y) ≡ (scene_of y).reads
  -- whoever hears them, each row is delivered once, in order, at its last sample, and nothing else is reported
  pub delivers : (caller : Caller)
      → hearing caller (receiver_settings (scene_of y)) (front (settling y)) ≡ deliveries (scene_of y) 0 (scene_of y).rows
  -- and with any stretch of them replaced by any others
  pub recovers : (caller : Caller) → Demand3 (scene_of y) (hearing caller (receiver_settings (scene_of y)))

-- D3
abbrev pub WholeWayHolds : Type 0
WholeWayHolds = (y : Way) → Within y → WholeWay y
