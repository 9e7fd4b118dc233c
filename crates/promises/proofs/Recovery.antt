-- A replaced stretch: what comes before it is as it was, and once a lead read after it has been heard the receiver is
-- ready whatever it went through.
use mathlib.Core.Path.{◌≡◌, subst, sym, ap, ◌∙◌}
use mathlib.Core.List.{List, [], ◌∷◌, ◌++◌, append_assoc}
use Prim.Native.Nat.{ℕ, suc, ◌+◌, ◌*◌, ◌-◌, ◌≤◌, ◌<◌}
use native.Mathlib.Nat.{zero-add}
use native.Mathlib.Decide.{dec_le}
use native.Mathlib.Omega.{arith}
use lib.ListN.{length, get_or, take, drop, length-append, length-drop, length-take, take-append-drop}
use lib.Seq.{get_or-drop, length-take-le, drop-drop}
use Rattle.sender.specs.Sending.{Row, pad, plan_wave}
use Rattle.sender.proofs.PlanWaves.{size, length_rows, size_append}
use Rattle.line.specs.Smooth.{smooth}
use Rattle.line.specs.Sharing.{Shares}
use Rattle.line.proofs.ClockBounds.{Clock, mono, cycle_of}
use Rattle.line.proofs.SmoothLaws.{length_smooth}
use Rattle.line.proofs.LineLaws.{Reads}
use Rattle.board.specs.Rows.{State, fresh, ready, next}
use Rattle.board.specs.Feeding.{Report, Step, after_by, reports_by}
use Rattle.board.proofs.FeedingLaws.{after_append}
use Rattle.board.proofs.RowSteps.{rules}
use Rattle.board.proofs.Goes.{Goes, stay}
use Rattle.board.proofs.Fed.{feeds, leads, reports_on}
use Rattle.promises.specs.Places.{Pair, quiet_on, over}
use Rattle.promises.specs.Replaced.{below, above, moved}
use Rattle.promises.proofs.Timing.{Margins}
use Rattle.promises.proofs.Pairs.{quiet_level, length_over}
use Rattle.promises.proofs.Sent.{Line, sent, later_line}
use Rattle.promises.proofs.Sampling.{Samples, samples_later}
use Rattle.promises.proofs.OneRow.{two}
use Rattle.promises.proofs.Quiets.{Lead, lead_reads, quiet_reads, from_any}
use Rattle.promises.proofs.ManyRows.{Fit, later_fit, Placed, a_row, heard_lead, heard_rows, delivered}
use Rattle.promises.proofs.Seams.{moved_to, first_part, last_part, moves}

-- below the stretch the reports are those of the reads as they were
pub before_stretch : (step : Step) (R : List ℕ) (i j : ℕ) (junk : List ℕ) → i ≤ length R
    → below i (reports_by step fresh 0 (take i R ++ junk ++ drop j R)) ≡ below i (reports_by step fresh 0 R)
before_stretch step R i j junk h =
    rw append_assoc (first_part step (take i R) (junk ++ drop j R) fresh i (length-take-le i R h))
    ∙ sym (first_part step (take i R) (drop i R) fresh i (length-take-le i R h))
    ∙ rw (take-append-drop i R)

-- Above the place of read h, which the stretch moves, they are those of the reads from the next on, e, from any state
-- that all states lead to, moved.
pub after_stretch : (step : Step) (R : List ℕ) (i j : ℕ) (junk : List ℕ) (h : ℕ) (t : State) → i ≤ length R → j ≤ h
    → h < length R
    → ((s : State) → after_by step s (take (suc h - j) (drop j R)) ≡ t)
    → above (moved_to i j junk h) (reports_by step fresh 0 (take i R ++ junk ++ drop j R))
    ≡ moved i j junk (reports_by step t (suc h) (drop (suc h) R))
after_stretch step R i j junk h t fits jh hR lead =
    ap (λ (l : List ℕ). above (moved_to i j junk h) (reports_by step fresh 0 l)) parts
    ∙ last_part step (take i R ++ junk ++ A) (drop (suc h) R) fresh (moved_to i j junk h) size
    ∙ rw (ready_then) (ap (λ (p : ℕ). reports_by step t p (drop (suc h) R)) next_place)
    ∙ sym (moves step i j junk (drop (suc h) R) (suc h) t (omega arith))
  where
    A : List ℕ
    A = take (suc h - j) (drop j R)

    place : j + (suc h - j) ≡ suc h
    place = omega arith

    parts : take i R ++ junk ++ drop j R ≡ (take i R ++ junk ++ A) ++ drop (suc h) R
    parts =
        ap (λ (x : List ℕ). take i R ++ junk ++ x)
        (sym (take-append-drop (suc h - j) (drop j R))
        ∙ ap (λ (x : List ℕ). A ++ x) (drop-drop (suc h - j) j R ∙ ap (λ (x : ℕ). drop x R) place))
        ∙ sym (append_assoc (take i R ++ junk) A (drop (suc h) R))

    size : length (take i R ++ junk ++ A) ≡ suc (moved_to i j junk h)
    size = simp (length-append, length-take, length-drop) (omega arith)

    next_place : suc (moved_to i j junk h) ≡ moved_to i j junk (suc h)
    next_place = omega arith

    ready_then : after_by step fresh (take i R ++ junk ++ A) ≡ t
    ready_then = after_append step fresh (take i R ++ junk) A ∙ lead (after_by step fresh (take i R ++ junk))

-- Clocks within bounds, a settling count g, and the reads R of what a pair makes of the wave of a plan with high cycles
-- after it, smoothed.
module _ {tw tr : ℕ → ℕ} {w1 w2 r1 r2 : ℕ} (wclk : Clock tw w1 w2) (rclk : Clock tr r1 r2) (pos : 0 < r1)
    (phase : tw 0 ≤ tr 0) (start : tr 0 < tw 1)
    {a b g k : ℕ} (settles : 0 < g) (ok : Margins a b g k w1 w2 r1 r2) (n Q : ℕ)
    (m4 : (a + b + g) * w2 + 2 * r1 ≤ suc (Q * r1)) (some : 0 < n)
    (pair : Pair) (rows : List Row) (high : ℕ) (fit : Fit n Q g w1 r2 rows) (R : List ℕ)
    (reads : Reads tw tr (smooth g (over pair (plan_wave a b rows ++ pad high))) R) where
  abbrev D : ℕ → ℕ
  D i = get_or R i 2

  abbrev S : ℕ → ℕ
  S i = get_or (smooth g (over pair (plan_wave a b rows ++ pad high))) i 2

  abbrev E : ℕ
  E = length (plan_wave a b rows)

  abbrev L : ℕ
  L = length (smooth g (over pair (plan_wave a b rows ++ pad high)))

  abbrev v : ℕ
  v = quiet_on pair

  abbrev G : Step
  G = next (rules k n Q)

  lined : Line a b g v S L 0 rows
  lined = rw length_smooth (sent a b g pair rows high)

  within : E ≤ L
  within = rw length_smooth (rw (length_over, length-append) (omega arith))

  begun : tr 0 ≤ tw g
  begun = omega (arith, mono wclk 1 g settles)

  -- reports that are the rows from cycle c on, each at its last sample, which is among the first N reads
  abbrev pub Told : ℕ → List Report → ℕ → List Row → Type 0
  Told N told c later = Placed tw tr D g k Q v r2 (a + b) N c later told

  -- with nothing replaced exactly the rows are reported, all with reads that end by their last cell's end
  pub undamaged : (N : ℕ) → N ≤ length R → ((j : ℕ) → tr (suc j) ≤ tw E → j < N)
      → Told N (reports_by G fresh 0 R) 0 rows
  undamaged N few there =
      go (delivered E L within wclk rclk pos reads.settled ok n Q m4 some begun N (length R) few there reads.ends
      v (quiet_level pair) rows lined fit (omega (arith, length_rows a b rows)) phase)
    where
      go : (fs : List Report) × (t : State) × Goes k n Q D 0 fresh fs (length R) t × Told N fs 0 rows
          → Told N (reports_by G fresh 0 R) 0 rows
      go (fs, t, f, p) =
          subst (λ (x : List Report). Told N x 0 rows) (sym (feeds k n Q D f R (zero-add _) (λ h y. rw zero-add)).0) p

  -- a read that ends by the last row's end is there
  pub reads_in_rows : (j : ℕ) → tr (suc j) ≤ tw E → j < length R
  reads_in_rows j ends = reads.there j (omega (arith, mono wclk E L within))

  -- a row's last sample is the same, counted from the read after its lead has been heard and from this read on
  pub record SameSample (c : ℕ) (row : Row) (read : ℕ) : Type 0 where
    pub i0 : ℕ
    pub lead : Lead tw tr g Q c row.lead i0
    pub s : ℕ
    pub there : s < length R
    pub from_lead : Samples k D (length row.bits) v (i0 + Q) s
    pub from_read : Samples k D (length row.bits) v read s

  -- The last m cycles of a row's lead are read wholly from read j on; the row begins with cycle c. Then the receiver is
  -- ready after their Q reads from any state before read j, and from there exactly that row and those after it are
  -- reported.
  pub record Recovered (j c m : ℕ) (row : Row) (later : List Row) : Type 0 where
    pub i0 : ℕ
    pub lead : Lead tw tr g Q (c + (row.lead - m)) m i0
    pub from : j ≤ i0
    pub there : i0 + Q ≤ length R
    pub readies : (s : State) → after_by G s (take (i0 + Q - j) (drop j R)) ≡ ready Q v
    pub told : Told (length R) (reports_by G (ready Q v) (i0 + Q) (drop (i0 + Q) R)) c (row ∷ later)
    pub sample : SameSample c row (i0 + Q)

  module _ (j : ℕ) (earlier : List Row) (row : Row) (later : List Row) (same : rows ≡ earlier ++ row ∷ later)
      (m : ℕ) (part : m ≤ row.lead) (m5 : (Q + 1) * r2 + g * w1 ≤ suc (m * w1))
      (after : (i q : ℕ) → length (plan_wave a b earlier) + (row.lead - m) ≤ i
      → i < length (plan_wave a b earlier) + (row.lead - m) + m → q < length R → Shares tw tr q i → j ≤ q) where
    abbrev c : ℕ
    c = length (plan_wave a b earlier)

    abbrev c' : ℕ
    c' = c + (row.lead - m)

    fit' : Fit n Q g w1 r2 (row ∷ later)
    fit' = later_fit n Q g w1 r2 earlier (row ∷ later) (subst (λ (x : List Row). Fit n Q g w1 r2 x) same fit)

    total : c + size (a + b) (row ∷ later) ≡ E
    total =
        subst (λ (x : List Row). c + size (a + b) (row ∷ later) ≡ length (plan_wave a b x)) (sym same)
        (omega (
          arith,
          length_rows a b earlier,
          length_rows a b (earlier ++ row ∷ later),
          size_append (a + b) earlier (row ∷ later),
        ))

    some_q : 1 < Q
    some_q = two wclk rclk pos reads.settled ok n Q m4

    end : tw (c + row.lead) ≤ tw L
    end = mono wclk (c + row.lead) L (omega (arith, total, within))

    -- the last m cycles of the lead are heard with Q reads from i1 on
    module _ (line : Line a b g v S L c (row ∷ later)) (i1 : ℕ) (last : Lead tw tr g Q c' m i1) where
      ending : c' + m ≡ c + row.lead
      ending = omega arith

      last_ends : tr (i1 + Q) ≤ tw (c + row.lead)
      last_ends = subst (λ (x : ℕ). tr (i1 + Q) ≤ tw x) ending last.ends

      here_in : i1 + Q ≤ length R
      here_in = omega (arith, reads.there (i1 + Q - 1) (omega (arith, end, last_ends, ap tr this)), some_q)
        where
          this : suc (i1 + Q - 1) ≡ i1 + Q
          this = omega (arith, some_q)

      from : j ≤ i1
      from = found
          (cycle_of tw (tr i1) m c' (omega (arith, last.starts, mono wclk c' (c' + g) (omega arith)))
          (omega (arith, last.ends, rclk.low i1, mono rclk (suc i1) (i1 + Q) (omega (arith, some_q)))))
        where
          found : (i : ℕ) × (c' ≤ i) × (i < c' + m) × (tw i ≤ tr i1) × (tr i1 < tw (suc i)) → j ≤ i1
          found (i, p, q, lo, hi) =
              after i i1 p q (omega (arith, here_in, some_q))
              (record { before_the_end = omega (arith, rclk.low i1); after_the_start = hi })

      -- and the whole lead with Q reads from i0 on, which comes no later
      module _ (i0 : ℕ) (lead : Lead tw tr g Q c row.lead i0) where
        later_heard : i0 ≤ i1
        later_heard = this (dec_le i0 i1)
          where
            this : Dec (i0 ≤ i1) → i0 ≤ i1
            this (yes p) = p
            this (no p) =
                absurd (omega
                (arith, lead.first i1 (omega arith), last.starts, mono wclk (c + g) (c' + g) (omega arith)))

        -- between the two the lead is quiet, so the receiver stays ready
        between : (x : ℕ) → i0 + Q ≤ x → x < i1 + Q → D x ≡ v
        between x p q =
            quiet_reads wclk rclk pos reads.settled ok n Q m4 v (quiet_level pair) c row.lead i0 end line.0
            lead (i1 + Q) last_ends x (omega arith) q

        stays : Goes k n Q D (i0 + Q) (ready Q v) [] (i1 + Q) (ready Q v)
        stays = rw place at (stay k n Q D v (i1 - i0) (i0 + Q) λ x p q. between x p (omega (arith, place)))
          where
            place : i0 + Q + (i1 - i0) ≡ i1 + Q
            place = omega (arith, later_heard)

      sampled : {fs : List Report} → Told (length R) fs c (row ∷ later) → SameSample c row (i1 + Q)
      sampled (a_row {i0 = i0} {s = s} lead samples there last more) = record {
        i0 = i0;
        lead = lead;
        s = s;
        there = there;
        from_lead = samples;
        from_read =
            samples_later (i1 + Q) (omega (arith, later_heard i0 lead)) (between i0 lead) (omega (arith, some, fit'.1))
            samples;
      }

      recovers : (i0 : ℕ) → Lead tw tr g Q c row.lead i0 → Recovered j c m row later
      recovers i0 lead =
          tell (heard_rows E L within wclk rclk pos reads.settled ok n Q m4 some begun (length R) (length R)
          (omega arith) reads_in_rows reads.ends v (quiet_level pair) later row c i0 line fit' total lead)
        where
          tell : (fs : List Report) × (t : State) × Goes k n Q D (i0 + Q) (ready Q v) fs (length R) t
              × Told (length R) fs c (row ∷ later) → Recovered j c m row later
          tell (fs, t, f, p) = record {
            i0 = i1;
            lead = last;
            from = from;
            there = here_in;
            readies =
                leads k n Q R j i1 (i1 + Q) (ready Q v) from (omega arith) here_in
                (from_any wclk rclk pos reads.settled ok n Q m4 v (quiet_level pair) c' m i1
                (subst (λ (x : ℕ). tw x ≤ tw L) (sym ending) end)
                (λ i p q. line.0 i (omega arith) (omega arith)) last);
            told = subst (λ (l : List Report). Told (length R) l c (row ∷ later))
                (sym (feeds k n Q D f (drop (i0 + Q) R) (rw length-drop (omega (arith, here_in, later_heard i0 lead)))
                (λ h q. rw get_or-drop)).0
                ∙ reports_on k n Q R here_in (stays i0 lead)) p;
            sample = sampled p;
          }

    pub recovered : Recovered j c m row later
    recovered =
        go (later_line a b g v S L earlier (row ∷ later) 0 (subst (λ (x : List Row). Line a b g v S L 0 x) same lined))
        (heard_lead E L within wclk rclk pos reads.settled ok n Q m4 some begun (length R) (length R) (omega arith)
        reads_in_rows reads.ends v (quiet_level pair) row later c fit')
        (lead_reads wclk rclk pos reads.settled ok n Q m4 c' m
        (omega (arith, begun, mono wclk g (c' + g) (omega arith))) m5)
      where
        at : 0 + size (a + b) earlier ≡ c
        at = omega (arith, length_rows a b earlier)

        go : Line a b g v S L (0 + size (a + b) earlier) (row ∷ later)
            → (i0 : ℕ) × Lead tw tr g Q c row.lead i0 → (i1 : ℕ) × Lead tw tr g Q c' m i1 → Recovered j c m row later
        go line (i0, lead) (i1, last) =
            recovers (subst (λ (d : ℕ). Line a b g v S L d (row ∷ later)) at line) i1 last i0 lead
