-- What an answer says can be turned back into the answer, so what was promised leaves room for one answer alone.
use Prim.Native.Nat.{ℕ}
use mathlib.Core.Path.{◌≡◌, refl, sym, ap, ◌∙◌}
use mathlib.Core.List.{List}
use lib.Dec.{eqb}
use lib.IntN.{ℤ}
use Rattle.std.specs.Prelude.{Result, Ok, Err, Option, None, Some}
use Rattle.measure.specs.Choose.{choose}
use Rattle.measure.specs.Refusals.{Answer, given, refused, refused_after, number_of, place_of, says as saying}
use Rattle.measure.specs.declared.Refusal.{Refusal}
use Rattle.measure.specs.declared.Refusal.TheVariants.{Setting, Entry, Limit, Room, Cut, Form, Range, NoCount}
use Rattle.measure.specs.declared.Refusal.TheVariants.{NoEdge, NotLater, Miscounted}
use Rattle.measure.specs.declared.WriterCycles.{WriterCycles}
use Rattle.measure.specs.declared.ReadCycles.{ReadCycles}
use Rattle.settings.specs.declared.Margins.{Margins}
use Rattle.settings.specs.declared.QuietMargins.{QuietMargins}
use Rattle.settings.specs.declared.Verdict.{Verdict}
use Rattle.settings.specs.declared.Verdict.TheVariants as J
use Rattle.settings.specs.Answers.{Judgement, QuietJudgement, judged_as, quiet_judged_as}
use Rattle.settings.specs.Pick.{picked_says}
use Rattle.settings.proofs.PickHolds.{only_one}
use Rattle.settings.specs.declared.surveying.Figures.{Figures}
use Rattle.settings.specs.Survey.{Report, none, told, reported}
use Rattle.stored.specs.declared.Plan.{Plan}
use Rattle.stored.specs.Answers.{Told, told as told_plan}
use Rattle.counted.specs.declared.Found.{Found as Count}
use Rattle.counted.specs.declared.Stop as Counted
use Rattle.counted.specs.declared.Stop.TheVariants as C
use Rattle.counted.specs.Answers.{counted_says}
use Rattle.timecode.specs.declared.Stop as Times
use Rattle.timecode.specs.declared.Stop.TheVariants as T
use Rattle.timecode.specs.Answers.{read_says as times_says}
use Rattle.board.specs.Rows.{Event, nothing, row, broken}
use Rattle.board.specs.declared.Event.{Event as CodeEvent}
use Rattle.board.specs.declared.Event.TheVariants as E
use Rattle.board.specs.declared.Started.{Started}
use Rattle.board.specs.declared.Receiver.{Receiver}
use Rattle.board.specs.declared.Stepped.{Stepped}
use Rattle.board.specs.declared.Listened.{Listened}
use Rattle.board.specs.declared.Bare.{Bare}
use Rattle.board.specs.declared.Told.{Told as ToldLent}
use Rattle.board.specs.Answers.{Outcome, event_says, start_says, stepped_says, listened_says, told_says}
use Rattle.capture.specs.Capture.{Heading}
use Rattle.capture.specs.Numbers.{Numeral}
use Rattle.capture.specs.declared.Summary.{Summary}
use Rattle.capture.specs.declared.Number.{Number}
use Rattle.capture.specs.declared.Header.{Header}
use Rattle.capture.specs.Answers.{headed}
use Rattle.bay_log.specs.Records.{Log}
use Rattle.siengulot.specs.Surveys.{Found}
use Rattle.siengulot.specs.Receivers.{Reply, Lent as LentRoom}
use Rattle.siengulot.specs.Crossing.{numbered}
use Rattle.promises.specs.OneMeaning.{OneMeaning}

-- an answer can be recovered from what it says
record Said (X Y : Type 0) : Type 0 where
  says : X → Y
  back : Y → X
  turns : (x : X) → back (says x) ≡ x

-- so two answers that say the same are equal
same : {X Y : Type 0} (said : Said X Y) {defined : Y} {x y : X} → defined ≡ said.says x → defined ≡ said.says y
    → x ≡ y
same said {x = x} {y = y} h h' = sym (said.turns x) ∙ ap said.back (sym h ∙ h') ∙ said.turns y

-- and with them what stands beside the answers: what is left in a lent output
leaves : {X Y Z W : Type 0} (said : Said X Y) (place : Z → W) {defined : Y × Z} {x y : X} {left right : Z}
    → defined ≡ (said.says x, left) → defined ≡ (said.says y, right) → (x ≡ y) × (place left ≡ place right)
leaves {Y = Y} {Z = Z} said place h h' = (
  same said (ap (λ (p : Y × Z). p.0) h) (ap (λ (p : Y × Z). p.0) h'),
  ap (λ (p : Y × Z). place p.1) (sym h ∙ h'),
)

-- what crosses to C is the result and all that is left
crosses : {P X W : Type 0} (result : P → X) (places : P → W) {defined one other : P} → defined ≡ one → defined ≡ other
    → (result one ≡ result other) × (places one ≡ places other)
crosses result places h h' = (ap result (sym h ∙ h'), ap places (sym h ∙ h'))

-- a refusal from its number and place
refusal : ℕ → ℕ → Refusal
refusal number place =
    choose (eqb number 1) (Setting place)
    (choose (eqb number 2) (Entry place)
    (choose (eqb number 3) Limit
    (choose (eqb number 4) Room
    (choose (eqb number 6) (Cut place)
    (choose (eqb number 7) (Form place)
    (choose (eqb number 9) NoCount
    (choose (eqb number 11) (NoEdge place)
    (choose (eqb number 12) NotLater
    (choose (eqb number 13) Miscounted
    (Range place))))))))))

refusal_back : (f : Refusal) → refusal (number_of f) (place_of f) ≡ f
unfolding refusal
refusal_back (Setting at) = refl
refusal_back (Entry at) = refl
refusal_back Limit = refl
refusal_back Room = refl
refusal_back (Cut at) = refl
refusal_back (Form at) = refl
refusal_back (Range at) = refl
refusal_back NoCount = refl
refusal_back (NoEdge at) = refl
refusal_back NotLater = refl
refusal_back Miscounted = refl

-- an answer, back from what it says: from a result, from a refusal, and from one that says how much was found
answer : {A X : Type 0} → (A → X) → (Refusal → X) → (ℕ → ℕ → X) → Answer A → X
answer result denied after (given a) = result a
answer result denied after (refused number place) = denied (refusal number place)
answer result denied after (refused_after number place count) = after place count

-- where none says how much was found, the case of refusal 1 stands in
result : {X Y : Type 0} → (Y → X) → Answer Y → Result X Refusal
unfolding answer
result back = answer (λ y. Ok (back y)) Err (λ place count. Err (Setting 0))

-- a result or a refusal can be recovered where the result can
result_back : {X Y : Type 0} (tell : X → Y) (back : Y → X) → ((x : X) → back (tell x) ≡ x)
    → (r : Result X Refusal) → result back (saying tell r) ≡ r
unfolding result answer
result_back tell back turns (Ok x) = ap Ok (turns x)
result_back tell back turns (Err f) = ap Err (refusal_back f)

result_said : {X Y : Type 0} (tell : X → Y) (back : Y → X) → ((x : X) → back (tell x) ≡ x)
    → Said (Result X Refusal) (Answer Y)
result_said tell back turns =
    record { says = saying tell; back = result back; turns = result_back tell back turns }

verdict : Judgement → Verdict Margins
verdict j = choose j.accepts (J.Yes j.margins) (J.No j.margins)

quiet_verdict : QuietJudgement → Verdict QuietMargins
quiet_verdict j = choose j.accepts (J.Yes j.margins) (J.No j.margins)

report : Report → Option Figures
report none = None
report (told f) = Some f

event : Event → Option CodeEvent
event nothing = None
event (row bits) = Some E.Row
event (broken found) = Some (E.Broken found)

event_back : (n : ℕ) (bytes : List ℕ) (e : Result (Option CodeEvent) Refusal)
    → result event (event_says n bytes e) ≡ e
unfolding result answer event
event_back n bytes (Ok None) = refl
event_back n bytes (Ok (Some E.Row)) = refl
event_back n bytes (Ok (Some (E.Broken found))) = refl
event_back n bytes (Err f) = ap Err (refusal_back f)

-- a receiver's numbers, and what was told of lent bits, from the outcome
bare_of : Receiver → Bare
bare_of x = x.bare

told_of : Outcome × ℕ → ToldLent
unfolding result answer event
told_of (o, used) =
    record { bare = bare_of o.receiver; event = result event o.answer; used = record { 0 = used } }

step_of : Outcome → Stepped
unfolding result answer event
step_of o = record { receiver = o.receiver; event = result event o.answer; row = o.row }

listen_of : Outcome × ℕ → Listened
unfolding result answer event
listen_of (o, used) =
    record {
      receiver = o.receiver;
      event = result event o.answer;
      row = o.row;
      used =
          record { 0 = used };
    }

pub one_meaning : OneMeaning
unfolding result result_said answer verdict quiet_verdict report bare_of told_of step_of listen_of
one_meaning = record {
  number = record { always = λ κs a. tt; once = λ κs a x y left right h h'. (h ∙ sym h', refl) };
  place = record { always = λ κs a. tt; once = λ κs a x y left right h h'. (h ∙ sym h', refl) };
  between = record { always = λ κs a. tt; once = λ κs a x y left right h h'. (h ∙ sym h', refl) };
  row_settings_fit_says = record { always = λ κs a. tt; once = λ κs a x y left right h h'. (h ∙ sym h', refl) };
  first_above = record { always = λ κs a. tt; once = λ κs a x y left right h h'. (h ∙ sym h', refl) };
  check_entries = record { always = λ κs a. tt; once = λ κs a x y left right h h'. (sym h ∙ h', refl) };
  steady_clocks = record { always = λ κs a. tt; once = λ κs a x y left right h h'. (h ∙ sym h', refl) };
  judge = record { always = λ κs a. tt; once = λ κs a x y left right h h'. (same verdicts {x = x} {y = y} h h', refl) };
  judge_quiet_says = record { always = λ κs a. tt; once = λ κs a x y left right h h'. (same quiet_verdicts {x = x} {y = y} h h', refl) };
  pick = record {
    always = λ κs a. tt;
    once = λ κs a x y left right h h'.
        (same reads refl (only_one _ _ _ _ (picked_says x) (picked_says y) h h'), refl);
  };
  survey = record { always = λ κs a. tt; once = λ κs a x y left right h h'. (same reports {x = x} {y = y} h h', refl) };
  send = record {
    always = λ κs a. tt;
    once = λ κs a x y left right h h'. leaves waves (λ l. (tt, (tt, (tt, (l, tt))))) {x = x} {y = y} h h';
  };
  send_plan_says = record {
    always = λ κs a. tt;
    once = λ κs a x y left right h h'. leaves waves (λ l. (tt, (tt, (tt, (tt, (l, tt)))))) {x = x} {y = y} h h';
  };
  pads_in_range = record { always = λ κs a. tt; once = λ κs a x y left right h h'. (h ∙ sym h', refl) };
  read_plan_says = record {
    always = λ κs a. tt;
    once = λ κs a x y left right h h'. leaves plans (λ l. (tt, (tt, (l, tt)))) {x = x} {y = y} h h';
  };
  encode = record {
    always = λ κs a. tt;
    once = λ κs a x y left right h h'. leaves counts (λ l. (tt, (l, tt))) {x = x} {y = y} h h';
  };
  decode = record {
    always = λ κs a. tt;
    once = λ κs a x y left right h h'. leaves counts (λ l. (tt, (l, tt))) {x = x} {y = y} h h';
  };
  smooth = record {
    always = λ κs a. tt;
    once = λ κs a x y left right h h'. leaves waves (λ l. (tt, (tt, (l, tt)))) {x = x} {y = y} h h';
  };
  warp = record {
    always = λ κs a. tt;
    once = λ κs a x y left right h h'. leaves reads (λ l. (tt, (tt, (l, tt)))) {x = x} {y = y} h h';
  };
  warp_by_lengths_says = record {
    always = λ κs a. tt;
    once = λ κs a x y left right h h'.
        leaves reads (λ l. (tt, (tt, (tt, (tt, (tt, (tt, (l, tt)))))))) {x = x} {y = y} h h';
  };
  settle = record {
    always = λ κs a. tt;
    once = λ κs a x y left right h h'. leaves reads (λ l. (tt, (tt, (l, tt)))) {x = x} {y = y} h h';
  };
  count_bits = record {
    always = λ κs a. tt;
    once = λ κs a x y left right h h'. leaves counted_said (λ l. (tt, (tt, (tt, (tt, (l, tt)))))) {x = x} {y = y} h h';
  };
  read_times_says = record {
    always = λ κs a. tt;
    once = λ κs a x y left right h h'. leaves times_said (λ l. (tt, (l, tt))) {x = x} {y = y} h h';
  };
  write_time_says = record {
    always = λ κs a. tt;
    once = λ κs a x y left right h h'. leaves counts (λ l. (tt, (l, tt))) {x = x} {y = y} h h';
  };
  mode_number = record { always = λ κs a. tt; once = λ κs a x y left right h h'. (sym h ∙ h', refl) };
  fresh = record { always = λ κs a. tt; once = λ κs a x y left right h h'. (started h h', refl) };
  well_formed_says = record { always = λ κs a. tt; once = λ κs a x y left right h h'. (h ∙ sym h', refl) };
  step = record { always = λ κs a. tt; once = λ κs a x y left right h h'. (same stepped_said {x = x} {y = y} h h', refl) };
  listen = record { always = λ κs a. tt; once = λ κs a x y left right h h'. (same listened_said {x = x} {y = y} h h', refl) };
  bare = λ receiver x y h h'. ap bare_of (h ∙ sym h');
  well_formed_lent_says = record { always = λ κs a. tt; once = λ κs a x y left right h h'. (h ∙ sym h', refl) };
  step_lent = record {
    always = λ κs a. tt;
    once = λ κs a x y left right h h'. told h h' (λ bits row. (tt, (tt, (bits, (row, tt)))));
  };
  listen_lent = record {
    always = λ κs a. tt;
    once = λ κs a x y left right h h'. told h h' (λ bits row. (tt, (tt, (bits, (row, tt)))));
  };
  read_header = record { always = λ κs a. tt; once = λ κs a x y left right h h'. (same headers {x = x} {y = y} h h', refl) };
  check = record { always = λ κs a. tt; once = λ κs a x y left right h h'. (same summaries {x = x} {y = y} h h', refl) };
  read_capture_says = record {
    always = λ κs a. tt;
    once = λ κs a x y left right h h'. leaves summaries (λ l. (tt, (l, tt))) {x = x} {y = y} h h';
  };
  write_capture_says = record {
    always = λ κs a. tt;
    once = λ κs a x y left right h h'. leaves counts (λ l. (tt, (tt, (l, tt)))) {x = x} {y = y} h h';
  };
  reader_new = record { always = λ κs a. tt; once = λ κs a x y left right h h'. (h ∙ sym h', refl) };
  reader_place = record { always = λ κs a. tt; once = λ κs a x y left right h h'. (h ∙ sym h', refl) };
  reader_next = record { always = λ κs a. tt; once = λ κs a x y left right h h'. (same numbers {x = x} {y = y} h h', refl) };
  reader_advance = record { always = λ κs a. tt; once = λ κs a x y left right h h'. (h ∙ sym h', refl) };
  log_event_says = record {
    always = λ κs a. tt;
    once = λ κs a x y left right h h'. leaves counts (λ l. (tt, (l, tt))) {x = x} {y = y} h h';
  };
  log_clear_says = record {
    always = λ κs a. tt;
    once = λ κs a x y left right h h'. leaves cleared (λ l. (tt, (l, tt))) {x = x} {y = y} h h';
  };
  log_list_says = record {
    always = λ κs a. tt;
    once = λ κs a x y left right h h'. leaves counts (λ l. (tt, (tt, (l, tt)))) {x = x} {y = y} h h';
  };
  end_within = record { always = λ κs a. tt; once = λ κs a x y left right h h'. (h ∙ sym h', refl) };
  put_text = record {
    always = λ κs a. tt;
    once = λ κs a x y left right h h'. crosses (λ (p : ℕ × List ℕ). p.0) (λ p. (p.1, (tt, (tt, tt)))) h h';
  };
  number_size = record { always = λ κs a. tt; once = λ κs a x y left right h h'. (h ∙ sym h', refl) };
  put_number = record {
    always = λ κs a. tt;
    once = λ κs a x y left right h h'. crosses (λ (p : ℕ × List ℕ). p.0) (λ p. (p.1, (tt, (tt, tt)))) h h';
  };
  signed_size = record { always = λ κs a. tt; once = λ κs a x y left right h h'. (h ∙ sym h', refl) };
  put_signed = record {
    always = λ κs a. tt;
    once = λ κs a x y left right h h'. crosses (λ (p : ℕ × List ℕ). p.0) (λ p. (p.1, (tt, (tt, tt)))) h h';
  };
  put_heading = record { always = λ κs a. tt; once = λ κs a x y left right h h'. leaves counts (λ l. (l, tt)) h h' };
  put_row = record {
    always = λ κs a. tt;
    once = λ κs a x y left right h h'. leaves counts (λ l. (tt, (tt, (tt, (l, tt))))) {x = x} {y = y} h h';
  };
  put_broken = record {
    always = λ κs a. tt;
    once = λ κs a x y left right h h'. leaves counts (λ l. (tt, (tt, (l, tt)))) {x = x} {y = y} h h';
  };
  put_end = record {
    always = λ κs a. tt;
    once = λ κs a x y left right h h'. leaves counts (λ l. (tt, (tt, (l, tt)))) {x = x} {y = y} h h';
  };
  put_refused = record {
    always = λ κs a. tt;
    once = λ κs a x y left right h h'. leaves counts (λ l. (tt, (l, tt))) {x = x} {y = y} h h';
  };
  survey_lines_says = record {
    always = λ κs a. tt;
    once = λ κs a x y left right h h'. leaves counts (λ l. (tt, (tt, (tt, (tt, (tt, (tt, (l, tt)))))))) {x = x} {y = y} h h';
  };
  siengulot_judge = record {
    always = λ κs a. tt;
    once = λ κs a x y left right h h'.
        crosses (λ (p : ℕ × ℕ × List ℤ). p.0)
        (λ p. (tt, (tt, (tt, (tt, (tt, (tt, (p.2, (p.1, tt))))))))) h h';
  };
  siengulot_judge_quiet = record {
    always = λ κs a. tt;
    once = λ κs a x y left right h h'.
        crosses (λ (p : ℕ × ℕ × List ℤ). p.0)
        (λ p. (tt, (tt, (tt, (tt, (tt, (tt, (tt, (tt, (p.2, (p.1, tt))))))))))) h h';
  };
  siengulot_pick = record {
    always = λ κs a. tt;
    once = λ κs a x y left right h h'.
        crosses (λ (p : ℕ × ℕ). p.0)
        (λ p. (tt, (tt, (tt, (tt, (tt, (p.1, tt))))))) h.crosses
        (ap numbered (only_one _ _ _ _ h.answer h'.answer h.fits h'.fits) ∙ h'.crosses);
  };
  siengulot_judge_ends = record {
    always = λ κs a. tt;
    once = λ κs a x y left right h h'.
        crosses (λ (p : ℕ × ℕ × List ℤ). p.0)
        (λ p. (tt, (tt, (tt, (tt, (tt, (tt, (tt, (tt, (p.2, (p.1, tt))))))))))) h h';
  };
  siengulot_judge_quiet_ends = record {
    always = λ κs a. tt;
    once = λ κs a x y left right h h'.
        crosses (λ (p : ℕ × ℕ × List ℤ). p.0)
        (λ p. (tt, (tt, (tt, (tt, (tt, (tt, (tt, (tt, (tt, (tt, (p.2, (p.1, tt))))))))))))) h h';
  };
  siengulot_pick_ends = record {
    always = λ κs a. tt;
    once = λ κs a x y left right h h'.
        crosses (λ (p : ℕ × ℕ). p.0)
        (λ p. (tt, (tt, (tt, (tt, (tt, (tt, (tt, (p.1, tt))))))))) h.crosses
        (ap numbered (only_one _ _ _ _ h.answer h'.answer h.fits h'.fits) ∙ h'.crosses);
  };
  siengulot_send = record {
    always = λ κs a. tt;
    once = λ κs a x y left right h h'.
        crosses (λ (p : (ℕ × ℕ × ℕ) × List ℕ). p.0.0)
        (λ p. (tt, (tt, (tt, (tt, (p.1, (p.0.1, (p.0.2, tt)))))))) h h';
  };
  siengulot_plan = record {
    always = λ κs a. tt;
    once = λ κs a x y left right h h'.
        crosses (λ (p : (ℕ × ℕ × ℕ) × List ℕ). p.0.0)
        (λ p. (tt, (tt, (tt, (tt, (tt, (p.1, (p.0.1, (p.0.2, tt))))))))) h h';
  };
  siengulot_read_plan = record {
    always = λ κs a. tt;
    once = λ κs a x y left right h h'.
        crosses (λ (p : (ℕ × ℕ × ℕ × ℕ) × List ℕ). p.0.0)
        (λ p. (tt, (tt, (p.1, (p.0.1, (p.0.2, (p.0.3, tt))))))) h h';
  };
  siengulot_smooth = record {
    always = λ κs a. tt;
    once = λ κs a x y left right h h'.
        crosses (λ (p : (ℕ × ℕ × ℕ) × List ℕ). p.0.0)
        (λ p. (tt, (tt, (p.1, (p.0.1, (p.0.2, tt)))))) h h';
  };
  siengulot_warp = record {
    always = λ κs a. tt;
    once = λ κs a x y left right h h'.
        crosses (λ (p : (ℕ × ℕ × ℕ) × List ℕ). p.0.0)
        (λ p. (tt, (tt, (tt, (tt, (p.1, (p.0.1, (p.0.2, tt)))))))) h h';
  };
  siengulot_warp_by_lengths = record {
    always = λ κs a. tt;
    once = λ κs a x y left right h h'.
        crosses (λ (p : (ℕ × ℕ × ℕ) × List ℕ). p.0.0)
        (λ p. (tt, (tt, (tt, (tt, (tt, (tt, (tt, (tt, (p.1, (p.0.1, (p.0.2, tt)))))))))))) h h';
  };
  siengulot_settle = record {
    always = λ κs a. tt;
    once = λ κs a x y left right h h'.
        crosses (λ (p : (ℕ × ℕ × ℕ) × List ℕ). p.0.0)
        (λ p. (tt, (tt, (p.1, (p.0.1, (p.0.2, tt)))))) h h';
  };
  siengulot_counted = record {
    always = λ κs a. tt;
    once = λ κs a x y left right h h'.
        crosses (λ (p : (ℕ × ℕ × ℕ) × List ℕ). p.0.0)
        (λ p. (tt, (tt, (tt, (tt, (p.1, (p.0.1, (p.0.2, tt)))))))) h h';
  };
  siengulot_time_read = record {
    always = λ κs a. tt;
    once = λ κs a x y left right h h'.
        crosses (λ (p : (ℕ × ℕ × ℕ) × List ℕ). p.0.0)
        (λ p. (tt, (p.1, (p.0.1, (p.0.2, tt))))) h h';
  };
  siengulot_time_write = record {
    always = λ κs a. tt;
    once = λ κs a x y left right h h'.
        crosses (λ (p : (ℕ × ℕ × ℕ) × List ℕ). p.0.0)
        (λ p. (tt, (tt, (tt, (tt, (p.1, (p.0.1, (p.0.2, tt)))))))) h h';
  };
  siengulot_fresh = record {
    always = λ κs a. tt;
    once = λ κs a x y left right h h'.
        crosses (λ (p : ℕ × List ℕ × List ℕ). p.0)
        (λ p. (tt, (tt, (tt, (p.1, (p.2, tt)))))) h h';
  };
  siengulot_well_formed = record { always = λ κs a. tt; once = λ κs a x y left right h h'. (sym h ∙ h', refl) };
  siengulot_step = record {
    always = λ κs a. tt;
    once = λ κs a x y left right h h'.
        crosses (λ (p : Reply × LentRoom). p.0.number)
        (λ p. (p.1.numbers, (p.1.bytes, (tt, (p.1.row, (p.0.event, (p.0.found, (p.0.place, tt)))))))) h h';
  };
  siengulot_listen = record {
    always = λ κs a. tt;
    once = λ κs a x y left right h h'.
        crosses (λ (p : (Reply × LentRoom) × ℕ). p.0.0.number)
        (λ p. (
          p.0.1.numbers,
          (
            p.0.1.bytes,
            (
              tt,
              (
                p.0.1.row,
                (p.0.0.event, (p.0.0.found, (p.1, (p.0.0.place, tt)))),
              ),
            ),
          ),
        )) h h';
  };
  siengulot_capture_check = record {
    always = λ κs a. tt;
    once = λ κs a x y left right h h'.
        crosses (λ (p : ℕ × ℕ × List ℕ). p.0)
        (λ p. (tt, (p.2, (p.1, tt)))) h h';
  };
  siengulot_capture_read = record {
    always = λ κs a. tt;
    once = λ κs a x y left right h h'.
        crosses (λ (p : (ℕ × ℕ × List ℕ) × List ℕ). p.0.0)
        (λ p. (tt, (p.1, (p.0.2, (p.0.1, tt))))) h h';
  };
  siengulot_capture_write = record {
    always = λ κs a. tt;
    once = λ κs a x y left right h h'.
        crosses (λ (p : (ℕ × ℕ × ℕ) × List ℕ). p.0.0)
        (λ p. (tt, (tt, (tt, (tt, (p.1, (p.0.1, (p.0.2, tt)))))))) h h';
  };
  siengulot_encode = record {
    always = λ κs a. tt;
    once = λ κs a x y left right h h'.
        crosses (λ (p : (ℕ × ℕ × ℕ) × List ℕ). p.0.0)
        (λ p. (tt, (p.1, (p.0.1, (p.0.2, tt))))) h h';
  };
  siengulot_decode = record {
    always = λ κs a. tt;
    once = λ κs a x y left right h h'.
        crosses (λ (p : (ℕ × ℕ × ℕ) × List ℕ). p.0.0)
        (λ p. (tt, (p.1, (p.0.1, (p.0.2, tt))))) h h';
  };
  siengulot_log_event = record {
    always = λ κs a. tt;
    once = λ κs a x y left right h h'.
        crosses (λ (p : (ℕ × ℕ) × Log). p.0.0)
        (λ p. (
          tt,
          (
            tt,
            (
              tt,
              (
                tt,
                (
                  p.1.numbers,
                  (p.1.bits, (p.1.counts, (p.1.broken, (p.1.free, (p.1.broken_count, (p.0.1, tt)))))),
                ),
              ),
            ),
          ),
        )) h h';
  };
  siengulot_log_clear = record {
    always = λ κs a. tt;
    once = λ κs a x y left right h h'.
        crosses (λ (p : ℕ × Log). p.0)
        (λ p. (
          tt,
          (p.1.numbers, (p.1.bits, (p.1.counts, (p.1.broken, (p.1.free, (p.1.broken_count, tt)))))),
        )) h h';
  };
  siengulot_log_list = record {
    always = λ κs a. tt;
    once = λ κs a x y left right h h'.
        crosses (λ (p : (ℕ × ℕ) × List ℕ). p.0.0) (λ p. (tt, (tt, (p.1, (p.0.1, tt))))) h h';
  };
  siengulot_survey = record {
    always = λ κs a. tt;
    once = λ κs a x y left right h h'.
        crosses (λ (p : (ℕ × ℕ × ℕ × ℕ) × Found). p.0.0)
        (λ p.
        (tt, (tt, (tt, (tt, (tt, (tt, (p.1.margins, (p.1.places, (p.0.3, (p.0.1, (p.0.2, tt))))))))))))
        h h';
  };
  siengulot_survey_lines = record {
    always = λ κs a. tt;
    once = λ κs a x y left right h h'.
        crosses (λ (p : (ℕ × ℕ × ℕ) × List ℕ). p.0.0)
        (λ p. (tt, (tt, (tt, (tt, (tt, (tt, (p.1, (p.0.1, (p.0.2, tt)))))))))) h h';
  };
  put_line = λ bytes out left right x y h h'. leaves counts (λ l. l) {x = x} {y = y} h h';
  held_new = λ bytes x y h h'. h ∙ sym h';
  held_place = λ reader x y h h'. h ∙ sym h';
  held_next = λ bytes at x y h h'. same numbers {x = x} {y = y} h h';
  held_advance = λ reader x y h h'. h ∙ sym h';
}
  where
    -- what counts something, in whatever unit
    counts : Said (Result ℕ Refusal) (Answer ℕ)
    counts = result_said (λ n. n) (λ n. n) (λ n. refl)

    waves : Said (Result WriterCycles Refusal) (Answer ℕ)
    waves = result_said (λ cycles. cycles.0) (λ n. record { 0 = n }) (λ cycles. refl)

    reads : Said (Result ReadCycles Refusal) (Answer ℕ)
    reads = result_said (λ cycles. cycles.0) (λ n. record { 0 = n }) (λ cycles. refl)

    verdicts : Said (Result (Verdict Margins) Refusal) (Answer Judgement)
    verdicts = result_said judged_as verdict (elim [ J.Yes m ↦ refl | J.No m ↦ refl ])

    quiet_verdicts : Said (Result (Verdict QuietMargins) Refusal) (Answer QuietJudgement)
    quiet_verdicts = result_said quiet_judged_as quiet_verdict (elim [ J.Yes m ↦ refl | J.No m ↦ refl ])

    reports : Said (Result (Option Figures) Refusal) (Answer Report)
    reports = result_said reported report (elim [ None ↦ refl | Some f ↦ refl ])

    plans : Said (Result Plan Refusal) (Answer Told)
    plans = result_said told_plan (λ t. record { rows = t.rows; dropped = record { 0 = t.dropped } }) (λ plan. refl)

    cleared : Said (Result (Unit {0}) Refusal) (Answer (Unit {0}))
    cleared = result_said (λ done. done) (λ done. done) (λ done. refl)

    numbers : Said (Result Number Refusal) (Answer Numeral)
    numbers =
        result_said (λ number. record { value = number.value; after = number.after })
        (λ n. record { value = n.value; after = n.after }) (λ number. refl)

    head : Heading → Header
    head h =
        record {
          settings = record { k = record { 0 = h.k }; n = h.n; q = record { 0 = h.Q } };
          level = h.level;
          level_at = h.level_at;
          after = h.after;
        }

    headers : Said (Result Header Refusal) (Answer Heading)
    headers = result_said headed head (λ header. refl)

    summaries : Said (Result Summary Refusal) (Answer Summary)
    summaries = result_said (λ summary. summary) (λ summary. summary) (λ summary. refl)

    start_back : (x : Result (Unit {0}) Refusal) → result (λ e. tt) (start_says x) ≡ x
    start_back (Ok done) = refl
    start_back (Err f) = ap Err (refusal_back f)

    starts : Said (Result (Unit {0}) Refusal) (Answer Event)
    starts = record { says = start_says; back = result (λ e. tt); turns = start_back }

    -- refusals 5 and 10 say how much had been found by then
    count_back : (x : Result Count Counted.Stop)
        → answer (λ p. Ok (record { bits = p.0; at = p.1 })) (λ f. Err (C.Refused f))
        (λ at n. Err (C.RanOut (record { bits = n; at = at })))
        (counted_says x)
        ≡ x
    count_back (Ok found) = refl
    count_back (Err (C.RanOut found)) = refl
    count_back (Err (C.Refused f)) = ap (λ r. Err (C.Refused r)) (refusal_back f)

    times_back : (x : Result ℕ Times.Stop)
        → answer Ok (λ f. Err (T.Refused f)) (λ at n. Err (T.BadWord at n)) (times_says x) ≡ x
    times_back (Ok n) = refl
    times_back (Err (T.BadWord at n)) = refl
    times_back (Err (T.Refused f)) = ap (λ r. Err (T.Refused r)) (refusal_back f)

    counted_said : Said (Result Count Counted.Stop) (Answer (ℕ × ℕ))
    counted_said = record {
      says = counted_says;
      back =
          answer (λ p. Ok (record { bits = p.0; at = p.1 })) (λ f. Err (C.Refused f))
          (λ at n. Err (C.RanOut (record { bits = n; at = at })));
      turns = count_back;
    }

    times_said : Said (Result ℕ Times.Stop) (Answer ℕ)
    times_said = record {
      says = times_says;
      back = answer Ok (λ f. Err (T.Refused f)) (λ at n. Err (T.BadWord at n));
      turns = times_back;
    }

    step_back : (x : Stepped) → step_of (stepped_says x) ≡ x
    step_back x =
        ap (λ (e : Result (Option CodeEvent) Refusal). record { receiver = x.receiver; event = e; row = x.row })
        (event_back x.receiver.bare.settings.n x.row x.event)

    listen_back : (x : Listened) → listen_of (listened_says x) ≡ x
    listen_back x =
        ap (λ (e : Result (Option CodeEvent) Refusal). record { receiver = x.receiver; event = e; row = x.row; used = x.used })
        (event_back x.receiver.bare.settings.n x.row x.event)

    told_back : (x : ToldLent) (bits bytes : List ℕ) → told_of (told_says x bits bytes) ≡ x
    told_back x bits bytes =
        ap (λ (e : Result (Option CodeEvent) Refusal). record { bare = x.bare; event = e; used = x.used })
        (event_back x.bare.settings.n bytes x.event)

    told : {W : Type 0} {defined : Outcome × ℕ} {x y : ToldLent} {bits bits' bytes bytes' : List ℕ}
        → defined ≡ told_says x bits bytes → defined ≡ told_says y bits' bytes' → (place : List ℕ → List ℕ → W)
        → (x ≡ y) × (place bits bytes ≡ place bits' bytes')
    told {x = x} {y = y} {bits} {bits'} {bytes} {bytes'} h h' place = (
      sym (told_back x bits bytes) ∙ ap told_of (sym h ∙ h') ∙ told_back y bits' bytes',
      ap (λ (o : Outcome × ℕ). place o.0.receiver.bits o.0.row) (sym h ∙ h'),
    )

    stepped_said : Said Stepped Outcome
    stepped_said = record { says = stepped_says; back = step_of; turns = step_back }

    listened_said : Said Listened (Outcome × ℕ)
    listened_said = record { says = listened_says; back = listen_of; turns = listen_back }

    started : {defined : Answer Event × Receiver} {x y : Started} → defined ≡ (start_says x.start, x.receiver)
        → defined ≡ (start_says y.start, y.receiver) → x ≡ y
    started {x = x} {y = y} h h' =
        let e : start_says x.start ≡ start_says y.start = ap (λ (p : Answer Event × Receiver). p.0) (sym h ∙ h') in
        let start : x.start ≡ y.start = same starts refl e in
        let receiver : x.receiver ≡ y.receiver = ap (λ (p : Answer Event × Receiver). p.1) (sym h ∙ h') in
        λ i. record { receiver = receiver i; start = start i }
