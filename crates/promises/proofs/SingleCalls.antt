-- Each operation makes its tests in the order of the table, so each line of demand 1 is read off its definition.
use Prim.Native.Nat.{ℕ, ◌*◌}
use mathlib.Core.Path.{◌≡◌, refl, sym}
use mathlib.Core.Bool.{Bool, true, false, ◌&&◌, false≢true}
use mathlib.Core.List.{List, [], ◌∷◌}
use lib.Dec.{eqb, leb, ltb}
use lib.ListN.{length, take}
use Rattle.measure.specs.Choose.{choose}
use Rattle.measure.specs.Ranges.{subcell, sampling, quiet, pad_most, bits_most, row_bits, rows_most, entries_most}
use Rattle.measure.specs.Ranges.{settling as settling_count, input_most, words_most, row_settings_fit}
use Rattle.measure.specs.Ranges.{log_records, record_bytes}
use Rattle.measure.specs.Refusals.{Answer, given, refused, number_of, place_of}
use Rattle.settings.specs.Answers.{in_range, judgement, quiet_judgement}
use Rattle.settings.specs.Margins.{Ends, zero_or_more}
use Rattle.settings.specs.Pick.{least, pickable, Best, Picks, out_of_range}
use Rattle.settings.specs.Survey.{Region, none, told, boards, boards_most, lists_fit, figures_of, report_of}
use Rattle.settings.specs.Survey.{judged_boards, surveyed}
use Rattle.settings.specs.declared.surveying.Figures.{Figures}
use Rattle.settings.proofs.PickHolds.{only_one, best_fits}
use Rattle.sender.specs.Sending.{wave, plan_wave, rows_of}
use Rattle.sender.specs.Answers.{sent_message, sent_plan, fitting, padded}
use Rattle.stored.specs.Answers.{read_plan}
use Rattle.halfcells.specs.HalfCells.{words_of, bytes_of}
use Rattle.halfcells.specs.Answers.{encoded, decoded}
use Rattle.line.specs.Smooth.{smooth as smoothing}
use Rattle.line.specs.Warp.{warp as warping}
use Rattle.line.specs.Wander.{warp_by_lengths as warping_by_lengths}
use Rattle.line.specs.Settle.{settle as settling}
use Rattle.line.specs.Answers.{smoothed, warped, warped_by_lengths, settled, timed, lengths_fit}
use Rattle.counted.specs.Answers.{counted_bits}
use Rattle.board.specs.Rows.{row, broken}
use Rattle.board.specs.Feeding.{reports}
use Rattle.board.specs.Packed.{number, packed, unpacked, whole, settings_of, state_of}
use Rattle.board.specs.WellFormed.{run_fits, run_level_fits, left_fits, found_fits, level_fits, unused_zero, well_formed}
use Rattle.board.specs.Answers.{refusing, begun, stepped, levels_of, to_event, listened, in_lent}
use Rattle.board.specs.declared.Receiver.{Receiver}
use Rattle.capture.specs.Writing.{capture_of}
use Rattle.bay_log.specs.Order.{listing, later}
use Rattle.bay_log.specs.Answers.{log_fits, count_holds, logged, cleared, listed}
use Rattle.capture.specs.Capture.{then}
use Rattle.capture.specs.Held.{place_after}
use Rattle.capture.specs.Answers.{summary, checked, read_back, written}
use Rattle.capture.proofs.Reaching.{reached_stands}
use Rattle.timecode.specs.Words.{word_places}
use Rattle.timecode.specs.Times.{time_fits, word_of}
use Rattle.timecode.specs.Answers.{read_times, write_time}
use Rattle.page.specs.Lines.{heading_line, event_line, end_line, refused_line, printed, output}
use Rattle.region.specs.Lines.{report_lines}
use Rattle.region.specs.Answers.{lines_of, survey_lines}
use Rattle.siengulot.specs.Crossing.{crossed, crossed_bits, crossing, flag, judged_three, judged_five, summed, numbered}
use Rattle.siengulot.specs.Receivers.{named, numbers_fit, receiver_lent, brought, brought_by, begun_lent, stepped_lent}
use Rattle.siengulot.specs.Receivers.{listened_lent, well_formed_lent}
use Rattle.siengulot.specs.StoredPlans.{joined_over}
use Rattle.siengulot.specs.Logs.{cleared_over, leaving}
use Rattle.siengulot.specs.Surveys.{Found, surveyed_over}
use Rattle.promises.specs.Promised.{Test, good, first, Answered, Tells, setting, limit, entries, room}
use Rattle.promises.specs.GoodInput as Good
use Rattle.promises.specs.FromC.{Demand1FromC}
use Rattle.promises.specs.Demands.{Demand1}
use Rattle.promises.proofs.Promised.{done, past, within, same, across, followed, laid, clause, also}
use Rattle.promises.proofs.GoodCaptures.{number_answered, header_answered, capture_answered, read_answered}

-- what the picker answers, told of the best k: one answer alone fits, and this one does
picked : (a b g k : ℕ) (e : Ends) (answer : Answer ℕ) → Picks a b g e answer → Best a b g k e
    → Tells (Good.pick a b g k e) k answer
picked a b g k e answer p h =
    same (only_one a b g e answer _ p (go (pickable a b g e) refl))
    (within (pickable a b g e) 1 0 (within (zero_or_more (least a b g k e)) 9 0 (done refl)))
  where
    go : (t : Bool) → pickable a b g e ≡ t
        → Picks a b g e (choose t (choose (zero_or_more (least a b g k e)) (given k) (refused 9 0)) (refused 1 0))
    go true fits = best_fits a b g e fits k h
    go false out = out_of_range out

-- reads up to the first event, of a receiver and of one whose bits are lent
listening : (x : Receiver) (reads : List ℕ)
    → let told = reports (settings_of x) (state_of x) 0 (levels_of reads) in
    Answered (Good.listen x reads) (listened x reads) (to_event (settings_of x) (state_of x) (levels_of reads) told)
    (λ number place. (refusing x number place, 0))
unfolding listened
listening x reads =
    within (well_formed x) 1 0
    (past (limit entries_most reads) (past (Good.before_any_event x reads) (done refl)))

-- what the survey answers
surveys : (s : Region) → Tells (Good.survey s) (report_of s) (surveyed s)
unfolding surveyed judged_boards
surveys s = within (lists_fit s) 1 0 (past (Good.unfit s) (past (limit boards_most s.a) (done refl)))

pub answered : Demand1
unfolding judgement quiet_judgement sent_message sent_plan read_plan encoded decoded smoothed warped warped_by_lengths settled
    counted_bits read_times write_time survey_lines begun well_formed stepped listened checked read_back written output number
    packed logged cleared listed
answered = record {
  judge = λ a b g k e. within (in_range a b g k e) 1 0 (done refl);
  judge_quiet_says = λ a b g k e Q p1. within (in_range a b g k e && quiet Q && leb p1 pad_most) 1 0 (done refl);
  pick = picked;
  survey = surveys;
  survey_lines_says = λ s output.
      followed (λ answer. lines_of answer output) (surveys s) (λ number place. refl)
      (λ e. laid (report_lines (report_of s)) output);
  send = λ a b p1 bits output.
      within (subcell a && subcell b && leb p1 pad_most) 1 0
      (past (limit bits_most bits)
      (past (limit entries_most (wave a b p1 bits))
      (past (entries 1 bits)
      (laid (wave a b p1 bits) output))));
  send_plan_says = λ a b n leads bits output.
      within (subcell a && subcell b && row_bits n && fitting n leads bits && padded leads) 1 0
      (past (limit rows_most leads)
      (past (limit entries_most (plan_wave a b (rows_of n leads bits)))
      (past (entries 1 bits)
      (laid (plan_wave a b (rows_of n leads bits)) output))));
  read_plan_says = λ leads trails output.
      within (leb 1 (length leads) && eqb (length trails) (length leads) && padded leads && padded trails) 1 0
      (past (Good.too_long leads trails)
      (past (limit rows_most leads)
      (past (room (length leads) output) (done refl))));
  smooth = λ g levels output.
      within (settling_count g) 1 0
      (past (limit entries_most levels) (past (entries 1 levels) (laid (smoothing g levels) output)));
  warp = λ w r p levels output.
      within (timed w r p) 1 0
      (past (limit entries_most levels)
      (past (limit entries_most (warping w r p levels))
      (past (entries 2 levels)
      (laid (warping w r p levels) output))));
  warp_by_lengths_says = λ w1 w2 r1 r2 p cycles reads levels output.
      within (lengths_fit w1 w2 r1 r2 p cycles reads) 1 0
      (past (limit entries_most levels)
      (past (limit entries_most cycles)
      (past (limit entries_most reads)
      (past (entries 2 levels)
      (laid (warping_by_lengths p cycles reads levels) output)))));
  settle = λ reads choices output.
      past (limit entries_most reads)
      (past (limit entries_most choices)
      (past (entries 2 reads)
      (past (entries 1 choices)
      (laid (settling reads choices) output))));
  count_bits = λ k n level reads output.
      within (sampling k && leb n bits_most && leb level 1) 1 0
      (past (limit entries_most reads)
      (past (entries 1 reads)
      (past (room n output) (done refl))));
  read_times_says = λ bits output.
      past (limit entries_most bits)
      (past (entries 1 bits)
      (past (room (4 * length (word_places bits)) output) (done refl)));
  write_time_says = λ h m s f output. within (time_fits h m s f) 1 0 (laid (word_of h m s f) output);
  fresh = λ k n Q. within (row_settings_fit k n Q) 1 0 (done refl);
  well_formed_says = λ x.
      also (unused_zero x.bare.numbers.found x.bits)
      (also (level_fits x.bare.numbers.mode x.bare.numbers.level x.bare.numbers.runlevel)
      (also (found_fits x.bare.numbers.mode x.bare.numbers.found x.bare.settings.n)
      (also (left_fits x.bare.numbers.mode x.bare.numbers.left.0 x.bare.settings.k.0)
      (also (run_level_fits x.bare.numbers.run.0 x.bare.numbers.runlevel)
      (also (run_fits x.bare.numbers.mode x.bare.numbers.run.0 x.bare.settings.q.0)
      (clause (row_settings_fit x.bare.settings.k.0 x.bare.settings.n x.bare.settings.q.0)))))));
  step = λ x read. within (well_formed x) 1 0 (within (leb read 1) 2 0 (done refl));
  listen = listening;
  listen_lent = λ bare bits room reads. across (λ outcome. in_lent room outcome) (listening (whole bare bits) reads);
  held_new = λ bytes. refl;
  held_place = reached_stands;
  held_next = λ x. number_answered x.src.now x.at;
  held_advance = λ x.
      across (λ answer. record { src = x.src; at = place_after x.at answer })
      (number_answered x.src.now x.at);
  read_header = header_answered;
  check = λ bytes. across (λ c. then c (λ c. given (summary c))) (capture_answered bytes);
  read_capture_says = read_answered;
  write_capture_says = λ k n Q reads output.
      within (row_settings_fit k n Q) 1 0
      (past (limit entries_most reads)
      (past (entries 1 reads)
      (laid (capture_of k n Q reads) output)));
  encode = λ bytes output. past (limit words_most bytes) (laid (words_of bytes) output);
  decode = λ words output. past (limit words_most words) (past (Good.edges words) (laid (bytes_of words) output));
  log_event_says = λ number bits count broken log.
      within (log_fits log && eqb (length bits) record_bytes && leb count bits_most) 1 0
      (within (count_holds log) 13 0
      (within (later log.numbers log.free number log_records) 12 0 (done refl)));
  log_clear_says = λ place log.
      within (log_fits log && ltb place log_records) 1 0 (within (count_holds log) 13 0 (done refl));
  log_list_says = λ numbers free output.
      within (eqb (length numbers) log_records && eqb (length free) log_records) 1 0
      (laid (listing numbers free) output);
  put_heading = laid heading_line;
  put_row = λ place n bits. laid (event_line place (row (take n (unpacked 8 bits))));
  put_broken = λ place found. laid (event_line place (broken found));
  put_end = λ reads rows. laid (end_line reads rows);
  put_refused = λ refusal. laid (refused_line (number_of refusal) (place_of refusal));
  rows = λ input. past (limit input_most input) (across printed (capture_answered input));
}

pub answered_from_c : Demand1FromC
unfolding begun stepped_lent listened_lent well_formed_lent number packed good first
answered_from_c = record {
  judge = λ a b g k e margins. across (λ answer. judged_three answer margins) (answered.judge a b g k e);
  judge_quiet_says = λ a b g k e Q p1 margins.
      across (λ answer. judged_five answer margins) (answered.judge_quiet_says a b g k e Q p1);
  pick = λ a b g k e number picked so h.
      same (sym so.crosses) (across numbered (answered.pick a b g k e so.answer so.fits h));
  send = λ a b p1 bits output. across (crossing crossed) (answered.send a b p1 bits output);
  plan = λ a b n leads bits output.
      across (crossing crossed) (answered.send_plan_says a b n leads bits output);
  read_plan_says = λ leads trails output. across (crossing joined_over) (answered.read_plan_says leads trails output);
  smooth = λ g wave output. across (crossing crossed) (answered.smooth g wave output);
  warp = λ w r p wave output. across (crossing crossed) (answered.warp w r p wave output);
  warp_by_lengths_says = λ w1 w2 r1 r2 p cycles reads wave output.
      across (crossing crossed) (answered.warp_by_lengths_says w1 w2 r1 r2 p cycles reads wave output);
  settle = λ reads choices output. across (crossing crossed) (answered.settle reads choices output);
  counted = λ k n level reads output. across (crossing crossed_bits) (answered.count_bits k n level reads output);
  time_read = λ bits output. across (crossing crossed) (answered.read_times_says bits output);
  time_write = λ h m s f output. across (crossing crossed) (answered.write_time_says h m s f output);
  fresh = λ k n Q. across begun_lent (answered.fresh k n Q);
  well_formed_says = λ numbers bytes. both (numbers_fit (named numbers)) (well_formed (receiver_lent (named numbers) bytes));
  step = λ lent read.
      within (numbers_fit (named lent.numbers)) 1 0
      (across (brought lent) (answered.step (receiver_lent (named lent.numbers) lent.bytes) read));
  listen = λ lent reads.
      within (numbers_fit (named lent.numbers)) 1 0
      (across (brought_by lent) (answered.listen (receiver_lent (named lent.numbers) lent.bytes) reads));
  capture_check = λ bytes summary. across (summed summary) (answered.check bytes);
  capture_read = λ bytes output summary. across (crossing (summed summary)) (answered.read_capture_says bytes output);
  capture_write = λ k n Q reads output. across (crossing crossed) (answered.write_capture_says k n Q reads output);
  encode = λ bytes output. across (crossing crossed) (answered.encode bytes output);
  decode = λ words output. across (crossing crossed) (answered.decode words output);
  log_event_says = λ number bits count broken log.
      across (leaving numbered) (answered.log_event_says number bits count broken log);
  log_clear_says = λ place log. across (leaving cleared_over) (answered.log_clear_says place log);
  log_list_says = λ numbers free output. across (crossing numbered) (answered.log_list_says numbers free output);
  survey = λ s lent.
      reported (boards s) lent (figures_of s) (eqb (boards s) 0)
      (across (surveyed_over (boards s) lent) (answered.survey s));
  survey_lines_says = λ s output. across (crossing crossed) (answered.survey_lines_says s output);
}
  where
    both : (stands well : Bool)
        → Answered (setting stands ∷ setting well ∷ []) (flag (stands && well)) 1 (λ number place. 0)
    both true true = record { gives = λ e. refl; refuses = λ e. absurd (false≢true (sym e)) }
    both true false = record { gives = λ e. absurd (false≢true e); refuses = λ e. refl }
    both false well = record { gives = λ e. absurd (false≢true e); refuses = λ e. refl }

    reported : {tests : List Test} {outcome : (ℕ × ℕ × ℕ × ℕ) × Found} {refusal : ℕ → ℕ → (ℕ × ℕ × ℕ × ℕ) × Found}
        (size : ℕ) (lent : Found) (f : Figures) (empty : Bool)
        → Answered tests outcome (surveyed_over size lent (given (choose empty none (told f)))) refusal
        → Answered tests outcome
        (choose empty (surveyed_over size lent (given none)) (surveyed_over size lent (given (told f)))) refusal
    reported size lent f true h = h
    reported size lent f false h = h
