-- What the contracts say: each is the equation between the definition that the demands speak of and what the call
-- answers and leaves; the picker's is a relation, which one answer alone fits. A call's arguments stand in their order;
-- primed, what is left behind a `&mut`.
use Rattle.std.specs.Prelude.{◌≡◌, [], ◌∷◌, length, take}
use contract.Lifetimes.{Lfts}
use denote.Triple.Entry.{Args, Res}
use denote.Triple.Clauses.{Ended, Lasts, at_exit}
use Rattle.measure.specs.Choose.{between as is_between}
use Rattle.measure.specs.Ranges.{row_settings_fit}
use Rattle.measure.specs.Lists.{first_above}
use Rattle.measure.specs.Refusals.{lent, number_of, place_of, entries_answer}
use Rattle.settings.specs.Margins.{ends, ends_of, steady}
use Rattle.settings.specs.Answers.{judgement, judged_says, quiet_judgement, quiet_judged_says}
use Rattle.settings.specs.Pick.{Picks, picked_says}
use Rattle.settings.specs.Survey.{region, surveyed, surveyed_says}
use Rattle.sender.specs.Answers.{padded, sent_message, sent_plan, sent_says}
use Rattle.stored.specs.Answers.{read_plan, joined_says}
use Rattle.halfcells.specs.Answers.{encoded, encoded_says, decoded, decoded_says}
use Rattle.line.specs.Answers.{smoothed, smoothed_says, warped, warped_by_lengths, settled, read_says}
use Rattle.counted.specs.Answers.{counted_bits, counted_says}
use Rattle.board.specs.Rows.{row, broken}
use Rattle.board.specs.Packed.{unpacked, whole, mode_number}
use Rattle.board.specs.WellFormed.{well_formed}
use Rattle.board.specs.declared.Receiver.{Receiver}
use Rattle.board.specs.Answers.{begun, start_says, stepped, stepped_says, listened, listened_says, in_lent, told_says}
use Rattle.capture.specs.Capture.{header}
use Rattle.bay_log.specs.Answers.{logged, logged_says, cleared, cleared_says, listed, listed_says}
use Rattle.bay_log.specs.Lent.{lent as log_lent, behind}
use Rattle.capture.specs.Numbers.{number_at}
use Rattle.capture.specs.Held.{begun_reader, advanced}
use Rattle.capture.specs.Answers.{number_says, head_says, checked, read_back, checked_says, written, written_says}
use Rattle.timecode.specs.Answers.{read_times, write_time, read_says as times_says, written_says as word_says}
use Rattle.text.specs.Decimal.{decimal, signed_decimal}
use Rattle.text.specs.Putting.{end_within, put_at}
use Rattle.page.specs.Lines.{heading_line, event_line, end_line, refused_line}
use Rattle.page.specs.Answers.{put_says}
use Rattle.region.specs.Answers.{survey_lines, put_says as lines_say}
use Rattle.siengulot.specs.Crossing.{crossed, crossed_bits, crossing, judged_three, judged_five, summed, numbered}
use Rattle.siengulot.specs.Receivers.{begun_lent, stepped_lent, listened_lent, well_formed_lent}
use Rattle.siengulot.specs.Picking.{PickCrosses}
use Rattle.siengulot.specs.StoredPlans.{joined_over}
use Rattle.siengulot.specs.Logs.{cleared_over, leaving}
use Rattle.siengulot.specs.Surveys.{surveyed_over}
use Rattle.measure.specs.contracts as MeasureCalls
use Rattle.measure.proofs as Measure
use Rattle.settings.specs.contracts as SettingsCalls
use Rattle.settings.proofs as Settings
use Rattle.sender.specs.contracts as SenderCalls
use Rattle.sender.proofs as Sender
use Rattle.stored.specs.contracts as StoredCalls
use Rattle.stored.proofs as Stored
use Rattle.halfcells.specs.contracts as HalfCellsCalls
use Rattle.halfcells.proofs as HalfCells
use Rattle.line.specs.contracts as LineCalls
use Rattle.line.proofs as Line
use Rattle.counted.specs.contracts as CountedCalls
use Rattle.counted.proofs as Counted
use Rattle.board.specs.contracts as BoardCalls
use Rattle.board.proofs as Board
use Rattle.capture.specs.contracts as CaptureCalls
use Rattle.capture.proofs as Capture
use Rattle.timecode.specs.contracts as TimecodeCalls
use Rattle.timecode.proofs as Timecode
use Rattle.bay_log.specs.contracts as LogCalls
use Rattle.bay_log.proofs as Log
use Rattle.text.specs.contracts as TextCalls
use Rattle.text.proofs as Text
use Rattle.page.specs.contracts as PageCalls
use Rattle.page.proofs as Page
use Rattle.region.specs.contracts as RegionCalls
use Rattle.region.proofs as Region
use Rattle.siengulot.specs.contracts as CCalls
use Rattle.siengulot.proofs as C
use Rattle.promises.specs.OneMeaning.{Clause}

-- D30: A contract says this of each call. One direction is enough: a call is proved to satisfy its contract, so it does
-- what the line says; a contract that said less would not give the line, and one that said more takes nothing from it.
abbrev pub Says : (function : Ended) → Clause function
    → ((κs : Lfts function.signature.lifetimes) (a : Args function.signature κs) → Res function.signature κs
    → Lasts function κs a → Type 0) → Type 0
Says function clause said =
    (κs : Lfts function.signature.lifetimes) (a : Args function.signature κs) (x : Res function.signature κs)
    (left : Lasts function κs a) → clause κs a x (at_exit function κs a left) → said κs a x left

-- D30
pub record ByContract : Type 0 where
  -- measure
  pub number : Says MeasureCalls.Refusal.number.ended Measure.Refusal.number.Reads.Post
      λ κs (refusal, _) x _.
      x ≡ number_of refusal
  pub place : Says MeasureCalls.Refusal.place.ended Measure.Refusal.place.Reads.Post
      λ κs (refusal, _) x _.
      x ≡ place_of refusal
  pub between : Says MeasureCalls.between.ended Measure.between.Reads.Post
      λ κs (least, (most, (n, _))) x _.
      x ≡ is_between least most n
  pub row_settings_fit_says : Says MeasureCalls.RowSettings.fit.ended Measure.RowSettings.fit.Reads.Post
      λ κs (settings, _) x _.
      x ≡ row_settings_fit settings.k.0 settings.n settings.q.0
  pub first_above : Says MeasureCalls.first_above.ended Measure.first_above.Reads.Post
      λ κs (entries, (most, _)) x _.
      x ≡ first_above most entries.now
  pub check_entries : Says MeasureCalls.check_entries.ended Measure.check_entries.Reads.Post
      λ κs (entries, (most, _)) x _.
      entries_answer most entries.now ≡ x
  -- settings
  pub steady_clocks : Says SettingsCalls.Clocks.steady.ended Settings.Clocks.steady.Reads.Post
      λ κs (w, (r, _)) x _.
      x ≡ record { w1 = w; w2 = w; r1 = r; r2 = r }
  pub judge : Says SettingsCalls.judge.ended Settings.judge.Reads.Post
      λ κs (pair, (k, (clocks, _))) x _.
      judgement pair.a.0 pair.b.0 pair.g.0 k.0 (ends_of clocks) ≡ judged_says x
  pub judge_quiet_says : Says SettingsCalls.judge_quiet.ended Settings.judge_quiet.Reads.Post
      λ κs (pair, (k, (clocks, (Q, (p1, _))))) x _.
      quiet_judgement pair.a.0 pair.b.0 pair.g.0 k.0 (ends_of clocks) Q.0 p1.0 ≡ quiet_judged_says x
  pub pick : Says SettingsCalls.pick.ended Settings.pick.Reads.Post
      λ κs (pair, (clocks, _)) x _.
      Picks pair.a.0 pair.b.0 pair.g.0 (ends_of clocks) (picked_says x)
  pub survey : Says SettingsCalls.survey.ended Settings.survey.Reads.Post
      λ κs (a, (b, (g, (k, (w, (r, _)))))) x _.
      surveyed (region a.now b.now g.now k.now w.now r.now) ≡ surveyed_says x
  -- sender
  pub send : Says SenderCalls.send.ended Sender.send.Reads.Post
      λ κs (cell, (p1, (bits, (out, _)))) x (_, (_, (_, (out', _)))).
      sent_message cell.a.0 cell.b.0 p1.0 bits.now out.now ≡ (sent_says x, out')
  pub send_plan_says : Says SenderCalls.send_plan.ended Sender.send_plan.Reads.Post
      λ κs (cell, (n, (leads, (bits, (out, _))))) x (_, (_, (_, (_, (out', _))))).
      sent_plan cell.a.0 cell.b.0 n leads.now bits.now out.now ≡ (sent_says x, out')
  pub pads_in_range : Says SenderCalls.pads_in_range.ended Sender.pads_in_range.Reads.Post
      λ κs (pads, _) x _.
      x ≡ padded pads.now
  -- stored
  pub read_plan_says : Says StoredCalls.read_plan.ended Stored.read_plan.Reads.Post
      λ κs (leads, (trails, (out, _))) x (_, (_, (out', _))).
      read_plan leads.now trails.now out.now ≡ (joined_says x, out')
  -- halfcells
  pub encode : Says HalfCellsCalls.encode.ended HalfCells.encode.Reads.Post
      λ κs (bytes, (out, _)) x (_, (out', _)).
      encoded bytes.now out.now ≡ (encoded_says x, out')
  pub decode : Says HalfCellsCalls.decode.ended HalfCells.decode.Reads.Post
      λ κs (words, (out, _)) x (_, (out', _)).
      decoded words.now out.now ≡ (decoded_says x, out')
  -- line
  pub smooth : Says LineCalls.smooth.ended Line.smooth.Reads.Post
      λ κs (wave, (g, (out, _))) x (_, (_, (out', _))).
      smoothed g.0 wave.now out.now ≡ (smoothed_says x, out')
  pub warp : Says LineCalls.warp.ended Line.warp.Reads.Post
      λ κs (wave, (timing, (out, _))) x (_, (_, (out', _))).
      warped timing.w.0 timing.r.0 timing.p.0 wave.now out.now ≡ (read_says x, out')
  pub warp_by_lengths_says : Says LineCalls.warp_by_lengths.ended Line.warp_by_lengths.Reads.Post
      λ κs (wave, (w, (r, (p, (cycles, (reads, (out, _))))))) x (_, (_, (_, (_, (_, (_, (out', _))))))).
      warped_by_lengths w.least.0 w.most.0 r.least.0 r.most.0 p.0 cycles.now reads.now wave.now out.now
      ≡ (read_says x, out')
  pub settle : Says LineCalls.settle.ended Line.settle.Reads.Post
      λ κs (reads, (choices, (out, _))) x (_, (_, (out', _))).
      settled reads.now choices.now out.now ≡ (read_says x, out')
  -- counted
  pub count_bits : Says CountedCalls.count_bits.ended Counted.count_bits.Reads.Post
      λ κs (k, (n, (level, (reads, (out, _))))) x (_, (_, (_, (_, (out', _))))).
      counted_bits k.0 n level reads.now out.now ≡ (counted_says x, out')
  -- timecode
  pub read_times_says : Says TimecodeCalls.read_times.ended Timecode.read_times.Reads.Post
      λ κs (bits, (out, _)) x (_, (out', _)).
      read_times bits.now out.now ≡ (times_says x, out')
  pub write_time_says : Says TimecodeCalls.write_time.ended Timecode.write_time.Reads.Post
      λ κs (time, (out, _)) x (_, (out', _)).
      write_time time.hours time.minutes time.seconds time.frames out.now ≡ (word_says x, out')
  -- board
  pub mode_number : Says BoardCalls.Mode.number.ended Board.Mode.number.Reads.Post
      λ κs (mode, _) x _.
      mode_number mode ≡ x
  pub fresh : Says BoardCalls.Receiver.fresh.ended Board.Receiver.fresh.Reads.Post
      λ κs (settings, _) x _.
      begun settings.k.0 settings.n settings.q.0 ≡ (start_says x.start, x.receiver)
  pub well_formed_says : Says BoardCalls.Receiver.well_formed.ended Board.Receiver.well_formed.Reads.Post
      λ κs (receiver, _) x _.
      x ≡ well_formed receiver
  pub step : Says BoardCalls.Receiver.step.ended Board.Receiver.step.Reads.Post
      λ κs (receiver, (read, _)) x _.
      stepped receiver read ≡ stepped_says x
  pub listen : Says BoardCalls.Receiver.listen.ended Board.Receiver.listen.Reads.Post
      λ κs (receiver, (reads, _)) x _.
      listened receiver reads.now ≡ listened_says x
  -- a receiver is its numbers and its bits
  pub bare : (receiver : Receiver) → whole receiver.bare receiver.bits ≡ receiver
  pub well_formed_lent_says : Says BoardCalls.Bare.well_formed.ended Board.Bare.well_formed.Reads.Post
      λ κs (bare, (bits, _)) x _.
      x ≡ well_formed (whole bare bits.now)
  pub step_lent : Says BoardCalls.Bare.step.ended Board.Bare.step.Reads.Post
      λ κs (bare, (read, (bits, (room, _)))) x (_, (_, (bits', (room', _)))).
      in_lent room.now (listened (whole bare bits.now) (read ∷ [])) ≡ told_says x bits' room'
  pub listen_lent : Says BoardCalls.Bare.listen.ended Board.Bare.listen.Reads.Post
      λ κs (bare, (reads, (bits, (room, _)))) x (_, (_, (bits', (room', _)))).
      in_lent room.now (listened (whole bare bits.now) reads.now) ≡ told_says x bits' room'
  -- capture
  pub read_header : Says CaptureCalls.read_header.ended Capture.read_header.Reads.Post
      λ κs (bytes, _) x _.
      header bytes.now ≡ head_says x
  pub check : Says CaptureCalls.check.ended Capture.check.Reads.Post
      λ κs (bytes, _) x _.
      checked bytes.now ≡ checked_says x
  pub read_capture_says : Says CaptureCalls.read_capture.ended Capture.read_capture.Reads.Post
      λ κs (bytes, (out, _)) x (_, (out', _)).
      read_back bytes.now out.now ≡ (checked_says x, out')
  pub write_capture_says : Says CaptureCalls.write_capture.ended Capture.write_capture.Reads.Post
      λ κs (settings, (reads, (out, _))) x (_, (_, (out', _))).
      written settings.k.0 settings.n settings.q.0 reads.now out.now ≡ (written_says x, out')
  -- capture's held reader
  pub reader_new : Says CaptureCalls.held.CaptureReader.new.ended Capture.held.CaptureReader.new.Reads.Post
      λ κs (src, _) x _.
      x ≡ begun_reader src
  pub reader_place : Says CaptureCalls.held.CaptureReader.place.ended Capture.held.CaptureReader.place.Reads.Post
      λ κs (reader, _) x _.
      x ≡ reader.at
  pub reader_next : Says CaptureCalls.held.CaptureReader.next.ended Capture.held.CaptureReader.next.Reads.Post
      λ κs (reader, _) x _.
      number_at reader.src.now reader.at ≡ number_says x
  pub reader_advance : Says CaptureCalls.held.CaptureReader.advance.ended Capture.held.CaptureReader.advance.Reads.Post
      λ κs (reader, _) x _.
      x ≡ advanced reader
  -- log
  pub log_event_says : Says LogCalls.log_event.ended Log.log_event.Reads.Post
      λ κs (event, (log, _)) x (_, (log', _)).
      behind log.now (logged event.number event.bits.now event.count event.broken (log_lent log.now))
      ≡ (logged_says x, log')
  pub log_clear_says : Says LogCalls.clear.ended Log.clear.Reads.Post
      λ κs (place, (log, _)) x (_, (log', _)).
      behind log.now (cleared place (log_lent log.now)) ≡ (cleared_says x, log')
  pub log_list_says : Says LogCalls.list.ended Log.list.Reads.Post
      λ κs (numbers, (free, (places, _))) x (_, (_, (places', _))).
      listed numbers.now free.now places.now ≡ (listed_says x, places')
  -- text
  pub end_within : Says TextCalls.end_within.ended Text.end_within.Reads.Post
      λ κs (at, (size, (room, _))) x _.
      x ≡ end_within at size room
  pub put_text : Says TextCalls.put_text.ended Text.put_text.Reads.Post
      λ κs (out, (at, (text, _))) x (out', _).
      put_at text.now at out.now ≡ (x, out')
  pub number_size : Says TextCalls.number_size.ended Text.number_size.Reads.Post
      λ κs (n, _) x _.
      x ≡ length (decimal n)
  pub put_number : Says TextCalls.put_number.ended Text.put_number.Reads.Post
      λ κs (out, (at, (n, _))) x (out', _).
      put_at (decimal n) at out.now ≡ (x, out')
  pub signed_size : Says TextCalls.signed_size.ended Text.signed_size.Reads.Post
      λ κs (v, _) x _.
      x ≡ length (signed_decimal v)
  pub put_signed : Says TextCalls.put_signed.ended Text.put_signed.Reads.Post
      λ κs (out, (at, (v, _))) x (out', _).
      put_at (signed_decimal v) at out.now ≡ (x, out')
  -- page
  pub put_heading : Says PageCalls.put_heading.ended Page.put_heading.Reads.Post
      λ κs (out, _) x (out', _).
      lent heading_line out.now ≡ (put_says x, out')
  pub put_row : Says PageCalls.put_row.ended Page.put_row.Reads.Post
      λ κs (place, (n, (bits, (out, _)))) x (_, (_, (_, (out', _)))).
      lent (event_line place.0 (row (take n (unpacked 8 bits.now)))) out.now ≡ (put_says x, out')
  pub put_broken : Says PageCalls.put_broken.ended Page.put_broken.Reads.Post
      λ κs (place, (found, (out, _))) x (_, (_, (out', _))).
      lent (event_line place.0 (broken found)) out.now ≡ (put_says x, out')
  pub put_end : Says PageCalls.put_end.ended Page.put_end.Reads.Post
      λ κs (reads, (rows, (out, _))) x (_, (_, (out', _))).
      lent (end_line reads.0 rows) out.now ≡ (put_says x, out')
  pub put_refused : Says PageCalls.put_refused.ended Page.put_refused.Reads.Post
      λ κs (refusal, (out, _)) x (_, (out', _)).
      lent (refused_line (number_of refusal) (place_of refusal)) out.now ≡ (put_says x, out')
  -- region
  pub survey_lines_says : Says RegionCalls.survey_lines.ended Region.survey_lines.Reads.Post
      λ κs (a, (b, (g, (k, (w, (r, (out, _))))))) x (_, (_, (_, (_, (_, (_, (out', _))))))).
      survey_lines (region a.now b.now g.now k.now w.now r.now) out.now ≡ (lines_say x, out')
  -- the entry points for C
  pub siengulot_judge : Says CCalls.siengulot_judge.ended C.siengulot_judge.Reads.Post
      λ κs (a, (b, (g, (k, (w, (r, (margins, (accepted, _)))))))) x
      (_, (_, (_, (_, (_, (_, (margins', (accepted', _)))))))).
      judged_three (judgement a b g k (steady w r)) margins.now ≡ (x, accepted', margins')
  pub siengulot_judge_quiet : Says CCalls.siengulot_judge_quiet.ended C.siengulot_judge_quiet.Reads.Post
      λ κs (a, (b, (g, (k, (w, (r, (Q, (p1, (margins, (accepted, _)))))))))) x
      (_, (_, (_, (_, (_, (_, (_, (_, (margins', (accepted', _)))))))))).
      judged_five (quiet_judgement a b g k (steady w r) Q p1) margins.now ≡ (x, accepted', margins')
  pub siengulot_pick : Says CCalls.siengulot_pick.ended C.siengulot_pick.Reads.Post
      λ κs (a, (b, (g, (w, (r, (k, _)))))) x (_, (_, (_, (_, (_, (k', _)))))).
      PickCrosses a b g (steady w r) x k'
  pub siengulot_judge_ends : Says CCalls.siengulot_judge_ends.ended C.siengulot_judge_ends.Reads.Post
      λ κs (a, (b, (g, (k, (w1, (w2, (r1, (r2, (margins, (accepted, _)))))))))) x
      (_, (_, (_, (_, (_, (_, (_, (_, (margins', (accepted', _)))))))))).
      judged_three (judgement a b g k (ends w1 w2 r1 r2)) margins.now ≡ (x, accepted', margins')
  pub siengulot_judge_quiet_ends : Says CCalls.siengulot_judge_quiet_ends.ended C.siengulot_judge_quiet_ends.Reads.Post
      λ κs (a, (b, (g, (k, (w1, (w2, (r1, (r2, (Q, (p1, (margins, (accepted, _)))))))))))) x
      (_, (_, (_, (_, (_, (_, (_, (_, (_, (_, (margins', (accepted', _)))))))))))).
      judged_five (quiet_judgement a b g k (ends w1 w2 r1 r2) Q p1) margins.now ≡ (x, accepted', margins')
  pub siengulot_pick_ends : Says CCalls.siengulot_pick_ends.ended C.siengulot_pick_ends.Reads.Post
      λ κs (a, (b, (g, (w1, (w2, (r1, (r2, (k, _)))))))) x (_, (_, (_, (_, (_, (_, (_, (k', _)))))))).
      PickCrosses a b g (ends w1 w2 r1 r2) x k'
  pub siengulot_send : Says CCalls.siengulot_send.ended C.siengulot_send.Reads.Post
      λ κs (a, (b, (p1, (bits, (out, (place, (count, _))))))) x (_, (_, (_, (_, (out', (place', (count', _))))))).
      crossing crossed (sent_message a b p1 bits.now out.now)
      ≡ ((x, place', count'), out')
  pub siengulot_plan : Says CCalls.siengulot_plan.ended C.siengulot_plan.Reads.Post
      λ κs (a, (b, (n, (leads, (bits, (out, (place, (count, _)))))))) x
      (_, (_, (_, (_, (_, (out', (place', (count', _)))))))).
      crossing crossed (sent_plan a b n leads.now bits.now out.now)
      ≡ ((x, place', count'), out')
  pub siengulot_read_plan : Says CCalls.siengulot_read_plan.ended C.siengulot_read_plan.Reads.Post
      λ κs (leads, (trails, (out, (place, (count, (dropped, _)))))) x
      (_, (_, (out', (place', (count', (dropped', _)))))).
      crossing joined_over (read_plan leads.now trails.now out.now)
      ≡ ((x, place', count', dropped'), out')
  pub siengulot_smooth : Says CCalls.siengulot_smooth.ended C.siengulot_smooth.Reads.Post
      λ κs (g, (wave, (out, (place, (count, _))))) x (_, (_, (out', (place', (count', _))))).
      crossing crossed (smoothed g wave.now out.now) ≡ ((x, place', count'), out')
  pub siengulot_warp : Says CCalls.siengulot_warp.ended C.siengulot_warp.Reads.Post
      λ κs (w, (r, (p, (wave, (out, (place, (count, _))))))) x (_, (_, (_, (_, (out', (place', (count', _))))))).
      crossing crossed (warped w r p wave.now out.now)
      ≡ ((x, place', count'), out')
  pub siengulot_warp_by_lengths : Says CCalls.siengulot_warp_by_lengths.ended C.siengulot_warp_by_lengths.Reads.Post
      λ κs (w1, (w2, (r1, (r2, (p, (cycles, (reads, (wave, (out, (place, (count, _))))))))))) x
      (_, (_, (_, (_, (_, (_, (_, (_, (out', (place', (count', _))))))))))).
      crossing crossed (warped_by_lengths w1 w2 r1 r2 p cycles.now reads.now wave.now out.now)
      ≡ ((x, place', count'), out')
  pub siengulot_settle : Says CCalls.siengulot_settle.ended C.siengulot_settle.Reads.Post
      λ κs (reads, (choices, (out, (place, (count, _))))) x (_, (_, (out', (place', (count', _))))).
      crossing crossed (settled reads.now choices.now out.now)
      ≡ ((x, place', count'), out')
  pub siengulot_counted : Says CCalls.siengulot_counted.ended C.siengulot_counted.Reads.Post
      λ κs (k, (n, (level, (reads, (out, (place, (count, _))))))) x (_, (_, (_, (_, (out', (place', (count', _))))))).
      crossing crossed_bits (counted_bits k n level reads.now out.now)
      ≡ ((x, place', count'), out')
  pub siengulot_time_read : Says CCalls.siengulot_time_read.ended C.siengulot_time_read.Reads.Post
      λ κs (bits, (out, (place, (count, _)))) x (_, (out', (place', (count', _)))).
      crossing crossed (read_times bits.now out.now)
      ≡ ((x, place', count'), out')
  pub siengulot_time_write : Says CCalls.siengulot_time_write.ended C.siengulot_time_write.Reads.Post
      λ κs (h, (m, (s, (f, (out, (place, (count, _))))))) x (_, (_, (_, (_, (out', (place', (count', _))))))).
      crossing crossed (write_time h m s f out.now)
      ≡ ((x, place', count'), out')
  pub siengulot_fresh : Says CCalls.siengulot_fresh.ended C.siengulot_fresh.Reads.Post
      λ κs (k, (n, (Q, (numbers, (bytes, _))))) x (_, (_, (_, (numbers', (bytes', _))))).
      begun_lent (begun k n Q) ≡ (x, numbers', bytes')
  pub siengulot_well_formed : Says CCalls.siengulot_well_formed.ended C.siengulot_well_formed.Reads.Post
      λ κs (numbers, (bytes, _)) x _.
      well_formed_lent numbers.now bytes.now ≡ x
  pub siengulot_step : Says CCalls.siengulot_step.ended C.siengulot_step.Reads.Post
      λ κs (numbers, (bytes, (read, (room, (event, (found, (place, _))))))) x
      (numbers', (bytes', (_, (room', (event', (found', (place', _))))))).
      stepped_lent (record { numbers = numbers.now; bytes = bytes.now; row = room.now }) read
      ≡ (
        record { number = x; place = place'; event = event'; found = found' },
        record { numbers = numbers'; bytes = bytes'; row = room' },
      )
  pub siengulot_listen : Says CCalls.siengulot_listen.ended C.siengulot_listen.Reads.Post
      λ κs (numbers, (bytes, (reads, (room, (event, (found, (used, (place, _)))))))) x
      (numbers', (bytes', (_, (room', (event', (found', (used', (place', _)))))))).
      listened_lent (record { numbers = numbers.now; bytes = bytes.now; row = room.now }) reads.now
      ≡ (
        (
          record { number = x; place = place'; event = event'; found = found' },
          record { numbers = numbers'; bytes = bytes'; row = room' },
        ),
        used',
      )
  pub siengulot_capture_check :
      Says CCalls.siengulot_capture_check.ended C.siengulot_capture_check.Reads.Post
      λ κs (bytes, (summary, (place, _))) x (_, (summary', (place', _))).
      summed summary.now (checked bytes.now) ≡ (x, place', summary')
  pub siengulot_capture_read : Says CCalls.siengulot_capture_read.ended C.siengulot_capture_read.Reads.Post
      λ κs (bytes, (out, (summary, (place, _)))) x (_, (out', (summary', (place', _)))).
      crossing (summed summary.now) (read_back bytes.now out.now) ≡ ((x, place', summary'), out')
  pub siengulot_capture_write :
      Says CCalls.siengulot_capture_write.ended C.siengulot_capture_write.Reads.Post
      λ κs (k, (n, (Q, (reads, (out, (place, (count, _))))))) x (_, (_, (_, (_, (out', (place', (count', _))))))).
      crossing crossed (written k n Q reads.now out.now)
      ≡ ((x, place', count'), out')
  pub siengulot_encode : Says CCalls.siengulot_encode.ended C.siengulot_encode.Reads.Post
      λ κs (bytes, (out, (place, (count, _)))) x (_, (out', (place', (count', _)))).
      crossing crossed (encoded bytes.now out.now) ≡ ((x, place', count'), out')
  pub siengulot_decode : Says CCalls.siengulot_decode.ended C.siengulot_decode.Reads.Post
      λ κs (words, (out, (place, (count, _)))) x (_, (out', (place', (count', _)))).
      crossing crossed (decoded words.now out.now) ≡ ((x, place', count'), out')
  pub siengulot_log_event : Says CCalls.siengulot_log_event.ended C.siengulot_log_event.Reads.Post
      λ κs (number, (bytes, (count, (mark, (numbers, (bits, (counts, (marks, (free, (broken_count, (taken, _))))))))))) x
      (_, (_, (_, (_, (numbers', (bits', (counts', (broken', (free', (broken_count', (taken', _))))))))))).
      leaving numbered
      (logged number bytes.now count mark
      (record {
        numbers = numbers.now;
        bits = bits.now;
        counts = counts.now;
        broken = marks.now;
        free = free.now;
        broken_count = broken_count.now;
      }))
      ≡ (
        (x, taken'),
        record {
          numbers = numbers';
          bits = bits';
          counts = counts';
          broken = broken';
          free = free';
          broken_count = broken_count';
        },
      )
  pub siengulot_log_clear : Says CCalls.siengulot_log_clear.ended C.siengulot_log_clear.Reads.Post
      λ κs (place, (numbers, (bits, (counts, (marks, (free, (broken_count, _))))))) x
      (_, (numbers', (bits', (counts', (broken', (free', (broken_count', _))))))).
      leaving cleared_over
      (cleared place
      (record {
        numbers = numbers.now;
        bits = bits.now;
        counts = counts.now;
        broken = marks.now;
        free = free.now;
        broken_count = broken_count.now;
      }))
      ≡ (
        x,
        record {
          numbers = numbers';
          bits = bits';
          counts = counts';
          broken = broken';
          free = free';
          broken_count = broken_count';
        },
      )
  pub siengulot_log_list : Says CCalls.siengulot_log_list.ended C.siengulot_log_list.Reads.Post
      λ κs (numbers, (free, (places, (count, _)))) x (_, (_, (places', (count', _)))).
      crossing numbered (listed numbers.now free.now places.now) ≡ ((x, count'), places')
  pub siengulot_survey : Says CCalls.siengulot_survey.ended C.siengulot_survey.Reads.Post
      λ κs (a, (b, (g, (k, (w, (r, (margins, (places, (accepted, (place, (count, _))))))))))) x
      (_, (_, (_, (_, (_, (_, (margins', (places', (accepted', (place', (count', _))))))))))).
      surveyed_over (length a.now) (record { margins = margins.now; places = places.now })
      (surveyed (region a.now b.now g.now k.now w.now r.now))
      ≡ ((x, place', count', accepted'), record { margins = margins'; places = places' })
  pub siengulot_survey_lines : Says CCalls.siengulot_survey_lines.ended C.siengulot_survey_lines.Reads.Post
      λ κs (a, (b, (g, (k, (w, (r, (out, (place, (count, _))))))))) x
      (_, (_, (_, (_, (_, (_, (out', (place', (count', _))))))))).
      crossing crossed (survey_lines (region a.now b.now g.now k.now w.now r.now) out.now)
      ≡ ((x, place', count'), out')
