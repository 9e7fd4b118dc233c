-- Rules D30 and D31: no contract leaves room for two results. Each line is about the contract itself, as the function's
-- crate passes it on: `Post` is its whole `ensures`, `Asked` its `requires`, and `ended` its parameters. The gate fails
-- for a public function that no line here names (.ci/one-meaning).
use Rattle.std.specs.Prelude.{◌≡◌, List, ℕ, Result}
use contract.Lifetimes.{Lfts}
use Rattle.std.specs.Borrow.{Bor}
use denote.Triple.Entry.{Args, Res}
use denote.Triple.Clauses.{Ended, Lasts, AtExit, at_exit}
use Rattle.board.specs.Packed.{whole}
use Rattle.board.specs.declared.Bare.{Bare}
use Rattle.board.specs.declared.Receiver.{Receiver}
use Rattle.capture.specs.Numbers.{number_at}
use Rattle.capture.specs.Held.{begun_reader, advanced}
use Rattle.capture.specs.Answers.{number_says}
use Rattle.capture.specs.declared.Number.{Number}
use Rattle.measure.specs.Refusals.{lent, says}
use Rattle.measure.specs.declared.Refusal.{Refusal}
use Rattle.capture.specs.declared.held.CaptureReader.{CaptureReader}
use Rattle.measure.specs.contracts as MeasureCalls
use Rattle.measure.proofs as Measure
use Rattle.settings.specs.contracts as SettingsCalls
use Rattle.settings.proofs as Settings
use Rattle.sender.specs.contracts as SenderCalls
use Rattle.sender.proofs as Sender
use Rattle.stored.specs.contracts as StoredCalls
use Rattle.stored.proofs as Stored
use Rattle.halfcells.specs.contracts as HalfCellsCalls
use Rattle.halfcells.proofs as HalfCells
use Rattle.line.specs.contracts as LineCalls
use Rattle.line.proofs as Line
use Rattle.counted.specs.contracts as CountedCalls
use Rattle.counted.proofs as Counted
use Rattle.board.specs.contracts as BoardCalls
use Rattle.board.proofs as Board
use Rattle.capture.specs.contracts as CaptureCalls
use Rattle.capture.proofs as Capture
use Rattle.timecode.specs.contracts as TimecodeCalls
use Rattle.timecode.proofs as Timecode
use Rattle.bay_log.specs.contracts as LogCalls
use Rattle.bay_log.proofs as Log
use Rattle.text.specs.contracts as TextCalls
use Rattle.text.proofs as Text
use Rattle.page.specs.contracts as PageCalls
use Rattle.page.proofs as Page
use Rattle.region.specs.contracts as RegionCalls
use Rattle.region.proofs as Region
use Rattle.siengulot.specs.contracts as CCalls
use Rattle.siengulot.proofs as C

-- D30: what a contract asks of a call's arguments
abbrev pub Asking : Ended → Type 1
Asking function = (κs : Lfts function.signature.lifetimes) → Args function.signature κs → Type 0

-- D30: what a contract says of a call: of its arguments, its result, and what is left when it returns
abbrev pub Clause : Ended → Type 1
Clause function =
    (κs : Lfts function.signature.lifetimes) → Args function.signature κs → Res function.signature κs
    → AtExit function κs → Type 0

-- D31: One meaning, for all input: nothing is asked of the caller; and two ends of one call that both satisfy the
-- contract are the same, so the results are equal, and so is what is left behind each `&mut` that was passed.
pub record One (function : Ended) (asked : Asking function) (clause : Clause function) : Type 0 where
  pub always : (κs : Lfts function.signature.lifetimes) (a : Args function.signature κs) → asked κs a
  pub once : (κs : Lfts function.signature.lifetimes) (a : Args function.signature κs)
      (x y : Res function.signature κs) (left right : Lasts function κs a)
      → clause κs a x (at_exit function κs a left) → clause κs a y (at_exit function κs a right)
      → (x ≡ y) × (left ≡ right)

-- D31
pub record OneMeaning : Type 0 where
  -- measure
  pub number : One MeasureCalls.Refusal.number.ended Measure.Refusal.number.Reads.Asked Measure.Refusal.number.Reads.Post
  pub place : One MeasureCalls.Refusal.place.ended Measure.Refusal.place.Reads.Asked Measure.Refusal.place.Reads.Post
  pub between : One MeasureCalls.between.ended Measure.between.Reads.Asked Measure.between.Reads.Post
  pub row_settings_fit_says :
      One MeasureCalls.RowSettings.fit.ended Measure.RowSettings.fit.Reads.Asked Measure.RowSettings.fit.Reads.Post
  pub first_above : One MeasureCalls.first_above.ended Measure.first_above.Reads.Asked Measure.first_above.Reads.Post
  pub check_entries : One MeasureCalls.check_entries.ended Measure.check_entries.Reads.Asked Measure.check_entries.Reads.Post
  -- settings
  pub steady_clocks :
      One SettingsCalls.Clocks.steady.ended Settings.Clocks.steady.Reads.Asked Settings.Clocks.steady.Reads.Post
  pub judge : One SettingsCalls.judge.ended Settings.judge.Reads.Asked Settings.judge.Reads.Post
  pub judge_quiet_says : One SettingsCalls.judge_quiet.ended Settings.judge_quiet.Reads.Asked Settings.judge_quiet.Reads.Post
  pub pick : One SettingsCalls.pick.ended Settings.pick.Reads.Asked Settings.pick.Reads.Post
  pub survey : One SettingsCalls.survey.ended Settings.survey.Reads.Asked Settings.survey.Reads.Post
  -- sender
  pub send : One SenderCalls.send.ended Sender.send.Reads.Asked Sender.send.Reads.Post
  pub send_plan_says : One SenderCalls.send_plan.ended Sender.send_plan.Reads.Asked Sender.send_plan.Reads.Post
  pub pads_in_range : One SenderCalls.pads_in_range.ended Sender.pads_in_range.Reads.Asked Sender.pads_in_range.Reads.Post
  -- stored
  pub read_plan_says : One StoredCalls.read_plan.ended Stored.read_plan.Reads.Asked Stored.read_plan.Reads.Post
  -- halfcells
  pub encode : One HalfCellsCalls.encode.ended HalfCells.encode.Reads.Asked HalfCells.encode.Reads.Post
  pub decode : One HalfCellsCalls.decode.ended HalfCells.decode.Reads.Asked HalfCells.decode.Reads.Post
  -- line
  pub smooth : One LineCalls.smooth.ended Line.smooth.Reads.Asked Line.smooth.Reads.Post
  pub warp : One LineCalls.warp.ended Line.warp.Reads.Asked Line.warp.Reads.Post
  pub warp_by_lengths_says :
      One LineCalls.warp_by_lengths.ended Line.warp_by_lengths.Reads.Asked Line.warp_by_lengths.Reads.Post
  pub settle : One LineCalls.settle.ended Line.settle.Reads.Asked Line.settle.Reads.Post
  -- counted
  pub count_bits : One CountedCalls.count_bits.ended Counted.count_bits.Reads.Asked Counted.count_bits.Reads.Post
  -- timecode
  pub read_times_says : One TimecodeCalls.read_times.ended Timecode.read_times.Reads.Asked Timecode.read_times.Reads.Post
  pub write_time_says : One TimecodeCalls.write_time.ended Timecode.write_time.Reads.Asked Timecode.write_time.Reads.Post
  -- board
  pub mode_number : One BoardCalls.Mode.number.ended Board.Mode.number.Reads.Asked Board.Mode.number.Reads.Post
  pub fresh : One BoardCalls.Receiver.fresh.ended Board.Receiver.fresh.Reads.Asked Board.Receiver.fresh.Reads.Post
  pub well_formed_says :
      One BoardCalls.Receiver.well_formed.ended Board.Receiver.well_formed.Reads.Asked Board.Receiver.well_formed.Reads.Post
  pub step : One BoardCalls.Receiver.step.ended Board.Receiver.step.Reads.Asked Board.Receiver.step.Reads.Post
  pub listen : One BoardCalls.Receiver.listen.ended Board.Receiver.listen.Reads.Asked Board.Receiver.listen.Reads.Post
  pub bare : (receiver : Receiver) (x y : Bare) → whole x receiver.bits ≡ receiver → whole y receiver.bits ≡ receiver
      → x ≡ y
  pub well_formed_lent_says :
      One BoardCalls.Bare.well_formed.ended Board.Bare.well_formed.Reads.Asked Board.Bare.well_formed.Reads.Post
  pub step_lent : One BoardCalls.Bare.step.ended Board.Bare.step.Reads.Asked Board.Bare.step.Reads.Post
  pub listen_lent : One BoardCalls.Bare.listen.ended Board.Bare.listen.Reads.Asked Board.Bare.listen.Reads.Post
  -- capture
  pub read_header : One CaptureCalls.read_header.ended Capture.read_header.Reads.Asked Capture.read_header.Reads.Post
  pub check : One CaptureCalls.check.ended Capture.check.Reads.Asked Capture.check.Reads.Post
  pub read_capture_says : One CaptureCalls.read_capture.ended Capture.read_capture.Reads.Asked Capture.read_capture.Reads.Post
  pub write_capture_says : One CaptureCalls.write_capture.ended Capture.write_capture.Reads.Asked Capture.write_capture.Reads.Post
  -- capture's held reader
  pub reader_new :
      One CaptureCalls.held.CaptureReader.new.ended Capture.held.CaptureReader.new.Reads.Asked
      Capture.held.CaptureReader.new.Reads.Post
  pub reader_place :
      One CaptureCalls.held.CaptureReader.place.ended Capture.held.CaptureReader.place.Reads.Asked
      Capture.held.CaptureReader.place.Reads.Post
  pub reader_next :
      One CaptureCalls.held.CaptureReader.next.ended Capture.held.CaptureReader.next.Reads.Asked
      Capture.held.CaptureReader.next.Reads.Post
  pub reader_advance :
      One CaptureCalls.held.CaptureReader.advance.ended Capture.held.CaptureReader.advance.Reads.Asked
      Capture.held.CaptureReader.advance.Reads.Post
  -- log
  pub log_event_says : One LogCalls.log_event.ended Log.log_event.Reads.Asked Log.log_event.Reads.Post
  pub log_clear_says : One LogCalls.clear.ended Log.clear.Reads.Asked Log.clear.Reads.Post
  pub log_list_says : One LogCalls.list.ended Log.list.Reads.Asked Log.list.Reads.Post
  -- text
  pub end_within : One TextCalls.end_within.ended Text.end_within.Reads.Asked Text.end_within.Reads.Post
  pub put_text : One TextCalls.put_text.ended Text.put_text.Reads.Asked Text.put_text.Reads.Post
  pub number_size : One TextCalls.number_size.ended Text.number_size.Reads.Asked Text.number_size.Reads.Post
  pub put_number : One TextCalls.put_number.ended Text.put_number.Reads.Asked Text.put_number.Reads.Post
  pub signed_size : One TextCalls.signed_size.ended Text.signed_size.Reads.Asked Text.signed_size.Reads.Post
  pub put_signed : One TextCalls.put_signed.ended Text.put_signed.Reads.Asked Text.put_signed.Reads.Post
  -- page
  pub put_heading : One PageCalls.put_heading.ended Page.put_heading.Reads.Asked Page.put_heading.Reads.Post
  pub put_row : One PageCalls.put_row.ended Page.put_row.Reads.Asked Page.put_row.Reads.Post
  pub put_broken : One PageCalls.put_broken.ended Page.put_broken.Reads.Asked Page.put_broken.Reads.Post
  pub put_end : One PageCalls.put_end.ended Page.put_end.Reads.Asked Page.put_end.Reads.Post
  pub put_refused : One PageCalls.put_refused.ended Page.put_refused.Reads.Asked Page.put_refused.Reads.Post
  -- region
  pub survey_lines_says : One RegionCalls.survey_lines.ended Region.survey_lines.Reads.Asked Region.survey_lines.Reads.Post
  -- the entry points for C
  pub siengulot_judge : One CCalls.siengulot_judge.ended C.siengulot_judge.Reads.Asked C.siengulot_judge.Reads.Post
  pub siengulot_judge_quiet :
      One CCalls.siengulot_judge_quiet.ended C.siengulot_judge_quiet.Reads.Asked C.siengulot_judge_quiet.Reads.Post
  pub siengulot_pick : One CCalls.siengulot_pick.ended C.siengulot_pick.Reads.Asked C.siengulot_pick.Reads.Post
  pub siengulot_judge_ends :
      One CCalls.siengulot_judge_ends.ended C.siengulot_judge_ends.Reads.Asked C.siengulot_judge_ends.Reads.Post
  pub siengulot_judge_quiet_ends :
      One CCalls.siengulot_judge_quiet_ends.ended C.siengulot_judge_quiet_ends.Reads.Asked
      C.siengulot_judge_quiet_ends.Reads.Post
  pub siengulot_pick_ends :
      One CCalls.siengulot_pick_ends.ended C.siengulot_pick_ends.Reads.Asked C.siengulot_pick_ends.Reads.Post
  pub siengulot_send : One CCalls.siengulot_send.ended C.siengulot_send.Reads.Asked C.siengulot_send.Reads.Post
  pub siengulot_plan : One CCalls.siengulot_plan.ended C.siengulot_plan.Reads.Asked C.siengulot_plan.Reads.Post
  pub siengulot_read_plan :
      One CCalls.siengulot_read_plan.ended C.siengulot_read_plan.Reads.Asked C.siengulot_read_plan.Reads.Post
  pub siengulot_smooth : One CCalls.siengulot_smooth.ended C.siengulot_smooth.Reads.Asked C.siengulot_smooth.Reads.Post
  pub siengulot_warp : One CCalls.siengulot_warp.ended C.siengulot_warp.Reads.Asked C.siengulot_warp.Reads.Post
  pub siengulot_warp_by_lengths :
      One CCalls.siengulot_warp_by_lengths.ended C.siengulot_warp_by_lengths.Reads.Asked
      C.siengulot_warp_by_lengths.Reads.Post
  pub siengulot_settle : One CCalls.siengulot_settle.ended C.siengulot_settle.Reads.Asked C.siengulot_settle.Reads.Post
  pub siengulot_counted : One CCalls.siengulot_counted.ended C.siengulot_counted.Reads.Asked C.siengulot_counted.Reads.Post
  pub siengulot_time_read :
      One CCalls.siengulot_time_read.ended C.siengulot_time_read.Reads.Asked C.siengulot_time_read.Reads.Post
  pub siengulot_time_write :
      One CCalls.siengulot_time_write.ended C.siengulot_time_write.Reads.Asked C.siengulot_time_write.Reads.Post
  pub siengulot_fresh : One CCalls.siengulot_fresh.ended C.siengulot_fresh.Reads.Asked C.siengulot_fresh.Reads.Post
  pub siengulot_well_formed :
      One CCalls.siengulot_well_formed.ended C.siengulot_well_formed.Reads.Asked C.siengulot_well_formed.Reads.Post
  pub siengulot_step : One CCalls.siengulot_step.ended C.siengulot_step.Reads.Asked C.siengulot_step.Reads.Post
  pub siengulot_listen : One CCalls.siengulot_listen.ended C.siengulot_listen.Reads.Asked C.siengulot_listen.Reads.Post
  pub siengulot_capture_check :
      One CCalls.siengulot_capture_check.ended C.siengulot_capture_check.Reads.Asked C.siengulot_capture_check.Reads.Post
  pub siengulot_capture_read :
      One CCalls.siengulot_capture_read.ended C.siengulot_capture_read.Reads.Asked C.siengulot_capture_read.Reads.Post
  pub siengulot_capture_write :
      One CCalls.siengulot_capture_write.ended C.siengulot_capture_write.Reads.Asked C.siengulot_capture_write.Reads.Post
  pub siengulot_encode : One CCalls.siengulot_encode.ended C.siengulot_encode.Reads.Asked C.siengulot_encode.Reads.Post
  pub siengulot_decode : One CCalls.siengulot_decode.ended C.siengulot_decode.Reads.Asked C.siengulot_decode.Reads.Post
  pub siengulot_log_event :
      One CCalls.siengulot_log_event.ended C.siengulot_log_event.Reads.Asked C.siengulot_log_event.Reads.Post
  pub siengulot_log_clear :
      One CCalls.siengulot_log_clear.ended C.siengulot_log_clear.Reads.Asked C.siengulot_log_clear.Reads.Post
  pub siengulot_log_list :
      One CCalls.siengulot_log_list.ended C.siengulot_log_list.Reads.Asked C.siengulot_log_list.Reads.Post
  pub siengulot_survey : One CCalls.siengulot_survey.ended C.siengulot_survey.Reads.Asked C.siengulot_survey.Reads.Post
  pub siengulot_survey_lines :
      One CCalls.siengulot_survey_lines.ended C.siengulot_survey_lines.Reads.Asked C.siengulot_survey_lines.Reads.Post
  -- the equation of `text::put_line`, which takes any piece, over the definitions alone
  pub put_line : (bytes out left right : List ℕ) (x y : Result ℕ Refusal)
      → lent bytes out ≡ (says (λ size. size) x, left) → lent bytes out ≡ (says (λ size. size) y, right)
      → (x ≡ y) × (left ≡ right)
  -- the held reader's equations, over the definitions alone
  pub held_new : (bytes : Bor (List ℕ)) (x y : CaptureReader) → x ≡ begun_reader bytes → y ≡ begun_reader bytes → x ≡ y
  pub held_place : (reader : CaptureReader) (x y : ℕ) → x ≡ reader.at → y ≡ reader.at → x ≡ y
  pub held_next : (bytes : List ℕ) (at : ℕ) (x y : Result Number Refusal) → number_at bytes at ≡ number_says x
      → number_at bytes at ≡ number_says y → x ≡ y
  pub held_advance : (reader x y : CaptureReader) → x ≡ advanced reader → y ≡ advanced reader → x ≡ y
