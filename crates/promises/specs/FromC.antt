-- Demand 1 of the thirty entry points for C. The tests are those of the operations. What crosses is a number, 0
-- for no refusal, and what is left behind each pointer.
use Rattle.std.specs.Prelude.{ℕ, List, [], ◌∷◌, ℤ, eqb, length, replicate}
use Rattle.measure.specs.Choose.{choose}
use Rattle.measure.specs.Lists.{onto}
use Rattle.settings.specs.Margins.{Ends, m1, m2, m3, m4, m5, accepted, quiet_accepted}
use Rattle.settings.specs.Answers.{judgement, quiet_judgement}
use Rattle.settings.specs.Pick.{Best}
use Rattle.settings.specs.Survey.{Region, boards, figures_of, report_of, surveyed}
use Rattle.sender.specs.Sending.{wave, plan_wave, rows_of}
use Rattle.sender.specs.Answers.{sent_message, sent_plan}
use Rattle.stored.specs.Stored.{joined, dropped}
use Rattle.stored.specs.Answers.{read_plan}
use Rattle.halfcells.specs.HalfCells.{words_of, bytes_of}
use Rattle.halfcells.specs.Answers.{encoded, decoded}
use Rattle.line.specs.Smooth.{smooth as smoothing}
use Rattle.line.specs.Warp.{warp as warping}
use Rattle.line.specs.Wander.{warp_by_lengths as warping_by_lengths}
use Rattle.line.specs.Settle.{settle as settling}
use Rattle.line.specs.Answers.{smoothed, warped, warped_by_lengths, settled}
use Rattle.counted.specs.Counted.{counted as counted_of, current}
use Rattle.counted.specs.Answers.{counted_into, counted_bits}
use Rattle.board.specs.Rows.{next}
use Rattle.board.specs.Feeding.{reports}
use Rattle.board.specs.Packed.{settings_of, state_of}
use Rattle.board.specs.WellFormed.{well_formed}
use Rattle.board.specs.Answers.{reached, begun, levels_of, to_event}
use Rattle.capture.specs.Writing.{capture_of}
use Rattle.bay_log.specs.Records.{Log, is_free, put, event_record, free_record}
use Rattle.bay_log.specs.Order.{listing, takes}
use Rattle.bay_log.specs.Answers.{logged, cleared, listed}
use Rattle.capture.specs.Answers.{checked, read_back, written}
use Rattle.timecode.specs.Times.{word_of}
use Rattle.timecode.specs.Answers.{listed_into, read_times, write_time}
use Rattle.region.specs.Lines.{report_lines}
use Rattle.region.specs.Answers.{survey_lines}
use Rattle.siengulot.specs.Crossing.{crossed, crossed_bits, crossing, flag, judged_three, judged_five, summed, numbered}
use Rattle.siengulot.specs.Receivers.{Lent, Reply, named, numbers_fit, receiver_lent, brought, brought_by, begun_lent}
use Rattle.siengulot.specs.Receivers.{stepped_lent, listened_lent, well_formed_lent}
use Rattle.siengulot.specs.Picking.{PickCrosses}
use Rattle.siengulot.specs.StoredPlans.{joined_over}
use Rattle.siengulot.specs.Logs.{cleared_over, leaving}
use Rattle.siengulot.specs.Surveys.{Found, surveyed_over}
use Rattle.promises.specs.GoodInput as Good
use Rattle.promises.specs.Promised.{Answered, FillsFromC, setting}

-- H9: what is told with a refusal of reads
abbrev pub refusal : ℕ → ℕ → Reply
refusal number place = record { number = number; place = place; event = 0; found = 0 }

-- H10: the five numbers of a capture's summary
abbrev pub summary_of : (bytes : List ℕ) → List ℕ
summary_of bytes =
    let c = Good.captured bytes in c.k ∷ c.n ∷ c.Q ∷ length (Good.reads_in bytes) ∷ length c.runs ∷ []

-- D1, H1
pub record Demand1FromC : Type 0 where
  -- judging: the number, whether the settings are accepted, and the margins, which a refusal leaves; steady clocks are
  -- the case of equal ends
  pub judge : (a b g k : ℕ) (e : Ends) (margins : List ℤ)
      → Answered (Good.judge a b g k e) (judged_three (judgement a b g k e) margins)
      (0, flag (accepted a b g k e), m1 a g e ∷ m2 a g k e ∷ m3 a b g k e ∷ [])
      (λ number place. (number, 0, margins))
  pub judge_quiet_says : (a b g k : ℕ) (e : Ends) (Q p1 : ℕ) (margins : List ℤ)
      → Answered (Good.judge_quiet a b g k e Q p1) (judged_five (quiet_judgement a b g k e Q p1) margins) (
        0,
        flag (quiet_accepted a b g k e Q p1),
        m1 a g e ∷ m2 a g k e ∷ m3 a b g k e ∷ m4 a b g e Q ∷ m5 g e Q p1 ∷ [],
      ) (λ number place. (number, 0, margins))
  -- H11: picking: the number, and k, which is 0 with a refusal
  pub pick : (a b g k : ℕ) (e : Ends) (number picked : ℕ) → PickCrosses a b g e number picked → Best a b g k e
      → Answered {O = ℕ × ℕ} (Good.pick a b g k e) (number, picked) (0, k) (λ number place. (number, 0))
  pub send : (a b p1 : ℕ) (bits output : List ℕ)
      → FillsFromC (Good.send a b p1 bits output) (wave a b p1 bits) output
      (crossing crossed (sent_message a b p1 bits output))
  pub plan : (a b n : ℕ) (leads bits output : List ℕ)
      → FillsFromC (Good.send_plan a b n leads bits output) (plan_wave a b (rows_of n leads bits)) output
      (crossing crossed (sent_plan a b n leads bits output))
  -- H12: a stored plan: the number of rows and the cycles dropped, both 0 with a refusal
  pub read_plan_says : (leads trails output : List ℕ)
      → Answered (Good.read_plan leads trails output) (crossing joined_over (read_plan leads trails output))
      ((0, 0, length leads, dropped trails), onto (joined leads trails) output)
      (λ number place. ((number, place, 0, 0), output))
  pub smooth : (g : ℕ) (wave output : List ℕ)
      → FillsFromC (Good.smooth g wave output) (smoothing g wave) output (crossing crossed (smoothed g wave output))
  pub warp : (w r p : ℕ) (wave output : List ℕ)
      → FillsFromC (Good.warp w r p wave output) (warping w r p wave) output
      (crossing crossed (warped w r p wave output))
  pub warp_by_lengths_says : (w1 w2 r1 r2 p : ℕ) (cycles reads wave output : List ℕ)
      → FillsFromC (Good.warp_by_lengths w1 w2 r1 r2 p cycles reads wave output) (warping_by_lengths p cycles reads wave)
      output (crossing crossed (warped_by_lengths w1 w2 r1 r2 p cycles reads wave output))
  pub settle : (reads choices output : List ℕ)
      → FillsFromC (Good.settle reads choices output) (settling reads choices) output
      (crossing crossed (settled reads choices output))
  -- with refusal 5 the count is of the bits found, which stand at the output's front; the place is the current read
  pub counted : (k n level : ℕ) (reads output : List ℕ)
      → Answered (Good.count_bits k n level reads output) (crossing crossed_bits (counted_bits k n level reads output))
      (crossing crossed_bits (counted_into n (counted_of k n level reads) (current k n level reads) output))
      (λ number place. ((number, place, 0), output))
  -- with refusal 10 the count is of the times before the bad word, which stand at the output's front
  pub time_read : (bits output : List ℕ)
      → Answered (Good.read_times bits output) (crossing crossed (read_times bits output))
      (crossing crossed (listed_into bits output)) (λ number place. ((number, place, 0), output))
  pub time_write : (h m s f : ℕ) (output : List ℕ)
      → FillsFromC (Good.write_time h m s f output) (word_of h m s f) output (crossing crossed (write_time h m s f output))
  -- the receiver's nine numbers (k, n, Q, mode, run, run's level, left, level, found) and its bytes; a refused start is
  -- all zeros
  pub fresh : (k n Q : ℕ)
      → Answered (Good.fresh k n Q) (begun_lent (begun k n Q))
      (0, k ∷ n ∷ Q ∷ 0 ∷ 0 ∷ 1 ∷ 0 ∷ 1 ∷ 0 ∷ [], replicate 128 0)
      (λ number place. (number, replicate 9 0, replicate 128 0))
  -- 1 for a well formed state and 0 for any other
  pub well_formed_says : (numbers bytes : List ℕ)
      → Answered (setting (numbers_fit (named numbers)) ∷ setting (well_formed (receiver_lent (named numbers) bytes)) ∷ [])
      (well_formed_lent numbers bytes) 1 (λ number place. 0)
  pub step : (lent : Lent) (read : ℕ)
      → let x = receiver_lent (named lent.numbers) lent.bytes in
      let moved = next (settings_of x) (state_of x) read in
      Answered (Good.step_from_c lent read) (stepped_lent lent read)
      (brought lent (reached (settings_of x) moved.state moved.event))
      (λ number place. (refusal number place, lent))
  pub listen : (lent : Lent) (reads : List ℕ)
      → let x = receiver_lent (named lent.numbers) lent.bytes in
      let told = reports (settings_of x) (state_of x) 0 (levels_of reads) in
      Answered (Good.listen_from_c lent reads) (listened_lent lent reads)
      (brought_by lent (to_event (settings_of x) (state_of x) (levels_of reads) told))
      (λ number place. ((refusal number place, lent), 0))
  pub capture_check : (bytes summary : List ℕ)
      → Answered (Good.capture bytes) (summed summary (checked bytes)) (0, 0, summary_of bytes)
      (λ number place. (number, place, summary))
  pub capture_read : (bytes output summary : List ℕ)
      → Answered (Good.read_capture bytes output) (crossing (summed summary) (read_back bytes output))
      ((0, 0, summary_of bytes), onto (Good.reads_in bytes) output)
      (λ number place. ((number, place, summary), output))
  pub capture_write : (k n Q : ℕ) (reads output : List ℕ)
      → FillsFromC (Good.write_capture k n Q reads output) (capture_of k n Q reads) output
      (crossing crossed (written k n Q reads output))
  pub encode : (bytes output : List ℕ)
      → FillsFromC (Good.encode bytes output) (words_of bytes) output (crossing crossed (encoded bytes output))
  pub decode : (words output : List ℕ)
      → FillsFromC (Good.decode words output) (bytes_of words) output (crossing crossed (decoded words output))
  -- H16: the log: the number, and the place taken or the count, which is 0 with a refusal; a refusal leaves the lists
  pub log_event_says : (read : ℕ) (bits : List ℕ) (count broken : ℕ) (log : Log)
      → let taken = takes log.numbers log.free in
      Answered (Good.log_event read bits count log) (leaving numbered (logged read bits count broken log))
      ((0, taken), put log taken (event_record read bits count broken))
      (λ number place. ((number, 0), log))
  pub log_clear_says : (at : ℕ) (log : Log)
      → Answered (Good.log_clear at log) (leaving cleared_over (cleared at log))
      (0, choose (is_free log at) log (put log at free_record))
      (λ number place. (number, log))
  pub log_list_says : (numbers free output : List ℕ)
      → Answered (Good.log_list numbers free output) (crossing numbered (listed numbers free output))
      ((0, length (listing numbers free)), onto (listing numbers free) output)
      (λ number place. ((number, 0), output))
  -- H20: the survey: how many boards there are and how many are accepted, both 0 with a refusal, and the smallest
  -- margins with their places, which a refusal and a region with no boards leave
  pub survey : (s : Region) (lent : Found)
      → Answered (Good.survey s) (surveyed_over (boards s) lent (surveyed s))
      (let f = figures_of s in choose (eqb (boards s) 0) ((0, 0, 0, 0), lent) (
        (0, 0, boards s, f.accepted),
        record {
          margins = f.m1.margin ∷ f.m2.margin ∷ f.m3.margin ∷ [];
          places = f.m1.place ∷ f.m2.place ∷ f.m3.place ∷ [];
        },
      )) (λ number place. ((number, place, 0, 0), lent))
  pub survey_lines_says : (s : Region) (output : List ℕ)
      → FillsFromC (Good.survey_lines s output) (report_lines (report_of s)) output
      (crossing crossed (survey_lines s output))
