-- The user's demands 1, 2 and 3, in order. Each line speaks of the definition that the operation's own contract cites,
-- as ByContract says of each. That every call ends is not stated: the prover shows it of each function by itself.
use Rattle.std.specs.Prelude.{ℕ, ◌≡◌, true, false, List, length, take}
use Rattle.std.specs.Borrow.{Bor}
use Rattle.measure.specs.Choose.{choose}
use Rattle.measure.specs.Ranges.{row_settings_fit}
use Rattle.measure.specs.Lists.{onto}
use Rattle.measure.specs.Refusals.{Answer, given, refused, number_of, place_of}
use Rattle.measure.specs.declared.Refusal.{Refusal}
use Rattle.settings.specs.Margins.{Ends}
use Rattle.settings.specs.Answers.{judgement, quiet_judgement}
use Rattle.settings.specs.Pick.{Best, Picks}
use Rattle.settings.specs.Survey.{Region, report_of, surveyed}
use Rattle.sender.specs.Sending.{wave, plan_wave, rows_of}
use Rattle.sender.specs.Answers.{sent_message, sent_plan}
use Rattle.stored.specs.Stored.{joined, dropped}
use Rattle.stored.specs.Answers.{read_plan}
use Rattle.stored.specs.Shown.{SameWave}
use Rattle.halfcells.specs.HalfCells.{words_of, bytes_of}
use Rattle.halfcells.specs.Words.{TableIsTheRule}
use Rattle.halfcells.specs.Answers.{encoded, decoded}
use Rattle.halfcells.specs.Shown.{WordsAreTheWave, EncodedDecodes, DecodedEncodes}
use Rattle.line.specs.Smooth.{smooth as smoothing}
use Rattle.line.specs.Warp.{warp as warping}
use Rattle.line.specs.Wander.{warp_by_lengths as warping_by_lengths, EqualLengthsWarp}
use Rattle.line.specs.Passes.{EqualLengthsLine}
use Rattle.line.specs.Settle.{settle as settling}
use Rattle.line.specs.Settling.{SmoothLawsHold}
use Rattle.line.specs.Sharing.{WarpLawsHold}
use Rattle.line.specs.Answers.{smoothed, warped, warped_by_lengths, settled}
use Rattle.counted.specs.Counted.{counted, current}
use Rattle.counted.specs.Answers.{counted_into, counted_bits}
use Rattle.counted.specs.Continued.{CountingContinues, LaterReadsKeep}
use Rattle.board.specs.Rows.{Settings, nothing, row, broken, fresh as fresh_state, next as next_state}
use Rattle.board.specs.Feeding.{reports as reports_of}
use Rattle.board.specs.Packed.{unpacked, whole, settings_of, state_of, receiver_of}
use Rattle.board.specs.WellFormed.{well_formed}
use Rattle.board.specs.EveryStep.{EveryStep}
use Rattle.board.specs.Crossed.{SameCrossed}
use Rattle.board.specs.Answers.{reached, refusing, begun, stepped, levels_of, to_event, listened, in_lent}
use Rattle.board.specs.declared.Bare.{Bare}
use Rattle.board.specs.declared.Receiver.{Receiver}
use Rattle.capture.specs.Numbers.{number_at}
use Rattle.capture.specs.Capture.{header}
use Rattle.capture.specs.Writing.{capture_of}
use Rattle.capture.specs.Held.{begun_reader, advanced, Reached, Stands}
use Rattle.capture.specs.Answers.{summary, checked, read_back, written}
use Rattle.capture.specs.RoundTrips.{WrittenReadsBack, ReadWritesBack}
use Rattle.capture.specs.declared.held.CaptureReader.{CaptureReader}
use Rattle.timecode.specs.Times.{word_of}
use Rattle.timecode.specs.Answers.{listed_into, read_times, write_time}
use Rattle.timecode.specs.RoundTrips.{WrittenReadsBack as TimesReadBack, ReadWritesBack as TimesWriteBack}
use Rattle.bay_log.specs.Records.{Log, is_free, put, event_record, free_record}
use Rattle.bay_log.specs.Order.{listing, takes}
use Rattle.bay_log.specs.ReadOrder.{ListsInOrder}
use Rattle.bay_log.specs.Answers.{logged, cleared, listed}
use Rattle.bay_log.specs.Sequence.{AnySequence}
use Rattle.bay_log.specs.LastEvents.{KeepsLast}
use Rattle.page.specs.Lines.{heading_line, event_line, end_line, refused_line, page, capture_settings, capture_reads, output}
use Rattle.page.specs.Walk.{Whole}
use Rattle.region.specs.Lines.{report_lines}
use Rattle.region.specs.Answers.{survey_lines}
use Rattle.promises.specs.GoodInput as Good
use Rattle.promises.specs.Promised.{Answered, Tells, Fills, Puts, judged as judged_settings, quiet_judged}
use Rattle.promises.specs.Promised.{unstarted}
use Rattle.promises.specs.ByContract.{ByContract}
use Rattle.promises.specs.FromC.{Demand1FromC}
use Rattle.promises.specs.OneMeaning.{OneMeaning}
use Rattle.promises.specs.Reaching.{SteadyByLengths}
use Rattle.promises.specs.CountedReturns.{AcceptedReturn, OperationReturns, SteadyReturn}
use Rattle.promises.specs.Picked.{PickedCounts}
use Rattle.promises.specs.Places.{Link, scene}
use Rattle.promises.specs.Demand3.{Fitting, receiver_settings, Demand3, UserWording, Demand3Holds, GroundsHold}
use Rattle.promises.specs.Demand3.{SteadyClocksAreACase}
use Rattle.promises.specs.Ready.{Ready, ReadyHolds}
use Rattle.promises.specs.StoredPlans.{EveryStoredPlan, StoredPlansHold}
use Rattle.promises.specs.Hearing.{Caller, hearing, Hears}
use Rattle.promises.specs.Logged.{LastReports}
use Rattle.promises.specs.WholeWay.{AcceptedFits, WholeWayHolds}

-- D1: whatever comes in is answered. Good input gets its very result, and every lent entry past it is as it was. Bad
-- input is refused by the first test of the rules' table that it fails, with its number and its place, and all that was
-- lent is as it was; only a start that is refused hands back a receiver of zeros, which from C is written over what was
-- lent. GoodInput lists the tests. Refusals 5 and 10 are none of them: they are results, and leave what was found.
pub record Demand1 : Type 0 where
  -- the judges and the picker over the ends of two clocks; those of steady clocks are the case of equal ends
  pub judge : (a b g k : ℕ) (e : Ends) → Tells (Good.judge a b g k e) (judged_settings a b g k e) (judgement a b g k e)
  pub judge_quiet_says : (a b g k : ℕ) (e : Ends) (Q p1 : ℕ)
      → Tells (Good.judge_quiet a b g k e Q p1) (quiet_judged a b g k e Q p1) (quiet_judgement a b g k e Q p1)
  -- the answer that the picker's contract allows, told of the best k
  pub pick : (a b g k : ℕ) (e : Ends) (answer : Answer ℕ) → Picks a b g e answer → Best a b g k e
      → Tells (Good.pick a b g k e) k answer
  -- the survey of a region, and its lines; with no boards the report is a case of its own
  pub survey : (s : Region) → Tells (Good.survey s) (report_of s) (surveyed s)
  pub survey_lines_says : (s : Region) (output : List ℕ)
      → Fills (Good.survey_lines s output) (report_lines (report_of s)) output (survey_lines s output)
  pub send : (a b p1 : ℕ) (bits output : List ℕ)
      → Fills (Good.send a b p1 bits output) (wave a b p1 bits) output (sent_message a b p1 bits output)
  pub send_plan_says : (a b n : ℕ) (leads bits output : List ℕ)
      → Fills (Good.send_plan a b n leads bits output) (plan_wave a b (rows_of n leads bits)) output
      (sent_plan a b n leads bits output)
  pub read_plan_says : (leads trails output : List ℕ)
      → Answered (Good.read_plan leads trails output) (read_plan leads trails output)
      (given (record { rows = length leads; dropped = dropped trails }), onto (joined leads trails) output)
      (λ number place. (refused number place, output))
  pub smooth : (g : ℕ) (wave output : List ℕ)
      → Fills (Good.smooth g wave output) (smoothing g wave) output (smoothed g wave output)
  pub warp : (w r p : ℕ) (wave output : List ℕ)
      → Fills (Good.warp w r p wave output) (warping w r p wave) output (warped w r p wave output)
  pub warp_by_lengths_says : (w1 w2 r1 r2 p : ℕ) (cycles reads wave output : List ℕ)
      → Fills (Good.warp_by_lengths w1 w2 r1 r2 p cycles reads wave output) (warping_by_lengths p cycles reads wave) output
      (warped_by_lengths w1 w2 r1 r2 p cycles reads wave output)
  pub settle : (reads choices output : List ℕ)
      → Fills (Good.settle reads choices output) (settling reads choices) output (settled reads choices output)
  -- refusal 5 is the counted receiver's alone: `counted_into` gives it, with the bits that there are at the front
  pub count_bits : (k n level : ℕ) (reads output : List ℕ)
      → Answered (Good.count_bits k n level reads output) (counted_bits k n level reads output)
      (counted_into n (counted k n level reads) (current k n level reads) output)
      (λ number place. (refused number place, output))
  -- and refusal 10 the reader's of time code: `listed_into` gives it, with the times before the bad word at the front
  pub read_times_says : (bits output : List ℕ)
      → Answered (Good.read_times bits output) (read_times bits output) (listed_into bits output)
      (λ number place. (refused number place, output))
  pub write_time_says : (h m s f : ℕ) (output : List ℕ)
      → Fills (Good.write_time h m s f output) (word_of h m s f) output (write_time h m s f output)
  pub fresh : (k n Q : ℕ)
      → Answered (Good.fresh k n Q) (begun k n Q)
      (given nothing, receiver_of (record { k = k; n = n; Q = Q }) fresh_state)
      (λ number place. (refused number place, unstarted))
  -- yes or no, with no refusal: a state that passes each clause is well formed, and no other is
  pub well_formed_says : (x : Receiver) → Answered (Good.well_formed_by x) (well_formed x) true (λ number place. false)
  pub step : (x : Receiver) (read : ℕ)
      → let moved = next_state (settings_of x) (state_of x) read in
      Answered (Good.step x read) (stepped x read) (reached (settings_of x) moved.state moved.event) (refusing x)
  pub listen : (x : Receiver) (reads : List ℕ)
      → let told = reports_of (settings_of x) (state_of x) 0 (levels_of reads) in
      Answered (Good.listen x reads) (listened x reads) (to_event (settings_of x) (state_of x) (levels_of reads) told)
      (λ number place. (refusing x number place, 0))
  -- the same where bits and a row's bytes are lent, which a refusal leaves as they were; one read is a list of one
  pub listen_lent : (bare : Bare) (bits room reads : List ℕ)
      → let x = whole bare bits in
      let told = reports_of (settings_of x) (state_of x) 0 (levels_of reads) in
      Answered (Good.listen x reads) (in_lent room (listened x reads))
      (in_lent room (to_event (settings_of x) (state_of x) (levels_of reads) told))
      (λ number place. (record { receiver = x; answer = refused number place; row = room }, 0))
  -- the held reader: at the first byte of what is lent, its place `at`, the number there, and past that number. The two
  -- last hold at any place; one past the last byte no caller can have.
  pub held_new : (bytes : Bor (List ℕ)) → begun_reader bytes ≡ record { src = bytes; at = 0 }
  pub held_place : (bytes : Bor (List ℕ)) (x : CaptureReader) → Reached bytes x → Stands bytes x
  pub held_next : (x : CaptureReader)
      → let bytes = x.src.now in
      Tells (Good.number bytes x.at)
      (record { value = Good.value_of (Good.at bytes x.at); after = Good.next bytes x.at })
      (number_at bytes x.at)
  pub held_advance : (x : CaptureReader)
      → let bytes = x.src.now in
      Answered (Good.number bytes x.at) (advanced x) (record { src = x.src; at = Good.next bytes x.at })
      (λ number place. x)
  pub read_header : (bytes : List ℕ) → Tells (Good.header bytes) (Good.heading bytes) (header bytes)
  pub check : (bytes : List ℕ) → Tells (Good.capture bytes) (summary (Good.captured bytes)) (checked bytes)
  pub read_capture_says : (bytes output : List ℕ)
      → Answered (Good.read_capture bytes output) (read_back bytes output)
      (given (summary (Good.captured bytes)), onto (Good.reads_in bytes) output)
      (λ number place. (refused number place, output))
  pub write_capture_says : (k n Q : ℕ) (reads output : List ℕ)
      → Fills (Good.write_capture k n Q reads output) (capture_of k n Q reads) output (written k n Q reads output)
  pub encode : (bytes output : List ℕ)
      → Fills (Good.encode bytes output) (words_of bytes) output (encoded bytes output)
  pub decode : (words output : List ℕ)
      → Fills (Good.decode words output) (bytes_of words) output (decoded words output)
  -- the log: the new record stands at the place that is taken; a record in use is freed; a refusal leaves the log
  pub log_event_says : (read : ℕ) (bits : List ℕ) (count broken : ℕ) (log : Log)
      → let taken = takes log.numbers log.free in
      Answered (Good.log_event read bits count log) (logged read bits count broken log)
      (given taken, put log taken (event_record read bits count broken))
      (λ number place. (refused number place, log))
  pub log_clear_says : (at : ℕ) (log : Log)
      → Answered (Good.log_clear at log) (cleared at log)
      (given tt, choose (is_free log at) log (put log at free_record))
      (λ number place. (refused number place, log))
  pub log_list_says : (numbers free output : List ℕ)
      → Fills (Good.log_list numbers free output) (listing numbers free) output (listed numbers free output)
  -- the lines of a page, each at the front of a lent output
  pub put_heading : (output : List ℕ) → Puts heading_line output
  pub put_row : (place n : ℕ) (bits output : List ℕ) → Puts (event_line place (row (take n (unpacked 8 bits)))) output
  pub put_broken : (place found : ℕ) (output : List ℕ) → Puts (event_line place (broken found)) output
  pub put_end : (reads rows : ℕ) (output : List ℕ) → Puts (end_line reads rows) output
  pub put_refused : (refusal : Refusal) (output : List ℕ)
      → Puts (refused_line (number_of refusal) (place_of refusal)) output
  -- E1, E5, E6: what the rows program writes: the page of a good capture, and else its refusal's line alone
  pub rows : (input : List ℕ)
      → let c = Good.captured input in
      let told = reports_of (capture_settings c) fresh_state 0 (capture_reads c) in
      Answered (Good.rows input) (output input) (page (capture_reads c) told) refused_line

-- D2: what goes over the line is what the rules make of it, from the sender to the receivers and to a capture.
pub record Demand2 : Type 0 where
  -- a stored plan is read into a plan with the same wave, but for the cycles that are dropped
  pub stored : SameWave
  -- which cycles are unknown; what a read looks at, and how many reads there are
  pub smooths : SmoothLawsHold
  pub line : WarpLawsHold
  -- lengths that are all equal make warp, and the three passes, so steady clocks are a case of lengths
  pub equal_lengths : EqualLengthsWarp
  pub equal_lengths_line : EqualLengthsLine
  pub steady_by_lengths : SteadyByLengths
  -- accepted settings return every message, and so does the operation, with steady clocks as a case
  pub counts : AcceptedReturn
  pub counts_bits : OperationReturns
  pub steady_counts : SteadyReturn
  -- the counted receiver goes on where it stopped, and reads that come later change nothing of what it found
  pub continues : CountingContinues
  pub keeps : LaterReadsKeep
  -- a picked sampling count is the best
  pub picks : PickedCounts
  -- every step gives a well formed state; reads turned over bring the same reports; and the row receiver hears what the
  -- rules hear, whatever comes in, one read a call or a list a call, in Rust and from C
  pub well_formed_says : EveryStep
  pub same_crossed : SameCrossed
  pub hears : (g : Settings) → row_settings_fit g.k g.n g.Q ≡ true → (caller : Caller)
      → Hears g (hearing caller g)
  -- captures both ways
  pub reads_back : WrittenReadsBack
  pub writes_back : ReadWritesBack
  -- words of half cells: the table is the rule, held on the line they are the message's wave, and they go both ways
  pub words_table : TableIsTheRule
  pub words_wave : WordsAreTheWave
  pub words_decode : EncodedDecodes
  pub words_encode : DecodedEncodes
  -- time code both ways
  pub times_read_back : TimesReadBack
  pub times_write_back : TimesWriteBack
  -- the log lists every record in use once, the oldest first; it shows what it was given, whatever calls come; with no
  -- clearing the last 64 events, of a receiver's too
  pub log_lists : ListsInOrder
  pub log_shows : AnySequence
  pub log_keeps_last : KeepsLast
  pub log_last_reports : LastReports
  -- the rows program, line after line, writes the whole of its output
  pub writes_rows : Whole

-- D3: each row of a plan is delivered once and in order; and where a stretch of reads is replaced by any others, each
-- row again from the next lead quiet that is heard. It holds over a straight pair and over a crossed one, with all
-- clocks that keep to their ends and reach the wave's end, of the rules, with the user's own wording and steady clocks
-- as cases and with its grounds, and of every caller: of `step` with one read a call, of `listen` with a list a call,
-- and of both from C.
pub record Demand3Met : Type 0 where
  pub of_the_rules : Demand3Holds
  pub in_the_users_words : UserWording
  pub grounds : GroundsHold
  pub of_every_caller : (x : Link) → Fitting x → row_settings_fit x.k x.n x.Q ≡ true → (caller : Caller)
      → Demand3 (scene x) (hearing caller (receiver_settings (scene x)))
  pub steady_clocks : SteadyClocksAreACase
  -- with nothing replaced, the read that delivers a row lies within the code subcell of the row's last cell
  pub ready : ReadyHolds
  pub ready_for_every_caller : (x : Link) → Fitting x → row_settings_fit x.k x.n x.Q ≡ true → (caller : Caller)
      → Ready (scene x) (hearing caller (receiver_settings (scene x)))
  -- a yes of the quiet judge for each row's lead is what is asked of the settings; and from the lent lists of a plan
  -- to the delivered rows, call after call
  pub judged : AcceptedFits
  pub whole_way : WholeWayHolds
  -- and of a plan that was stored with trail pads, with nothing lost of what it says of the stored plan
  pub every_stored_plan : EveryStoredPlan
  pub stored_plans : StoredPlansHold

-- D1, D2, D3: what the contracts say, and the three demands, the first also of the thirty entry points for C
pub record Demands : Type 0 where
  pub contracts : ByContract
  pub one_meaning : OneMeaning
  pub demand_1 : Demand1
  pub demand_1_from_c : Demand1FromC
  pub demand_2 : Demand2
  pub demand_3 : Demand3Met
