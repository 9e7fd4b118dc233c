-- What good input is, operation by operation: the tests of the rules' table of refusals that it has to pass, in the
-- order in which they are made.
use Rattle.std.specs.Prelude.{ℕ, zero, suc, ◌+◌, ◌*◌, Bool, true, false, ◌&&◌, not, List, [], ◌∷◌, ◌++◌, eqb, leb, ltb, length, drop}
use Rattle.measure.specs.Choose.{choose, between}
use Rattle.measure.specs.Ranges.{subcell, settling as settling_count, sampling, quiet, pad_most, bits_most}
use Rattle.measure.specs.Ranges.{row_bits, rows_most, entries_most, capture_most, input_most, words_most, row_settings_fit}
use Rattle.measure.specs.Ranges.{log_records, record_bytes}
use Rattle.measure.specs.Lists.{first_above, some_above}
use Rattle.settings.specs.Margins.{Ends, zero_or_more}
use Rattle.settings.specs.Answers.{ends_fit}
use Rattle.settings.specs.Pick.{least, pickable}
use Rattle.settings.specs.Survey.{Region, boards, boards_most, lists_fit, first_unfit, report_of}
use Rattle.sender.specs.Sending.{wave, plan_wave, rows_of}
use Rattle.sender.specs.Answers.{fitting, padded}
use Rattle.stored.specs.Stored.{joined}
use Rattle.halfcells.specs.HalfCells.{words_of, first_no_edge, bytes_of}
use Rattle.halfcells.specs.Answers.{some_no_edge}
use Rattle.line.specs.Smooth.{smooth as smoothing}
use Rattle.line.specs.Warp.{warp as warping}
use Rattle.line.specs.Wander.{warp_by_lengths as warping_by_lengths}
use Rattle.line.specs.Settle.{settle as settling}
use Rattle.line.specs.Answers.{timed, lengths_fit}
use Rattle.board.specs.Feeding.{reports}
use Rattle.board.specs.Packed.{settings_of, state_of}
use Rattle.board.specs.WellFormed.{run_fits, run_level_fits, left_fits, found_fits, level_fits, unused_zero, well_formed}
use Rattle.board.specs.Answers.{levels_of, silent}
use Rattle.board.specs.declared.Receiver.{Receiver}
use Rattle.capture.specs.Numbers.{Group, value, cut, long, group, further}
use Rattle.capture.specs.Capture.{Heading, Capture, total_most, reads_of_runs}
use Rattle.capture.specs.Writing.{capture_of}
use Rattle.timecode.specs.Words.{word_places}
use Rattle.timecode.specs.Times.{time_fits, word_of}
use Rattle.bay_log.specs.Records.{Log}
use Rattle.bay_log.specs.Order.{listing, later}
use Rattle.bay_log.specs.Answers.{log_fits, count_holds}
use Rattle.region.specs.Lines.{report_lines}
use Rattle.siengulot.specs.Receivers.{Lent, named, numbers_fit, receiver_lent}
use Rattle.promises.specs.Promised.{Test, setting, limit, entries, entry, room}

-- R40, R74: the judges, over the ends of two clocks; those of steady clocks are the case of equal ends
abbrev pub judge : (a b g k : ℕ) (e : Ends) → List Test
judge a b g k e = setting (subcell a && subcell b && settling_count g && sampling k && ends_fit e) ∷ []

-- R41, R75
abbrev pub judge_quiet : (a b g k : ℕ) (e : Ends) (Q p1 : ℕ) → List Test
judge_quiet a b g k e Q p1 =
    setting
    ((subcell a && subcell b && settling_count g && sampling k && ends_fit e) && quiet Q && leb p1 pad_most)
    ∷ []

-- R58, R76, M31: the picker, where k is the best sampling count: refusal 9, unless its least margin is zero or more
abbrev pub pick : (a b g k : ℕ) (e : Ends) → List Test
pick a b g k e =
    setting (pickable a b g e)
    ∷ record { number = 9; place = 0; failed = not (zero_or_more (least a b g k e)) }
    ∷ []

-- R90: the survey: the first board with a setting out of range has its place
abbrev pub unfit : Region → Test
unfit s = record { number = 1; place = first_unfit s; failed = ltb (first_unfit s) (boards s) }

-- R90
abbrev pub survey : Region → List Test
survey s = setting (lists_fit s) ∷ unfit s ∷ limit boards_most s.a ∷ []

-- R91: its lines
abbrev pub survey_lines : (s : Region) (output : List ℕ) → List Test
survey_lines s output =
    setting (lists_fit s)
    ∷ unfit s
    ∷ limit boards_most s.a
    ∷ room (length (report_lines (report_of s))) output
    ∷ []

-- R42: sending; a plan is lent as its lead pads and the bits of all rows
abbrev pub send : (a b p1 : ℕ) (bits output : List ℕ) → List Test
send a b p1 bits output =
    setting (subcell a && subcell b && leb p1 pad_most)
    ∷ limit bits_most bits
    ∷ limit entries_most (wave a b p1 bits)
    ∷ entries 1 bits
    ∷ room (length (wave a b p1 bits)) output
    ∷ []

-- R43
abbrev pub send_plan : (a b n : ℕ) (leads bits output : List ℕ) → List Test
send_plan a b n leads bits output =
    setting (subcell a && subcell b && row_bits n && fitting n leads bits && padded leads)
    ∷ limit rows_most leads
    ∷ limit entries_most (plan_wave a b (rows_of n leads bits))
    ∷ entries 1 bits
    ∷ room (length (plan_wave a b (rows_of n leads bits))) output
    ∷ []

-- R59: reading a stored plan: the first row whose joined lead pad is too long has its place
abbrev pub too_long : (leads trails : List ℕ) → Test
too_long leads trails =
    record {
      number = 1;
      place = first_above pad_most (joined leads trails);
      failed = some_above pad_most (joined leads trails);
    }

-- R59
abbrev pub read_plan : (leads trails output : List ℕ) → List Test
read_plan leads trails output =
    setting (leb 1 (length leads) && eqb (length trails) (length leads) && padded leads && padded trails)
    ∷ too_long leads trails
    ∷ limit rows_most leads
    ∷ room (length leads) output
    ∷ []

-- R44: the three passes: smooth takes levels, warp unknowns too, and settle searches the reads before the choices
abbrev pub smooth : (g : ℕ) (levels output : List ℕ) → List Test
smooth g levels output =
    setting (settling_count g)
    ∷ limit entries_most levels
    ∷ entries 1 levels
    ∷ room (length (smoothing g levels)) output
    ∷ []

-- R45
abbrev pub warp : (w r p : ℕ) (levels output : List ℕ) → List Test
warp w r p levels output =
    setting (timed w r p)
    ∷ limit entries_most levels
    ∷ limit entries_most (warping w r p levels)
    ∷ entries 2 levels
    ∷ room (length (warping w r p levels)) output
    ∷ []

-- R72
abbrev pub warp_by_lengths : (w1 w2 r1 r2 p : ℕ) (cycles reads levels output : List ℕ) → List Test
warp_by_lengths w1 w2 r1 r2 p cycles reads levels output =
    setting (lengths_fit w1 w2 r1 r2 p cycles reads)
    ∷ limit entries_most levels
    ∷ limit entries_most cycles
    ∷ limit entries_most reads
    ∷ entries 2 levels
    ∷ room (length (warping_by_lengths p cycles reads levels)) output
    ∷ []

-- R46, R23
abbrev pub settle : (reads choices output : List ℕ) → List Test
settle reads choices output =
    limit entries_most reads
    ∷ limit entries_most choices
    ∷ entries 2 reads
    ∷ entries 1 choices
    ∷ room (length (settling reads choices)) output
    ∷ []

-- R47: the counted receiver asks room for n bits
abbrev pub count_bits : (k n level : ℕ) (reads output : List ℕ) → List Test
count_bits k n level reads output =
    setting (sampling k && leb n bits_most && leb level 1)
    ∷ limit entries_most reads
    ∷ entries 1 reads
    ∷ room n output
    ∷ []

-- R77: reading time code asks room for every word that is found, bad ones too
abbrev pub read_times : (bits output : List ℕ) → List Test
read_times bits output =
    limit entries_most bits ∷ entries 1 bits ∷ room (4 * length (word_places bits)) output ∷ []

-- R78: and writing it a time in range
abbrev pub write_time : (h m s f : ℕ) (output : List ℕ) → List Test
write_time h m s f output = setting (time_fits h m s f) ∷ room (length (word_of h m s f)) output ∷ []

-- R48: the row receiver; a list is refused for a read that is no level only where no event comes before it
abbrev pub fresh : (k n Q : ℕ) → List Test
fresh k n Q = setting (row_settings_fit k n Q) ∷ []

-- B20 to B25, B28, R49: what a well formed state has to pass, clause by clause
abbrev pub well_formed_by : (x : Receiver) → List Test
well_formed_by x =
    setting (row_settings_fit x.bare.settings.k.0 x.bare.settings.n x.bare.settings.q.0)
    ∷ setting (run_fits x.bare.numbers.mode x.bare.numbers.run.0 x.bare.settings.q.0)
    ∷ setting (run_level_fits x.bare.numbers.run.0 x.bare.numbers.runlevel)
    ∷ setting (left_fits x.bare.numbers.mode x.bare.numbers.left.0 x.bare.settings.k.0)
    ∷ setting (found_fits x.bare.numbers.mode x.bare.numbers.found x.bare.settings.n)
    ∷ setting (level_fits x.bare.numbers.mode x.bare.numbers.level x.bare.numbers.runlevel)
    ∷ setting (unused_zero x.bare.numbers.found x.bits)
    ∷ []

-- R50
abbrev pub step : (x : Receiver) (read : ℕ) → List Test
step x read = setting (well_formed x) ∷ entry 1 read ∷ []

-- R51
abbrev pub before_any_event : (x : Receiver) (reads : List ℕ) → Test
before_any_event x reads =
    record {
      number = 2;
      place = first_above 1 reads;
      failed = some_above 1 reads && silent (reports (settings_of x) (state_of x) 0 (levels_of reads));
    }

-- R51
abbrev pub listen : (x : Receiver) (reads : List ℕ) → List Test
listen x reads = setting (well_formed x) ∷ limit entries_most reads ∷ before_any_event x reads ∷ []

-- H8: from C: first the lent numbers have to make a receiver
abbrev pub step_from_c : (lent : Lent) (read : ℕ) → List Test
step_from_c lent read =
    setting (numbers_fit (named lent.numbers))
    ∷ step (receiver_lent (named lent.numbers) lent.bytes) read

-- H8
abbrev pub listen_from_c : (lent : Lent) (reads : List ℕ) → List Test
listen_from_c lent reads =
    setting (numbers_fit (named lent.numbers))
    ∷ listen (receiver_lent (named lent.numbers) lent.bytes) reads

-- F21: what stands at a place of a capture: a number's value and how many bytes it has, 0 where there is none
abbrev pub at : List ℕ → ℕ → Group
at bytes place = group further (drop place bytes)

-- F1
abbrev pub value_of : Group → ℕ
value_of (value v size) = v
value_of cut = 0
value_of long = 0

-- F1
abbrev pub size_of : Group → ℕ
size_of (value v size) = size
size_of cut = 0
size_of long = 0

-- R6
abbrev pub is_cut : Group → Bool
is_cut (value v size) = false
is_cut cut = true
is_cut long = false

-- R7
abbrev pub is_long : Group → Bool
is_long (value v size) = false
is_long cut = false
is_long long = true

-- R6, R7: a number is there: 6 where the bytes end before it or in it, 7 where it is not in shortest form or too long
abbrev pub number : (bytes : List ℕ) (place : ℕ) → List Test
number bytes place =
    record { number = 6; place = place; failed = is_cut (at bytes place) }
    ∷ record { number = 7; place = place; failed = is_long (at bytes place) }
    ∷ []

-- R8: and it is in range for its place: 8
abbrev pub in_range : (ℕ → Bool) → (bytes : List ℕ) (place : ℕ) → List Test
in_range fits bytes place =
    number bytes place ++ (record { number = 8; place = place; failed = not (fits (value_of (at bytes place))) } ∷ [])

-- F21: the place after a number, and those of the second, third and fourth number and of the first run
abbrev pub next : (bytes : List ℕ) (place : ℕ) → ℕ
next bytes place = place + size_of (at bytes place)

-- F24
abbrev pub second : List ℕ → ℕ
second bytes = next bytes 0

-- F24
abbrev pub third : List ℕ → ℕ
third bytes = next bytes (second bytes)

-- F24
abbrev pub fourth : List ℕ → ℕ
fourth bytes = next bytes (third bytes)

-- F24
abbrev pub first_run : List ℕ → ℕ
first_run bytes = next bytes (fourth bytes)

-- R53: a capture's header: not too many bytes, then number by number from the left
abbrev pub header : (bytes : List ℕ) → List Test
header bytes =
    limit capture_most bytes
    ∷ (in_range sampling bytes 0
    ++ (in_range row_bits bytes (second bytes)
    ++ (in_range quiet bytes (third bytes)
    ++ in_range (between 0 1) bytes (fourth bytes))))

-- R8, F12: its runs from a place on, so many at most, after runs with this total: each at least 1, and together not too
-- many
unfoldable pub runs : (most total place : ℕ) (bytes : List ℕ) → List Test
runs zero total place bytes = []
runs (suc most) total place bytes =
    choose (leb (length bytes) place) []
    (in_range (λ run. leb 1 run && leb (total + run) total_most) bytes place
    ++ runs most (total + value_of (at bytes place)) (next bytes place) bytes)

-- R8, R28: no first level of 0 without a run
abbrev pub some_run : (bytes : List ℕ) → Test
some_run bytes =
    record {
      number = 8;
      place = fourth bytes;
      failed = eqb (value_of (at bytes (fourth bytes))) 0 && leb (length bytes) (first_run bytes);
    }

-- R54, R21: a capture
abbrev pub capture : (bytes : List ℕ) → List Test
capture bytes = header bytes ++ (runs (length bytes) 0 (first_run bytes) bytes ++ (some_run bytes ∷ []))

-- F10: the runs that are there
unfoldable pub runs_in : (most place : ℕ) (bytes : List ℕ) → List ℕ
runs_in zero place bytes = []
runs_in (suc most) place bytes =
    choose (leb (length bytes) place) [] (value_of (at bytes place) ∷ runs_in most (next bytes place) bytes)

-- F24: what a header and a capture say: the numbers, one after another
abbrev pub heading : (bytes : List ℕ) → Heading
heading bytes =
    record {
      k = value_of (at bytes 0);
      n = value_of (at bytes (second bytes));
      Q = value_of (at bytes (third bytes));
      level = value_of (at bytes (fourth bytes));
      level_at = fourth bytes;
      after = first_run bytes;
    }

-- F10
abbrev pub captured : (bytes : List ℕ) → Capture
captured bytes =
    record {
      k = value_of (at bytes 0);
      n = value_of (at bytes (second bytes));
      Q = value_of (at bytes (third bytes));
      level = value_of (at bytes (fourth bytes));
      runs = runs_in (length bytes) (first_run bytes) bytes;
    }

-- F11
abbrev pub reads_in : (bytes : List ℕ) → List ℕ
reads_in bytes = reads_of_runs (captured bytes).level (captured bytes).runs

-- R55: reading a capture asks room for its reads, last
abbrev pub read_capture : (bytes output : List ℕ) → List Test
read_capture bytes output = capture bytes ++ (room (length (reads_in bytes)) output ∷ [])

-- R56: writing one
abbrev pub write_capture : (k n Q : ℕ) (reads output : List ℕ) → List Test
write_capture k n Q reads output =
    setting (row_settings_fit k n Q)
    ∷ limit entries_most reads
    ∷ entries 1 reads
    ∷ room (length (capture_of k n Q reads)) output
    ∷ []

-- R12: a read number is above those of all records in use
abbrev pub later_than_all : (number : ℕ) → Log → Test
later_than_all number log =
    record { number = 12; place = 0; failed = not (later log.numbers log.free number log_records) }

-- R13: the stored count is that of the broken records
abbrev pub true_count : Log → Test
true_count log = record { number = 13; place = 0; failed = not (count_holds log) }

-- R80: logging an event
abbrev pub log_event : (number : ℕ) (bits : List ℕ) (count : ℕ) → Log → List Test
log_event number bits count log =
    setting (log_fits log && eqb (length bits) record_bytes && leb count bits_most)
    ∷ true_count log
    ∷ later_than_all number log
    ∷ []

-- R81: clearing a record
abbrev pub log_clear : (place : ℕ) → Log → List Test
log_clear place log = setting (log_fits log && ltb place log_records) ∷ true_count log ∷ []

-- R82: listing the records in use
abbrev pub log_list : (numbers free output : List ℕ) → List Test
log_list numbers free output =
    setting (eqb (length numbers) log_records && eqb (length free) log_records)
    ∷ room (length (listing numbers free)) output ∷ []

-- R70: encoding to words of half cells
abbrev pub encode : (bytes output : List ℕ) → List Test
encode bytes output = limit words_most bytes ∷ room (length (words_of bytes)) output ∷ []

-- R11: each cell of words has an edge at its start
abbrev pub edges : (words : List ℕ) → Test
edges words = record { number = 11; place = first_no_edge words; failed = some_no_edge words }

-- R71: decoding them
abbrev pub decode : (words output : List ℕ) → List Test
decode words output = limit words_most words ∷ edges words ∷ room (length (bytes_of words)) output ∷ []

-- E5, E6: the rows program takes so many bytes, and these have to be a capture
abbrev pub rows : (input : List ℕ) → List Test
rows input = limit input_most input ∷ capture input
