-- Rules F and R: what the operations on captures answer and leave in the lent output, for all input, and what each case
-- of the code says.
use Rattle.std.specs.Prelude.{ℕ, List, length, ltb, Result, Ok, Err}
use Rattle.measure.specs.Choose.{choose}
use Rattle.measure.specs.Ranges.{entries_most, row_settings_fit}
use Rattle.measure.specs.Lists.{onto}
use Rattle.measure.specs.Refusals.{Answer, given, refused, refused_after, says, ranged, limited, entered, lent}
use Rattle.capture.specs.Numbers.{Group, value, cut, long, Numeral}
use Rattle.capture.specs.Capture.{Heading, Capture, then, capture, reads_of_runs}
use Rattle.capture.specs.Writing.{capture_of}
use Rattle.measure.specs.declared.Refusal.{Refusal}
use Rattle.measure.specs.declared.Refusal.TheVariants.{Cut as CutAt, Form}
use Rattle.capture.specs.declared.reading.Front.{Front}
use Rattle.capture.specs.declared.reading.Fault.{Fault}
use Rattle.capture.specs.declared.reading.Fault.TheVariants.{Cut, Long}
use Rattle.capture.specs.declared.Number.{Number}
use Rattle.capture.specs.declared.Header.{Header}
use Rattle.capture.specs.declared.Summary.{Summary}

-- F14: a capture's settings, and how many reads and runs it has
abbrev pub summary : Capture → Summary
summary c =
    record {
      settings = record { k = record { 0 = c.k }; n = c.n; q = record { 0 = c.Q } };
      reads = record { 0 = length (reads_of_runs c.level c.runs) };
      runs = length c.runs;
    }

-- R54: checking: the summary, or the capture's refusal
abbrev pub summed_up : Answer Capture → Answer Summary
summed_up answer = then answer (λ c. given (summary c))

-- R54
unfoldable pub checked : List ℕ → Answer Summary
checked bytes = summed_up (capture bytes)

-- R55: a capture's reads into a lent output: refusal 4 comes after all the rest
abbrev pub unrolled : Answer Capture → List ℕ → Answer Summary × List ℕ
unrolled (given c) output =
    choose (ltb (length output) (length (reads_of_runs c.level c.runs))) (refused 4 0, output)
    (given (summary c), onto (reads_of_runs c.level c.runs) output)
unrolled (refused number place) output = (refused number place, output)
unrolled (refused_after number place count) output = (refused_after number place count, output)

-- R55: reading: the same of the capture that the bytes spell out
unfoldable pub read_back : List ℕ → List ℕ → Answer Summary × List ℕ
read_back bytes output = unrolled (capture bytes) output

-- R56: writing: refusal 1 for k, n or Q out of range, 3 for reads over their limit, 2 for an entry that is no level, 4
unfoldable pub written : (k n Q : ℕ) (reads output : List ℕ) → Answer ℕ × List ℕ
written k n Q reads output =
    ranged (row_settings_fit k n Q) output
    (limited entries_most (length reads) output
    (entered 1 reads output
    (lent (capture_of k n Q reads) output)))

-- A8: the refusal of a number that does not stand at a place
abbrev pub fault_at : ℕ → Fault → Refusal
fault_at place Cut = CutAt place
fault_at place Long = Form place

-- A8: what each case of the code's answers says
abbrev pub front_says : Result Front Fault → Group
front_says (Ok front) = value front.value front.size
front_says (Err Cut) = cut
front_says (Err Long) = long

-- A8
abbrev pub number_says : Result Number Refusal → Answer Numeral
number_says answer = says (λ number. record { value = number.value; after = number.after }) answer

-- A8
abbrev pub headed : Header → Heading
headed h =
    record {
      k = h.settings.k.0;
      n = h.settings.n;
      Q = h.settings.q.0;
      level = h.level;
      level_at = h.level_at;
      after = h.after;
    }

-- A8
abbrev pub head_says : Result Header Refusal → Answer Heading
head_says answer = says headed answer

-- A8
abbrev pub checked_says : Result Summary Refusal → Answer Summary
checked_says answer = says (λ summary. summary) answer

-- A8
abbrev pub written_says : Result ℕ Refusal → Answer ℕ
written_says answer = says (λ size. size) answer
