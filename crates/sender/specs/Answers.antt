-- Rules S and R: what sending a message and sending a plan answer and leave in the lent output, for all input, and what
-- each case of the code says.
use Rattle.std.specs.Prelude.{ℕ, ◌*◌, Bool, ◌&&◌, not, List, length, leb, eqb, Result}
use Rattle.measure.specs.Ranges.{subcell, pad_most, bits_most, row_bits, rows_most, entries_most}
use Rattle.measure.specs.Lists.{some_above}
use Rattle.measure.specs.Refusals.{Answer, says, ranged, limited, entered, lent}
use Rattle.sender.specs.Sending.{wave, plan_wave, rows_of}
use Rattle.measure.specs.declared.Refusal.{Refusal}
use Rattle.measure.specs.declared.WriterCycles.{WriterCycles}

-- a, b and the lead pad of a message are in range
abbrev pub message_in_range : (a b p1 : ℕ) → Bool
message_in_range a b p1 = subcell a && subcell b && leb p1 pad_most

-- R42: a message: refusal 1 for a, b or the pad out of range, 3 for more than 1,024 bits or a wave over its limit, 2
-- for an entry that is no bit
unfoldable pub sent_message : (a b p1 : ℕ) (bits output : List ℕ) → Answer ℕ × List ℕ
sent_message a b p1 bits output =
    ranged (message_in_range a b p1) output
    (limited bits_most (length bits) output
    (limited entries_most (length (wave a b p1 bits)) output
    (entered 1 bits output
    (lent (wave a b p1 bits) output))))

-- S23: the lists of a plan fit one another: there is a row, and there are n bits for each row
abbrev pub fitting : (n : ℕ) (leads bits : List ℕ) → Bool
fitting n leads bits = leb 1 (length leads) && eqb (length bits) (length leads * n)

-- N7: each pad of a list is in range
abbrev pub padded : List ℕ → Bool
padded pads = not (some_above pad_most pads)

-- a, b, n and all pads of a plan are in range, and its lists fit one another
abbrev pub plan_in_range : (a b n : ℕ) (leads bits : List ℕ) → Bool
plan_in_range a b n leads bits = subcell a && subcell b && row_bits n && fitting n leads bits && padded leads

-- R43: a plan: refusal 1 for a, b, n or a pad out of range and for lists that do not fit, 3 for more than 1,024 rows or
-- a wave over its limit, 2 for an entry that is no bit
unfoldable pub sent_plan : (a b n : ℕ) (leads bits output : List ℕ) → Answer ℕ × List ℕ
sent_plan a b n leads bits output =
    ranged (plan_in_range a b n leads bits) output
    (limited rows_most (length leads) output
    (limited entries_most (length (plan_wave a b (rows_of n leads bits))) output
    (entered 1 bits output
    (lent (plan_wave a b (rows_of n leads bits)) output))))

-- A8: what each case of the code's answer says
abbrev pub sent_says : Result WriterCycles Refusal → Answer ℕ
sent_says answer = says (λ cycles. cycles.0) answer
