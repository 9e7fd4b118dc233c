-- Rules L and R: what each pass answers and leaves in the lent output, for all input, and what each case of the code
-- says.
use Rattle.std.specs.Prelude.{ℕ, Bool, true, ◌&&◌, List, [], ◌∷◌, length, leb, ltb, Result}
use Rattle.measure.specs.Choose.{between}
use Rattle.measure.specs.Ranges.{settling, cycle_length, entries_most}
use Rattle.measure.specs.Refusals.{Answer, says, ranged, limited, entered, lent}
use Rattle.line.specs.Smooth.{smooth}
use Rattle.line.specs.Warp.{warp}
use Rattle.line.specs.Wander.{warp_by_lengths}
use Rattle.line.specs.Settle.{settle}
use Rattle.measure.specs.declared.Refusal.{Refusal}
use Rattle.measure.specs.declared.WriterCycles.{WriterCycles}
use Rattle.measure.specs.declared.ReadCycles.{ReadCycles}

-- R44: smooth takes levels: a 2 is refused
unfoldable pub smoothed : (g : ℕ) (levels output : List ℕ) → Answer ℕ × List ℕ
smoothed g levels output =
    ranged (settling g) output
    (limited entries_most (length levels) output
    (entered 1 levels output
    (lent (smooth g levels) output)))

-- N4, N5, N6: w and r are in range and p is below w
abbrev pub timed : (w r p : ℕ) → Bool
timed w r p = cycle_length w && cycle_length r && ltb p w

-- R45: warp takes levels and unknowns; refusal 3 also where the reads would be over the limit
unfoldable pub warped : (w r p : ℕ) (levels output : List ℕ) → Answer ℕ × List ℕ
warped w r p levels output =
    ranged (timed w r p) output
    (limited entries_most (length levels) output
    (limited entries_most (length (warp w r p levels)) output
    (entered 2 levels output
    (lent (warp w r p levels) output))))

-- N14 to N17: the least and the greatest length are in range and in order
abbrev pub bounds_fit : (least most : ℕ) → Bool
bounds_fit least most = cycle_length least && cycle_length most && leb least most

-- N18, N19: each length of a list is from the least to the greatest
unfoldable pub all_between : (least most : ℕ) (lengths : List ℕ) → Bool
all_between least most [] = true
all_between least most (one ∷ lengths) = between least most one && all_between least most lengths

-- N6: p is below the first writer cycle's length; where there is none, p is not asked about
abbrev pub phase_fits : (p : ℕ) (cycles : List ℕ) → Bool
phase_fits p [] = true
phase_fits p (first ∷ cycles) = ltb p first

-- N14 to N19, N6: all that refusal 1 asks of warp by lengths
abbrev pub lengths_fit : (w1 w2 r1 r2 p : ℕ) (cycles reads : List ℕ) → Bool
lengths_fit w1 w2 r1 r2 p cycles reads =
    bounds_fit w1 w2 && bounds_fit r1 r2 && all_between w1 w2 cycles && all_between r1 r2 reads && phase_fits p cycles

-- R72: warp by lengths takes levels and unknowns; refusal 3 for the wave and for each list of lengths
unfoldable pub warped_by_lengths : (w1 w2 r1 r2 p : ℕ) (cycles reads levels output : List ℕ) → Answer ℕ × List ℕ
warped_by_lengths w1 w2 r1 r2 p cycles reads levels output =
    ranged (lengths_fit w1 w2 r1 r2 p cycles reads) output
    (limited entries_most (length levels) output
    (limited entries_most (length cycles) output
    (limited entries_most (length reads) output
    (entered 2 levels output
    (lent (warp_by_lengths p cycles reads levels) output)))))

-- R46, R23: settle takes reads, known or not, and choices; a bad read is found before a bad choice
unfoldable pub settled : (reads choices output : List ℕ) → Answer ℕ × List ℕ
settled reads choices output =
    limited entries_most (length reads) output
    (limited entries_most (length choices) output
    (entered 2 reads output
    (entered 1 choices output
    (lent (settle reads choices) output))))

-- A8: what each case of the code's answers says
abbrev pub smoothed_says : Result WriterCycles Refusal → Answer ℕ
smoothed_says answer = says (λ cycles. cycles.0) answer

-- A8: the same of both warps and of settle
abbrev pub read_says : Result ReadCycles Refusal → Answer ℕ
read_says answer = says (λ reads. reads.0) answer
