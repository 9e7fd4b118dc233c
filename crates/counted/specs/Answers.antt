-- Rules C and R: what it answers and leaves in the lent output, for all input, and what each case of the code says.
use Rattle.std.specs.Prelude.{ℕ, Bool, ◌&&◌, List, length, leb, ltb, eqb, Result, Ok, Err}
use Rattle.measure.specs.Choose.{choose}
use Rattle.measure.specs.Ranges.{sampling, bits_most, entries_most}
use Rattle.measure.specs.Lists.{onto}
use Rattle.measure.specs.Refusals.{Answer, given, refused, refused_after, denied, ranged, limited, entered}
use Rattle.counted.specs.Counted.{counted, current}
use Rattle.counted.specs.declared.Found.{Found}
use Rattle.counted.specs.declared.Stop.{Stop}
use Rattle.counted.specs.declared.Stop.TheVariants.{RanOut, Refused}

-- C6, C7, R5, R31: The bits found stand at the output's front, also where they are fewer than asked for, which is
-- refusal 5 and says how many they are. The place of the current read comes with both.
abbrev pub counted_into : (n : ℕ) (bits : List ℕ) (at : ℕ) (output : List ℕ) → Answer (ℕ × ℕ) × List ℕ
counted_into n bits at output =
    (choose (eqb (length bits) n) (given (n, at)) (refused_after 5 at (length bits)), onto bits output)

-- k, n and the level in force are in range
abbrev pub counted_in_range : (k n level : ℕ) → Bool
counted_in_range k n level = sampling k && leb n bits_most && leb level 1

-- R47: Refusal 1 for k, n or the level in force out of range, 3 for a list of reads over its limit, 2 for an entry that
-- is no level, 4 for an output shorter than n bits, then 5.
unfoldable pub counted_bits : (k n level : ℕ) (reads output : List ℕ) → Answer (ℕ × ℕ) × List ℕ
counted_bits k n level reads output =
    ranged (counted_in_range k n level) output
    (limited entries_most (length reads) output
    (entered 1 reads output
    (choose (ltb (length output) n) (refused 4 0, output)
    (counted_into n (counted k n level reads) (current k n level reads) output))))

-- A8: what each case of the code's answer says
abbrev pub counted_says : Result Found Stop → Answer (ℕ × ℕ)
counted_says (Ok found) = given (found.bits, found.at)
counted_says (Err (RanOut found)) = refused_after 5 found.at found.bits
counted_says (Err (Refused refusal)) = denied refusal
