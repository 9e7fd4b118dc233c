-- Rules F, the other way: from reads to the bytes of a capture.
use Rattle.std.specs.Prelude.{ℕ, suc, List, [], ◌∷◌, ◌++◌, eqb}
use Rattle.measure.specs.Choose.{choose}
use Rattle.capture.specs.Numbers.{spelled}

-- F11: the lengths of the runs of equal reads, where the first run goes on from so many reads of a level
unfoldable pub runs_after : ℕ → ℕ → List ℕ → List ℕ
runs_after level count [] = count ∷ []
runs_after level count (read ∷ reads) =
    choose (eqb read level) (runs_after level (suc count) reads) (count ∷ runs_after read 1 reads)

-- F11: the lengths of all runs of reads
unfoldable pub runs_of : List ℕ → List ℕ
runs_of [] = []
runs_of (read ∷ reads) = runs_after read 1 reads

-- F13: the first level: 1 where there are no reads at all
abbrev pub first_level : List ℕ → ℕ
first_level [] = 1
first_level (read ∷ reads) = read

-- F1: numbers one after another
unfoldable pub numbers : List ℕ → List ℕ
numbers [] = []
numbers (v ∷ vs) = spelled v ++ numbers vs

-- F30: the capture of settings and reads
unfoldable pub capture_of : (k n Q : ℕ) (reads : List ℕ) → List ℕ
capture_of k n Q reads = numbers (k ∷ n ∷ Q ∷ first_level reads ∷ runs_of reads)
