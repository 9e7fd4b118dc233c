-- A stretch of a plan's settled reads that is replaced by any others: which lead cycles are read wholly after it, and
-- where it moves the reports.
use Rattle.std.specs.Prelude.{ℕ, ◌+◌, ◌-◌, ◌≤◌, ◌<◌, Bool, List, [], ◌∷◌, ◌++◌, length, take, drop, ltb}
use Rattle.line.specs.Sharing.{Shares}
use Rattle.board.specs.Feeding.{Report}
use Rattle.promises.specs.Places.{Scene, keep}

-- D11: the settled reads, those from place i up to j replaced
abbrev pub damaged : (x : Scene) (i j : ℕ) (junk : List ℕ) → List ℕ
damaged x i j junk = take i x.reads ++ junk ++ drop j x.reads

-- D12: which lead cycles count after a stretch that ends before place j, so many from this cycle on: no read that
-- overlaps one of them in time stands before j.
abbrev pub WhollyAfter : (x : Scene) (cycle lead j : ℕ) → Type 0
WhollyAfter x cycle lead j =
    (i read : ℕ) → cycle ≤ i → i < cycle + lead → read < length x.reads
    → Shares x.starts x.begins read i → j ≤ read

-- D16, D17: the reports whose places pass a test; those below a place and those above it
unfoldable pub reports_at : (ℕ → Bool) → List Report → List Report
reports_at test [] = []
reports_at test (report ∷ reports) = keep (test report.place) report (reports_at test reports)

-- D16
abbrev pub below : ℕ → List Report → List Report
below place reports = reports_at (λ at. ltb at place) reports

-- D17, D18
abbrev pub above : ℕ → List Report → List Report
above place reports = reports_at (λ at. ltb place at) reports

-- D19: reports of reads that stood at j or later, each at the place to which the stretch moves its read
unfoldable pub moved : (i j : ℕ) (junk : List ℕ) → List Report → List Report
moved i j junk [] = []
moved i j junk (report ∷ reports) =
    record { place = i + length junk + (report.place - j); event = report.event } ∷ moved i j junk reports
