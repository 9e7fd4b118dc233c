-- Each room's cases hold, and tables that agree agree one after another.
use mathlib.Core.List.{List, [], ◌∷◌, ◌++◌}
use Rattle.measure.specs.Table.{Case, Agree}
use Rattle.sender.specs.Cases as Sender
use Rattle.stored.specs.Cases as Stored
use Rattle.line.specs.Cases as Line
use Rattle.counted.specs.Cases as Counted
use Rattle.settings.specs.Cases as Settings
use Rattle.capture.specs.Cases as Capture
use Rattle.halfcells.specs.Cases as HalfCells
use Rattle.sender.proofs.CasesHold as SenderHold
use Rattle.stored.proofs.CasesHold as StoredHold
use Rattle.line.proofs.CasesHold as LineHold
use Rattle.counted.proofs.CasesHold as CountedHold
use Rattle.settings.proofs.CasesHold as SettingsHold
use Rattle.capture.proofs.CasesHold as CaptureHold
use Rattle.halfcells.proofs.CasesHold as HalfCellsHold
use Rattle.promises.specs.Worked.{WorkedCasesAgree}

joined : (one other : List Case) → Agree one → Agree other → Agree (one ++ other)
joined [] other x y = y
joined (c ∷ one) other x y = (x.0, joined one other x.1 y)

pub worked_cases_agree : WorkedCasesAgree
worked_cases_agree =
    joined Sender.cases
    (Stored.cases ++ Line.cases ++ Counted.cases ++ Settings.cases ++ Capture.cases ++ HalfCells.cases)
    SenderHold.cases_hold
    (joined Stored.cases (Line.cases ++ Counted.cases ++ Settings.cases ++ Capture.cases ++ HalfCells.cases)
    StoredHold.cases_hold
    (joined Line.cases (Counted.cases ++ Settings.cases ++ Capture.cases ++ HalfCells.cases) LineHold.cases_hold
    (joined Counted.cases (Settings.cases ++ Capture.cases ++ HalfCells.cases) CountedHold.cases_hold
    (joined Settings.cases (Capture.cases ++ HalfCells.cases) SettingsHold.cases_hold
    (joined Capture.cases HalfCells.cases CaptureHold.cases_hold HalfCellsHold.cases_hold)))))
