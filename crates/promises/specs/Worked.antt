-- Rules P: the worked cases that are proved, P1 to P16, as a single table.
use Rattle.std.specs.Prelude.{List, ◌++◌}
use Rattle.measure.specs.Table.{Case, Agree}
use Rattle.sender.specs.Cases as Sender
use Rattle.stored.specs.Cases as Stored
use Rattle.line.specs.Cases as Line
use Rattle.counted.specs.Cases as Counted
use Rattle.settings.specs.Cases as Settings
use Rattle.capture.specs.Cases as Capture
use Rattle.halfcells.specs.Cases as HalfCells

-- P1, as it is sent and as it is stored; P2 to P6 and P12; P7; P8 to P10, P13, P14 and P16; P11; P15
abbrev pub table : List Case
table =
    Sender.cases ++ Stored.cases ++ Line.cases ++ Counted.cases ++ Settings.cases ++ Capture.cases ++ HalfCells.cases

-- P1 to P16: what the definitions give is what is printed, in every case of the table
abbrev pub WorkedCasesAgree : Type 0
WorkedCasesAgree = Agree table
