pub mod CasesHold
pub mod Bits
pub mod Longest
pub mod TurnLines
pub mod ReportLines
pub mod WholeOutput
