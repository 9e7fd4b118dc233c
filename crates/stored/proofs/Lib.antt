pub mod CasesHold
pub mod Joins
pub mod Lengths
pub mod ShownHolds
pub mod Over
