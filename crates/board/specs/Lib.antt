pub mod Rows
pub mod Feeding
pub mod Packed
pub mod WellFormed
pub mod Answers
pub mod EveryStep
pub mod Listening
pub mod Crossed
