pub mod CasesHold
pub mod Marks
pub mod Samples
pub mod AllFound
pub mod Continuing
pub mod Later
pub mod Counting
