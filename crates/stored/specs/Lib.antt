pub mod Stored
pub mod Answers
pub mod Shown
pub mod Cases
