pub mod Sending
pub mod Answers
pub mod Cases
