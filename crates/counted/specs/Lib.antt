pub mod Counted
pub mod Answers
pub mod Continued
pub mod Cases
