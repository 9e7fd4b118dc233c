pub mod Words
pub mod Lines
pub mod Answers
pub mod Walk
pub mod Cases
