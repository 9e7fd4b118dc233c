pub mod HalfCells
pub mod Words
pub mod Turns
pub mod Answers
pub mod Shown
pub mod Cases
