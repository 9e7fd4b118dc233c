pub mod Numbers
pub mod Capture
pub mod Writing
pub mod Answers
pub mod Held
pub mod RoundTrips
pub mod Cases
