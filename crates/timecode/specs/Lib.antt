pub mod Words
pub mod Times
pub mod Answers
pub mod Carried
pub mod RoundTrips
