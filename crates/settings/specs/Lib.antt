pub mod Margins
pub mod Answers
pub mod Cases
pub mod Pick
pub mod PickShown
pub mod Turning
pub mod Survey
pub mod Sifting
