pub mod Crossing
pub mod Picking
pub mod StoredPlans
pub mod Logs
pub mod Surveys
pub mod Receivers
