pub mod Records
pub mod Lent
pub mod Order
pub mod ReadOrder
pub mod Answers
pub mod Spot
pub mod Sequence
pub mod LastEvents
