pub mod Across
pub mod Levels
pub mod Recovered
pub mod Brought
pub mod CallAfterCall
