pub mod Turning
pub mod Filling
pub mod Rooms
