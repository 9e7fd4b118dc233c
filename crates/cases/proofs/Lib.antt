pub mod Signs
pub mod Entries
pub mod Laying
pub mod Listing
