pub mod Checking
pub mod Ending
pub mod Replaying
pub mod Ruling
pub mod Tallied
pub mod Telling
