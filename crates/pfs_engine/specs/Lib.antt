pub mod Calls
pub mod Contents
pub mod Guarding
pub mod Meters
pub mod OverloadRoom
pub mod Packets
pub mod Views
pub mod Ways
