pub mod Asking
pub mod Clips
pub mod Counting
pub mod Naming
pub mod Texts
pub mod Running
pub mod Together
