pub mod Mistakes
pub mod Groups
pub mod Asked
pub mod Requests
