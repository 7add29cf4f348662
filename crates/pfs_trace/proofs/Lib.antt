pub mod Again
pub mod Fields
pub mod Heading
pub mod Rest
pub mod Stepping
