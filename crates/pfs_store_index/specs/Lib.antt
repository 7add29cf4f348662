pub mod Filed
pub mod Holdings
pub mod IndexInvariants
pub mod QuietPurges
pub mod Rounds
pub mod Staying
pub mod Stored
