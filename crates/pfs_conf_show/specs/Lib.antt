pub mod Pieces
pub mod Settings
pub mod Tables
pub mod Filters
pub mod Options
pub mod Texts
