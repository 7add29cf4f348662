pub mod Columns
pub mod Events
pub mod Reading
pub mod Rows
pub mod Traces
