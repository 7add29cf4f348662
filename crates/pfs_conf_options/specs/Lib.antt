pub mod Options
pub mod Bounds
pub mod Reading
pub mod Grammar
