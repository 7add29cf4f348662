pub mod Grammar
pub mod Reading
pub mod Repeats
pub mod Sides
pub mod Values
