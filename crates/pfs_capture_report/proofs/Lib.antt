pub mod Framed
pub mod Founds
pub mod Octets
pub mod Reading
