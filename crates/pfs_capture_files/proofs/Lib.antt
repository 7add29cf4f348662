pub mod Powers
pub mod OptionLaws
pub mod FormLaws
pub mod StartLaws
pub mod Octets
mod Worked
