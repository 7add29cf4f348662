pub mod Groups
pub mod LetterSteps
pub mod Octets
pub mod PrefixParts
pub mod Texts
