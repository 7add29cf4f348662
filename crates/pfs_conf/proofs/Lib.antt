pub mod OrderLaws
pub mod LexedLaws
pub mod WithinLaws
pub mod OnlineLaws
pub mod PhraseLaws
pub mod KeepLaws
pub mod ReadLaws
pub mod UnbrokenLaws
pub mod UnbrokenPhrases
pub mod BreakLaws
pub mod BraceLaws
pub mod BracePhrases
pub mod PlaceLaws
pub mod LoadLaws
mod Worked
