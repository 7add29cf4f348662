pub mod OptionLaws
pub mod PhraseLaws
pub mod ReadLaws
