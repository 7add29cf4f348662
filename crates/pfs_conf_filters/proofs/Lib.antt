pub mod OnlineLaws
pub mod PhraseLaws
pub mod ReadLaws
