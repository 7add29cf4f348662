pub mod ReadingLaws
pub mod GroupingLaws
pub mod AskingLaws
pub mod FirstLaws
pub mod CommandLaws
