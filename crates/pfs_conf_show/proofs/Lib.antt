pub mod ListLaws
pub mod ItemLaws
