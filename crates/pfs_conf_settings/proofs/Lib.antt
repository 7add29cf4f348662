pub mod DraftLaws
mod EntryLaws
mod FinishLaws
pub mod MoreTables
pub mod NamingLaws
pub mod OrderLaws
pub mod RouteDrafts
pub mod RouteLaws
pub mod RoutePhrases
pub mod SettingLaws
pub mod SettingPhrases
mod Stopping
pub mod SyncookieLaws
pub mod SyncookiePhrases
pub mod TableLaws
pub mod TablePhrases
pub mod TimeoutKeys
