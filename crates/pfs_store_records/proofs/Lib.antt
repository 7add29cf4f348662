mod HalfOpens
mod Joining
pub mod NodeLaws
pub mod OneNode
mod Ordered
mod Passing
mod RecordLaws
mod Reversed
pub mod Rising
pub mod Searches
pub mod TallyLaws
pub mod Walking
