mod Additions
mod Alike
pub mod Answering
pub mod Changes
mod Connections
mod CookieEnds
mod CookieLives
pub mod Counts
pub mod GuardLaws
pub mod GuardTurns
mod Hearing
mod HeldNumbers
mod Histories
pub mod KeptAdmission
pub mod KeptHandshakes
pub mod KeptPackets
pub mod KeptTime
pub mod Keys
pub mod Leading
mod Limits
mod Lists
pub mod Numbers
pub mod OptionLaws
mod PacketChanges
pub mod RecordRuns
mod Remembering
pub mod Renewals
pub mod Reopening
mod Replies
mod Rounds
mod RunActs
pub mod Running
pub mod Scopes
pub mod Shares
mod Small
mod Staling
mod Untouched
mod WithinLimits
mod Worked
mod WorkedActs
