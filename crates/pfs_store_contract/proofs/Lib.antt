pub mod AskingLaws
pub mod FilterLaws
pub mod LeavingLaws
pub mod LimitLaws
pub mod MomentLaws
pub mod Passages
pub mod Retentions
pub mod ScopeLaws
pub mod SliceLaws
mod Worked
