pub mod RuleLaws
pub mod SettledLaws
mod Worked
