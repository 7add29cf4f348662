mod Laying
pub mod PaddedNames
pub mod PrefixLaws
pub mod SameLaws
mod WideLaws
