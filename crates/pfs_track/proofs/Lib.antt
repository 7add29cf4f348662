pub mod DoneLaws
