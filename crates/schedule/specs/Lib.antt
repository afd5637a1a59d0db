pub mod Padded
pub mod Shown
pub mod Digits
pub mod Lines
pub mod Rows
pub mod Events
pub mod Whole
pub mod OneOutcome
