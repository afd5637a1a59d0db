pub mod Steps
pub mod Tables
pub mod Calls
pub mod OneOutcome
