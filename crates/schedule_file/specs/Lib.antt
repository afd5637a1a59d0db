pub mod Records
pub mod Positions
pub mod OneOutcome
