pub mod OneOutcome
pub mod Written
