pub mod Result
pub mod OneOutcome
