pub mod Holder
pub mod Loops
pub mod OneOutcome
