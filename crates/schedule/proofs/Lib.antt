-- What a whole run prints
pub mod Whole
-- The array of a text that grows
pub mod Longer
