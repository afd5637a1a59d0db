-- One row and its words, tables of rows, stores
pub mod OneRow
pub mod Tables
pub mod Stored
pub mod WellFormedWords
pub mod PackedCalls
