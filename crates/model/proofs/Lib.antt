-- Tables, proved by computing: the empty catalogue, worked schedules, states made by hand, counts, packed rows, files
pub mod Empty
pub mod Computed
pub mod Worked
pub mod HandMade
pub mod CountTable
pub mod PackedTable
pub mod Example
-- Laws of every call, for any state and any numbers
pub mod Choices
pub mod Refusals
pub mod RefusalOrder
pub mod RefusedCalls
pub mod RefusedTurns
pub mod RefusedFiles
pub mod Answers
pub mod TurnCount
pub mod OneOutcome
