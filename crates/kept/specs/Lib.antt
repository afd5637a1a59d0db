-- Conditions, lists and standings
pub mod Conditions
pub mod Stores
pub mod Standing
pub mod FreeRows
pub mod IdleLine
-- The ways of a call, sizes, and a well-formed state clause by clause
pub mod Ways
pub mod Sized
pub mod WellFormedFacts
pub mod LineNumbers
-- Every line's effect is sound
pub mod NextLine
pub mod Sound
pub mod SoundInsert
pub mod SoundDelete
pub mod SoundSearch
pub mod SoundHelp
pub mod EffectSound
-- So every call keeps what it keeps
pub mod HelpsAfter
pub mod Replaced
pub mod WellFormedKept
pub mod TurnSteps
pub mod SavesKept
