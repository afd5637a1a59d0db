-- The statement: Demand, in specs/. Its proof: OrderTheorem. From the one to the other in five parts.

-- Numbers and lists
pub mod Compared
pub mod Distinct
pub mod Picked
pub mod Stack
-- 1. The row table: its structure, the eight moves, and that each keeps the structure
pub mod Table
pub mod Structure
pub mod StructureFacts
pub mod EmptyTable
pub mod Moves
pub mod Unchanged
pub mod LinkKeeps
pub mod MarkKeeps
pub mod UnlinkKeeps
pub mod FlagKeeps
pub mod BacklinkKeeps
pub mod PrivateKeeps
pub mod MovesKeep
pub mod MarkOf
pub mod Timeline
-- 2. The chain and its map
pub mod Chain
pub mod Walk
pub mod TableMap
pub mod MapMoves
pub mod MapOfTable
pub mod ChainMap
pub mod Asking
pub mod OneRequest
-- 3. What each line knows of the present table, and that every line does one of the moves
pub mod Facts
pub mod StableFacts
pub mod LineConditions
pub mod Writes
pub mod Lawful
pub mod InsertSteps
pub mod DeleteSteps
pub mod HelpMarkedSteps
pub mod HelpSteps
pub mod SearchSteps
pub mod EveryLine
-- Every reached state: sound, each flag with an owner, never refused with 4 or 5
pub mod Events
pub mod Sound
pub mod SoundKept
pub mod LineKnows
pub mod Owners
pub mod Time
pub mod Reached
pub mod EightHelps
pub mod NeverRefused
-- 4. What each line remembers of the time since its submit, and that every answer was right at a moment since
pub mod Memory
pub mod InsertMemory
pub mod DeleteMemory
pub mod SearchMemory
pub mod HelpMemory
pub mod LineMemory
pub mod Running
pub mod Courses
-- 5. The order of a run: who changes the map at which step, who reads it at which moment
pub mod MapAt
pub mod Moments
pub mod Removals
pub mod MapChanges
pub mod Causes
pub mod Fates
pub mod Placing
pub mod OrderOfRun
pub mod Replay
pub mod FullAnswer
pub mod OrderTheorem
-- What follows, and what the statement excludes
pub mod SavesFound
pub mod LostSave
pub mod Excluded
