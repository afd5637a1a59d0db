-- The number and the value of every answer and every refusal, as document 01 lists them. Contracts, printed lines and the
-- answers of the map all go through these.
use Rattle.std.specs.Prelude.{ℕ, ◌-◌, ◌≡◌, refl, List, [], ◌∷◌, map, get_or}
use Rattle.model.specs.declared.Answer.{Answer}
use Rattle.model.specs.declared.Answer.TheVariants.{NoAnswer, Found, Absent, Added, Duplicate, Removed, Full}
use Rattle.model.specs.declared.Refusal.{Refusal}
use Rattle.model.specs.declared.Refusal.TheVariants.{NoSuchWorker, WorkerBusy, WorkerIdle, NotWellFormed, NinthHelp, NoSuchRequest, FileVersion, FileLength, FileRecord, FileTooLong, BudgetTooLarge}

unfoldable pub answer_number : Answer → ℕ
answer_number NoAnswer = 0
answer_number (Found e) = 1
answer_number Absent = 2
answer_number Added = 3
answer_number Duplicate = 4
answer_number (Removed e) = 5
answer_number Full = 6

-- the element of an answer, 0 where it has none
unfoldable pub answer_element : Answer → ℕ
answer_element NoAnswer = 0
answer_element (Found e) = e
answer_element Absent = 0
answer_element Added = 0
answer_element Duplicate = 0
answer_element (Removed e) = e
answer_element Full = 0

unfoldable pub refusal_number : Refusal → ℕ
refusal_number NoSuchWorker = 1
refusal_number WorkerBusy = 2
refusal_number WorkerIdle = 3
refusal_number NotWellFormed = 4
refusal_number NinthHelp = 5
refusal_number NoSuchRequest = 6
refusal_number FileVersion = 7
refusal_number FileLength = 8
refusal_number FileRecord = 9
refusal_number FileTooLong = 10
refusal_number BudgetTooLarge = 11

-- the refusals in the order of their numbers: 1 to 11, each once, and there is no other
unfoldable pub refusals : List Refusal
refusals =
    NoSuchWorker ∷ WorkerBusy ∷ WorkerIdle ∷ NotWellFormed ∷ NinthHelp ∷ NoSuchRequest ∷ FileVersion ∷ FileLength ∷ FileRecord ∷ FileTooLong
    ∷ BudgetTooLarge ∷ []

pub refusal_numbers : map refusal_number refusals ≡ (1 ∷ 2 ∷ 3 ∷ 4 ∷ 5 ∷ 6 ∷ 7 ∷ 8 ∷ 9 ∷ 10 ∷ 11 ∷ [])
unfolding refusals refusal_number
refusal_numbers = refl

pub refusal_told : (r : Refusal) → get_or refusals (refusal_number r - 1) NoSuchWorker ≡ r
unfolding refusals refusal_number
refusal_told NoSuchWorker = refl
refusal_told WorkerBusy = refl
refusal_told WorkerIdle = refl
refusal_told NotWellFormed = refl
refusal_told NinthHelp = refl
refusal_told NoSuchRequest = refl
refusal_told FileVersion = refl
refusal_told FileLength = refl
refusal_told FileRecord = refl
refusal_told FileTooLong = refl
refusal_told BudgetTooLarge = refl

-- number and element tell the answer
pub answer_told : (a : Answer)
    → get_or (NoAnswer ∷ Found (answer_element a) ∷ Absent ∷ Added ∷ Duplicate ∷ Removed (answer_element a) ∷ Full ∷ []) (answer_number a) NoAnswer ≡ a
unfolding answer_number answer_element
answer_told NoAnswer = refl
answer_told (Found e) = refl
answer_told Absent = refl
answer_told Added = refl
answer_told Duplicate = refl
answer_told (Removed e) = refl
answer_told Full = refl
