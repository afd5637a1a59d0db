-- Which refusal a call gets, as document 01 orders them: the first one of the call's list whose condition holds, and none if no condition
-- does. The conditions are written as the document's table has them, and not as the tests of the definitions. The theorems are
-- `submit_order` and `step_order` (RefusedCalls.antt), `turn_order` (RefusedTurns.antt), `count_order` and `file_order` (RefusedFiles.antt).
use Rattle.std.specs.Prelude.{ℕ, ◌+◌, ◌*◌, ◌≤◌, ◌<◌, true, false, ◌≡◌, ◌≢◌, ◌⊎◌, List, [], ◌∷◌, length, drop}
use Rattle.model.specs.State.{row_at, worker_at, idle}
use Rattle.model.specs.WellFormed.{well_formed}
use Rattle.model.specs.Step.{step_worker, effect_of, with_worker}
use Rattle.model.proofs.TurnCount.{Steps, unchecked}
use Rattle.model.specs.Schedule.{byte_at}
use Rattle.model.specs.declared.Row.{Row}
use Rattle.model.specs.declared.Pending.{Pending}
use Rattle.model.specs.declared.Worker.{Worker}
use Rattle.model.specs.declared.Catalogue.{Catalogue}
use Rattle.model.specs.declared.Stack.TheVariants.{Push}
use Rattle.model.specs.Verdict.{Verdict}
use Rattle.std.specs.Prelude.{Ok, Err}
use Rattle.model.specs.declared.Refusal.{Refusal}
use Rattle.model.specs.declared.Refusal.TheVariants.{NoSuchWorker, WorkerBusy, WorkerIdle, NotWellFormed, NinthHelp, NoSuchRequest, FileVersion, FileLength, FileRecord, FileTooLong, BudgetTooLarge}

-- a refusal, and when it is given
infix 70 ◌given_when◌
pub data Ground : Type 1 where
  ◌given_when◌ : Refusal → Type 0 → Ground

-- this verdict is the first refusal of the list whose condition holds; `Ok` if no condition holds
pub data First : List Ground → Verdict → Type 1 where
  no_ground : First [] (Ok tt)
  this_one : {r : Refusal} {P : Type 0} {rest : List Ground} → P → First (r given_when P ∷ rest) (Err r)
  a_later : {r : Refusal} {P : Type 0} {rest : List Ground} {v : Verdict} → ¬ P → First rest v → First (r given_when P ∷ rest) v

-- ---- Submit: 1, 4, 6, 2 ----

abbrev pub IllFormed : Catalogue → Type 0
IllFormed c = well_formed c ≡ false

abbrev pub IsIdle : Worker → Type 0
IsIdle k = idle k.line ≡ true

abbrev pub IsBusy : Worker → Type 0
IsBusy k = idle k.line ≡ false

-- not 1 search, 2 insert, 3 delete
abbrev pub NoRequest : ℕ → Type 0
NoRequest code = (code ≢ 1) × (code ≢ 2) × (code ≢ 3)

abbrev pub submit_grounds : Catalogue → ℕ → ℕ → List Ground
submit_grounds c w code =
    NoSuchWorker given_when (7 < w)
    ∷ NotWellFormed given_when IllFormed c
    ∷ NoSuchRequest given_when NoRequest code
    ∷ WorkerBusy given_when IsBusy (worker_at c.workers w)
    ∷ []

-- ---- Step: 1, 4, 3, 5 ----

-- the line of a worker would push a pending help where eight are there already
abbrev pub NeedsNinth : Catalogue → ℕ → Type 0
NeedsNinth c w =
    (h : Pending) × ((effect_of c.rows w (worker_at c.workers w)).stack ≡ Push h) × (8 ≤ (worker_at c.workers w).count)

abbrev pub busy_grounds : Catalogue → ℕ → List Ground
busy_grounds c w = WorkerIdle given_when IsIdle (worker_at c.workers w) ∷ NinthHelp given_when NeedsNinth c w ∷ []

abbrev pub step_grounds : Catalogue → ℕ → List Ground
step_grounds c w = NoSuchWorker given_when (7 < w) ∷ NotWellFormed given_when IllFormed c ∷ busy_grounds c w

-- ---- Turn: 1, 11, 4, 3; and 5 if one of its steps meets it ----

-- a step that the budget still allows, n steps after state c, would need a ninth pending help
abbrev pub MeetsNinth : ℕ → ℕ → Catalogue → Type 0
MeetsNinth w budget c =
    (n : ℕ) × (d : Catalogue) × Steps (unchecked w) n c d × (n < budget) × ((step_worker d w).verdict ≡ Err NinthHelp)

abbrev pub turn_grounds : Catalogue → ℕ → ℕ → Worker → List Ground
turn_grounds c w budget lent =
    NoSuchWorker given_when (7 < w)
    ∷ BudgetTooLarge given_when (8192 < budget)
    ∷ NotWellFormed given_when IllFormed (with_worker c w lent)
    ∷ WorkerIdle given_when IsIdle lent
    ∷ NinthHelp given_when MeetsNinth w budget (with_worker c w lent)
    ∷ []

-- ---- Count: 4 ----

-- a row number above 127 among the rows, on the walk or not
abbrev pub NumberAbove : List Row → Type 0
NumberAbove rows = (i : ℕ) × (i < length rows) × ((127 < (row_at rows i).succ.right) ⊎ (127 < (row_at rows i).backlink))

abbrev pub count_grounds : List Row → List Ground
count_grounds rows = NotWellFormed given_when ((length rows ≢ 128) ⊎ NumberAbove rows) ∷ []

-- ---- File: 8 (short), 7, 10, 8 (length), 9 ----

-- records one after another, to the end: a length byte of 1 or 10, and so many bytes
pub data Records : List ℕ → Type 0 where
  no_record : Records []
  a_record : {n : ℕ} {rest : List ℕ} → (n ≡ 1) ⊎ (n ≡ 10) → n ≤ length rest → Records (drop n rest) → Records (n ∷ rest)

-- the length that the file states, big-endian
abbrev pub stated : List ℕ → ℕ
stated file = 256 * byte_at file 1 + byte_at file 2

abbrev pub file_grounds : List ℕ → List Ground
file_grounds file =
    FileLength given_when (length file < 3)
    ∷ FileVersion given_when (byte_at file 0 ≢ 1)
    ∷ FileTooLong given_when (60000 < stated file)
    ∷ FileLength given_when (stated file ≢ length (drop 3 file))
    ∷ FileRecord given_when (¬ Records (drop 3 file))
    ∷ []
