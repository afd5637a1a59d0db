-- A turn: up to a budget of steps of one worker, which stops at its finish. The lent record stands for that worker's record in the
-- state, in the checks and in the state returned.
use Rattle.std.specs.Prelude.{if◌then◌else◌, ℕ, zero, suc, ◌+◌, Bool, true, false, not, ltb}
use Rattle.model.specs.State.{worker_at, idle}
use Rattle.model.specs.WellFormed.{well_formed}
use Rattle.model.specs.Step.{step_worker, with_worker}
use Rattle.model.specs.declared.Worker.{Worker}
use Rattle.model.specs.declared.Catalogue.{Catalogue}
use Rattle.model.specs.declared.Turned.{Turned}
use Rattle.model.specs.Verdict.{Verdict}
use Rattle.std.specs.Prelude.{Ok, Err}
use Rattle.model.specs.declared.Refusal.{Refusal}
use Rattle.model.specs.declared.Refusal.TheVariants.{NoSuchWorker, WorkerIdle, NotWellFormed, BudgetTooLarge}

abbrev pub accepted : Verdict → Bool
accepted (Ok tt) = true
accepted (Err r) = false

-- the end of a turn of worker w after n steps: the lent record comes back as the worker's record of the end state
abbrev pub turn_ends : ℕ → Verdict → ℕ → Catalogue → Turned
turn_ends w v n c = record { verdict = v; steps = n; state = c; lent = worker_at c.workers w }

-- n steps are taken, and so many are left of the budget. If a step meets refusal 5, the turn ends there with 5, the count and the
-- state so far.
unfoldable pub turn_from : ℕ → ℕ → ℕ → Catalogue → Turned
turn_from w zero n c = turn_ends w (Ok tt) n c
turn_from w (suc left) n c =
    let next = step_worker c w in
    let rest = turn_from w left (n + 1) next.state in
    if idle (worker_at c.workers w).line then turn_ends w (Ok tt) n c
    else if accepted next.verdict then rest
    else turn_ends w next.verdict n c

abbrev pub refuse_turn : Refusal → Catalogue → Worker → Turned
refuse_turn r c lent = record { verdict = Err r; steps = 0; state = c; lent = lent }

-- a turn of a worker that exists, in the state that has the lent record in its place
unfoldable pub turn_of : Catalogue → ℕ → ℕ → Worker → Turned
turn_of c w budget lent =
    if ltb 8192 budget then refuse_turn BudgetTooLarge c lent
    else if not (well_formed c) then refuse_turn NotWellFormed c lent
    else if idle lent.line then refuse_turn WorkerIdle c lent
    else turn_from w budget 0 c

-- Turn, refusals 1, 11, 4, 3, with 0 steps and the record as it was lent. With 1 the state comes back as given; with 11, 4 and 3 it has
-- the lent record in its place.
unfoldable pub turn : Catalogue → ℕ → ℕ → Worker → Turned
turn c w budget lent =
    if ltb 7 w then refuse_turn NoSuchWorker c lent else turn_of (with_worker c w lent) w budget lent
