-- Submit and step: the refusals in document 01's order, and what an accepted call does.
use Rattle.std.specs.Prelude.{if◌then◌else◌, ℕ, ◌+◌, ◌-◌, Bool, false, not, List, set, ltb, leb, eqb}
use Rattle.model.specs.State.{worker_at, help_at, no_help, fresh_worker, idle}
use Rattle.model.specs.Order.{head}
use Rattle.model.specs.Effects.{go, call_search_from}
use Rattle.model.specs.Insert.{insert_line}
use Rattle.model.specs.Delete.{flag_line}
use Rattle.model.specs.HelpFlagged.{help_line}
use Rattle.model.specs.SearchFrom.{search_line}
use Rattle.model.specs.WellFormed.{well_formed}
use Rattle.model.specs.declared.Row.{Row}
use Rattle.model.specs.declared.Pending.{Pending}
use Rattle.model.specs.declared.Worker.{Worker}
use Rattle.model.specs.declared.Catalogue.{Catalogue}
use Rattle.model.specs.declared.Effect.{Effect}
use Rattle.model.specs.declared.Write.{Write}
use Rattle.model.specs.declared.Write.TheVariants.{NoRow, OneRow, TwoRows}
use Rattle.model.specs.declared.Stack.{Stack}
use Rattle.model.specs.declared.Stack.TheVariants.{Keep, Push, Pop}
use Rattle.model.specs.declared.Stepped.{Stepped}
use Rattle.std.specs.Prelude.{Ok, Err}
use Rattle.model.specs.declared.Refusal.{Refusal}
use Rattle.model.specs.declared.Refusal.TheVariants.{NoSuchWorker, WorkerBusy, WorkerIdle, NotWellFormed, NinthHelp, NoSuchRequest}
use Rattle.model.specs.declared.SearchCaller.TheVariants.{Search1, Insert1, Delete1}
use Rattle.model.specs.declared.Line.{Line}
use Rattle.model.specs.declared.Line.TheVariants.{Idle, Search, Insert, Flag, Help}

abbrev pub refuse : Refusal → Catalogue → Stepped
refuse r c = record { verdict = Err r; state = c }

abbrev pub accept : Catalogue → Stepped
accept c = record { verdict = (Ok tt); state = c }

-- What the line of worker `me` does to the rows and to the worker. An idle worker's step is refused, so its case is never used.
unfoldable pub line_effect : List Row → ℕ → ℕ → Pending → Line → Effect
line_effect rows me count last (Idle a) = go (Idle a)
line_effect rows me count last (Search l f) = search_line rows f l
line_effect rows me count last (Insert l f) = insert_line rows me f l
line_effect rows me count last (Flag l f) = flag_line rows f l
line_effect rows me count last (Help l f) = help_line rows count last f l

unfoldable pub effect_of : List Row → ℕ → Worker → Effect
effect_of rows me worker = line_effect rows me worker.count (help_at worker.helps (worker.count - 1)) worker.line

-- the rows after a write
unfoldable pub written : List Row → Write → List Row
written rows NoRow = rows
written rows (OneRow i r) = set rows i r
written rows (TwoRows i r j s) = set (set rows i r) j s

-- the pending helps after a line; the slot of a popped help becomes zero
unfoldable pub stacked : Worker → Line → Stack → Worker
stacked worker line Keep = record { line = line; helps = worker.helps; count = worker.count }
stacked worker line (Push h) = record { line = line; helps = set worker.helps worker.count h; count = worker.count + 1 }
stacked worker line Pop = record { line = line; helps = set worker.helps (worker.count - 1) no_help; count = worker.count - 1 }

-- On finishing, all other registers of the worker become zero.
unfoldable pub worker_after : Worker → Effect → Worker
worker_after worker e =
    if idle e.line
    then fresh_worker e.line
    else stacked worker e.line e.stack

-- the effect asks for a ninth pending help
unfoldable pub ninth_help : ℕ → Stack → Bool
ninth_help count Keep = false
ninth_help count (Push h) = leb 8 count
ninth_help count Pop = false

unfoldable pub applied : Catalogue → ℕ → Worker → Effect → Stepped
applied c w worker e =
    if ninth_help worker.count e.stack
    then refuse NinthHelp c
    else accept (record { rows = written c.rows e.write; workers = set c.workers w (worker_after worker e) })

-- a step of a worker of a state that is known to be well formed: refusals 3 and 5 are left
unfoldable pub step_worker : Catalogue → ℕ → Stepped
step_worker c w =
    let worker = worker_at c.workers w in
    if idle worker.line then refuse WorkerIdle c else applied c w worker (effect_of c.rows w worker)

-- Step, refusals 1, 4, 3, 5.
unfoldable pub step : Catalogue → ℕ → Stepped
step c w =
    if ltb 7 w then refuse NoSuchWorker c
    else if not (well_formed c) then refuse NotWellFormed c
    else step_worker c w

-- the request codes: 1 search, 2 insert, 3 delete
abbrev pub is_request : ℕ → Bool
is_request code = if eqb code 0 then false else leb code 3

-- The private work before a request's first access: line 1 of Search (figure 3), Insert (figure 5) or Delete (figure 4, with k − ε)
-- calls SearchFrom from the head. The element given with a request other than insert is stored as 0.
unfoldable pub first_line : ℕ → ℕ → ℕ → Line
first_line code key element =
    if eqb code 1 then call_search_from key 0 head Search1
    else if eqb code 2 then call_search_from key element head Insert1
    else call_search_from key 0 head Delete1

abbrev pub with_worker : Catalogue → ℕ → Worker → Catalogue
with_worker c w worker = record { rows = c.rows; workers = set c.workers w worker }

-- Submit, refusals 1, 4, 6, 2.
unfoldable pub submit : Catalogue → ℕ → ℕ → ℕ → ℕ → Stepped
submit c w code key element =
    if ltb 7 w then refuse NoSuchWorker c
    else if not (well_formed c) then refuse NotWellFormed c
    else if not (is_request code) then refuse NoSuchRequest c
    else if not (idle (worker_at c.workers w).line) then refuse WorkerBusy c
    else accept (with_worker c w (fresh_worker (first_line code key element)))
