-- Worked schedules: what a row of the table says, and what a schedule does, so that one statement compares the two.
pub mod FirstTable
pub mod SearchSchedules
pub mod InsertSchedules
pub mod DeleteSchedules
pub mod HelpSchedules
pub mod EdgeSchedules
pub mod SecondTable
use Rattle.std.specs.Prelude.{ℕ, zero, suc, ◌+◌, ◌*◌, true, false, ◌≡◌, List, [], ◌∷◌, map, reverse, get_or, set, replicate}
use Rattle.model.specs.State.{row_at, worker_at, idle, empty_catalogue}
use Rattle.model.specs.Order.{head}
use Rattle.model.specs.Numbers.{refusal_number}
use Rattle.model.specs.Count.{saves_told, walk, is_save, saves_among, saves, countable, count, taken_from, taken}
use Rattle.model.proofs.Computed.{computed, computed_turn}
use Rattle.model.specs.WellFormed.{all_from}
use Rattle.model.specs.declared.Row.{Row}
use Rattle.model.specs.declared.Catalogue.{Catalogue}
use Rattle.model.specs.declared.Stepped.{Stepped}
use Rattle.model.specs.declared.Turned.{Turned}
use Rattle.model.specs.declared.Call.TheVariants.{Submit, Step}
use Rattle.model.specs.declared.Answer.{Answer}
use Rattle.model.specs.Verdict.{Verdict}
use Rattle.std.specs.Prelude.{Ok, Err}
use Rattle.model.specs.declared.Line.{Line}
use Rattle.model.specs.declared.Line.TheVariants.{Idle, Search, Insert, Flag, Help}

-- ---- The words of the table ----

pub record Save : Type 0 where
  pub key : ℕ
  pub element : ℕ

abbrev pub save : ℕ → ℕ → Save
save key element = record { key = key; element = element }

-- n saves, the keys falling to `low`, each with ten times its key as element
abbrev pub descending : ℕ → ℕ → List Save
descending zero low = []
descending (suc n) low = save (low + n) (10 * (low + n)) ∷ descending n low

-- One phase of a script, by one worker.
pub data Phase : Type 0 where
  searches : ℕ → ℕ → Phase
  inserts : ℕ → ℕ → ℕ → Phase
  deletes : ℕ → ℕ → Phase
  -- so many steps
  takes : ℕ → ℕ → Phase
  -- steps until the request is finished: a hundred are enough for every schedule here
  finishes : ℕ → Phase

-- How the steps to a finish are taken: one call of `step` after another, or by one turn, which checks the state once.
pub data Pace : Type 0 where
  in_steps : Pace
  in_turns : Pace

-- What can be seen of a call: a finish, with the steps that the request took in all, or a refusal.
pub data Event : Type 0 where
  answered : ℕ → ℕ → Answer → Event
  refused : ℕ → ℕ → Event

-- A row on the chain, with its key.
pub data Link : Type 0 where
  at : ℕ → ℕ → Link

-- the first n rows that can be taken, the last of them first on the chain, with keys that rise from `low`
abbrev pub rising : ℕ → ℕ → List Link
rising zero low = []
rising (suc n) low = at (suc (suc n)) low ∷ rising n (suc low)

-- A row of the table: saves added first, one after another, by worker 7; then the script; then what is seen: the events, and at the
-- end the rows not free, the saves counted and the rows on the chain.
pub record Worked : Type 0 where
  pub start : List Save
  pub script : List Phase
  pub events : List Event
  pub taken : ℕ
  pub saves : ℕ
  pub chain : List Link

-- ---- What a schedule does ----

-- A state, the steps that each worker's request has taken, and the events so far, the newest first.
pub record Progress : Type 0 where
  pub state : Catalogue
  pub steps : List ℕ
  pub events : List Event

abbrev progress : Catalogue → List ℕ → List Event → Progress
progress state steps events = record { state = state; steps = steps; events = events }

-- an accepted step of worker w, which has now taken n: it has finished, or not
after_step : ℕ → ℕ → Line → List Event → List Event
after_step w n (Idle a) es = answered w n a ∷ es
after_step w n (Search l f) es = es
after_step w n (Insert l f) es = es
after_step w n (Flag l f) es = es
after_step w n (Help l f) es = es

step_seen : Progress → ℕ → Stepped → Verdict → Progress
unfolding after_step refusal_number
step_seen p w s (Ok tt) =
    let n = get_or p.steps w 0 + 1 in
    progress s.state (set p.steps w n) (after_step w n (worker_at s.state.workers w).line p.events)
step_seen p w s (Err r) = progress s.state p.steps (refused w (refusal_number r) ∷ p.events)

submit_seen : Progress → ℕ → Stepped → Verdict → Progress
unfolding refusal_number
submit_seen p w s (Ok tt) = progress s.state (set p.steps w 0) p.events
submit_seen p w s (Err r) = progress s.state p.steps (refused w (refusal_number r) ∷ p.events)

stepped_once : Progress → ℕ → Progress
unfolding computed step_seen
stepped_once p w = let s = computed p.state (Step w) in step_seen p w s s.verdict

submitted_once : Progress → ℕ → ℕ → ℕ → ℕ → Progress
unfolding computed submit_seen
submitted_once p w code key element = let s = computed p.state (Submit w code key element) in submit_seen p w s s.verdict

step_many : ℕ → Progress → ℕ → Progress
unfolding stepped_once
step_many zero p w = p
step_many (suc n) p w = step_many n (stepped_once p w) w

-- at most so many steps, and none once the worker is idle
step_until_idle : ℕ → Progress → ℕ → Progress
unfolding stepped_once
step_until_idle zero p w = p
step_until_idle (suc n) p w =
    elim (idle (worker_at p.state.workers w).line) [ true ↦ p | false ↦ step_until_idle n (stepped_once p w) w ]

turn_seen : Progress → ℕ → Turned → Verdict → Progress
unfolding after_step refusal_number
turn_seen p w t (Ok tt) =
    let n = get_or p.steps w 0 + t.steps in
    progress t.state (set p.steps w n) (after_step w n t.lent.line p.events)
turn_seen p w t (Err r) = progress t.state p.steps (refused w (refusal_number r) ∷ p.events)

turned_once : ℕ → Progress → ℕ → Progress
unfolding computed_turn turn_seen
turned_once n p w =
    let t = computed_turn p.state w n (worker_at p.state.workers w) in
    elim (idle (worker_at p.state.workers w).line) [ true ↦ p | false ↦ turn_seen p w t t.verdict ]

phase : Pace → Progress → Phase → Progress
unfolding submitted_once step_many step_until_idle turned_once
phase pace p (searches w key) = submitted_once p w 1 key 0
phase pace p (inserts w key element) = submitted_once p w 2 key element
phase pace p (deletes w key) = submitted_once p w 3 key 0
phase pace p (takes w n) = step_many n p w
phase in_steps p (finishes w) = step_until_idle 100 p w
phase in_turns p (finishes w) = turned_once 100 p w

phases : Pace → Progress → List Phase → Progress
unfolding phase
phases pace p [] = p
phases pace p (x ∷ xs) = phases pace (phase pace p x) xs

-- each save's insert, to its finish
additions : List Save → List Phase
additions [] = []
additions (s ∷ ss) = inserts 7 s.key s.element ∷ finishes 7 ∷ additions ss

started : Pace → List Save → Catalogue
unfolding phases additions
started pace saves = (phases pace (progress empty_catalogue (replicate 8 0) []) (additions saves)).state

-- What is seen of a schedule, as one constructor: so it is computed once.
pub data Seen : Type 0 where
  seen : List Event → ℕ → ℕ → List Link → Seen

seen_at : List Event → List Row → Seen
unfolding walk taken taken_from count countable saves saves_among is_save all_from
seen_at events rows =
    seen (reverse events) (taken rows) (saves_told (count rows)) (map (λ (i : ℕ). at i (row_at rows i).key) (walk 128 rows head))

seen_of : Progress → Seen
unfolding seen_at
seen_of p = seen_at p.events p.state.rows

unfoldable pub outcome_of : Pace → Worked → Seen
unfolding started phases seen_of
outcome_of pace w = seen_of (phases pace (progress (started pace w.start) (replicate 8 0) []) w.script)

-- what the schedules of a table do, and what the table says
unfoldable pub outcomes : Pace → List Worked → List Seen
outcomes pace [] = []
outcomes pace (w ∷ ws) = outcome_of pace w ∷ outcomes pace ws

unfoldable pub claims : List Worked → List Seen
claims [] = []
claims (w ∷ ws) = seen w.events w.taken w.saves w.chain ∷ claims ws

-- Every row of the table says what its schedule does.
abbrev pub Right : Pace → List Worked → Type 0
Right pace table = outcomes pace table ≡ claims table
