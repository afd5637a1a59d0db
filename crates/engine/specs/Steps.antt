-- What the code of a step promises, and one law for each way out.
use Rattle.std.specs.Prelude.{ℕ, ◌<◌, ◌≡◌, refl, Bool, true, false, List, length, get_or, set}
use Rattle.std.specs.Prelude.{Ok, Err}
use Rattle.std.proofs.Common.{◌∙◌, ap, length-set}
use Rattle.std.proofs.lemmas.List.{set-get_or, get_or_default}
use Rattle.model.specs.Verdict.{Verdict}
use Rattle.model.specs.State.{worker_at, idle}
use Rattle.model.specs.Step.{effect_of, written, worker_after, ninth_help, applied, step_worker}
use Rattle.model.proofs.Choices.{if_both}
use Rattle.model.specs.declared.Row.{Row}
use Rattle.model.specs.declared.Worker.{Worker}
use Rattle.model.specs.declared.Effect.{Effect}
use Rattle.model.specs.declared.Catalogue.{Catalogue}
use Rattle.model.specs.declared.Stepped.{Stepped}
use Rattle.model.specs.declared.Refusal.TheVariants.{WorkerIdle, NinthHelp}

-- A step of worker `me` on these rows answered this, and left this record and these rows: it is the model's, whoever the others are.
abbrev pub StepsAs : List Row → List Worker → ℕ → Verdict → Worker → List Row → Type 0
StepsAs rows workers me verdict after later =
    record { verdict = verdict; state = record { rows = later; workers = set workers me after } }
    ≡ step_worker (record { rows = rows; workers = workers }) me

-- a second store, to rows that a first one left
pub then_stored : (before rows after : List Row) (q : ℕ) (row : Row) → rows ≡ before → after ≡ set rows q row → after ≡ set before q row
then_stored before rows after q row first second = second ∙ ap (λ (l : List Row). set l q row) first

-- whether a worker is idle is told by what stands at its index, whatever the default
pub idle_found : (workers : List Worker) (w : ℕ) (d : Worker) (b : Bool) → w < length workers → idle (get_or workers w d).line ≡ b → idle (worker_at workers w).line ≡ b
idle_found workers w d b inside i = ap (λ (k : Worker). idle k.line) (get_or_default workers w _ d inside) ∙ i

-- One law for each way out of a step of worker w, whose record is k.
module _ (rows : List Row) (workers : List Worker) (w : ℕ) (k : Worker) (its : worker_at workers w ≡ k) where
  unmoved : set workers w k ≡ workers
  unmoved = rw (← its) (set-get_or workers w _)

  pub step_idle : idle k.line ≡ true → StepsAs rows workers w (Err WorkerIdle) k rows
  unfolding step_worker
  step_idle i = simp (its, i, unmoved)

  module _ (e : Effect) (busy : idle k.line ≡ false) (acts : e ≡ effect_of rows w k) where
    pub step_ninth : ninth_help k.count e.stack ≡ true → StepsAs rows workers w (Err NinthHelp) k rows
    unfolding step_worker applied
    step_ninth n = simp (its, busy, ← acts, n, unmoved)

    pub step_moves : (later : List Row) (after : Worker) → ninth_help k.count e.stack ≡ false → later ≡ written rows e.write → after ≡ worker_after k e → StepsAs rows workers w (Ok tt) after later
    unfolding step_worker applied
    step_moves later after n r a = simp (its, busy, ← acts, n, r, a)

-- a step leaves as many workers as there were
pub workers_kept : (c : Catalogue) (w : ℕ) → length (step_worker c w).state.workers ≡ length c.workers
unfolding step_worker applied
workers_kept c w =
    let k = worker_at c.workers w in
    let e = effect_of c.rows w k in
    let as_many : Stepped → Type 0 = λ s. length s.state.workers ≡ length c.workers in
    if_both as_many (idle k.line) refl
    (if_both as_many (ninth_help k.count e.stack) refl (length-set c.workers w (worker_after k e)))
