-- The ways that a call can go: the refusals that it can meet, each with its reason, and what is known where it meets none.
use Rattle.std.specs.Prelude.{ℕ, suc, ◌+◌, ◌<◌, Bool, true, false, not, ◌≡◌, ◌≢◌, set, ltb}
use Rattle.std.proofs.Math.Path.{refl}
use Rattle.std.proofs.Common.{subst, arith, ltb-false}
use Rattle.std.proofs.lemmas.Bool.{not-true, not-false}
use Rattle.model.specs.State.{worker_at, fresh_worker, idle}
use Rattle.model.specs.Numbers.{refusal_number}
use Rattle.model.specs.WellFormed.{well_formed}
use Rattle.model.specs.Step.{refuse, accept, written, worker_after, ninth_help, applied, effect_of, step_worker, step, submit, is_request, first_line, with_worker}
use Rattle.model.specs.Turn.{accepted, turn_ends, turn_from, refuse_turn, turn_of, turn}
use Rattle.model.specs.Run.{call}
use Rattle.model.proofs.Choices.{if_known}
use Rattle.model.specs.declared.Line.{Line}
use Rattle.model.specs.declared.Worker.{Worker}
use Rattle.model.specs.declared.Catalogue.{Catalogue}
use Rattle.model.specs.declared.Effect.{Effect}
use Rattle.model.specs.declared.Stepped.{Stepped}
use Rattle.model.specs.declared.Turned.{Turned}
use Rattle.model.specs.declared.Call.{Call}
use Rattle.model.specs.declared.Call.TheVariants.{Submit, Step}
use Rattle.model.specs.Verdict.{Verdict}
use Rattle.std.specs.Prelude.{Ok, Err}
use Rattle.model.specs.declared.Refusal.{Refusal}
use Rattle.model.specs.declared.Refusal.TheVariants.{NoSuchWorker, WorkerBusy, WorkerIdle, NotWellFormed, NinthHelp, NoSuchRequest, FileVersion, FileLength, FileRecord, FileTooLong, BudgetTooLarge}
use Rattle.kept.specs.Conditions.{contradiction}

abbrev pub worker_in : Catalogue → ℕ → Worker
worker_in c w = worker_at c.workers w

abbrev pub line_of : Catalogue → ℕ → Line
line_of c w = (worker_in c w).line

-- the effect of worker w's line
abbrev pub effect_in : Catalogue → ℕ → Effect
effect_in c w = effect_of c.rows w (worker_in c w)

-- worker w would push a ninth help
abbrev pub pushes_ninth : Catalogue → ℕ → Bool
pushes_ninth c w = ninth_help (worker_in c w).count (effect_in c w).stack

-- ---- Why a call is refused ----

pub record PushesNinth (c : Catalogue) : Type 0 where
  pub worker : ℕ
  pub busy : idle (line_of c worker) ≡ false
  pub ninth : pushes_ninth c worker ≡ true

-- what a refusal says of the state
abbrev pub Because : Catalogue → Refusal → Type 0
Because c NoSuchWorker = Unit {0}
Because c WorkerBusy = Unit {0}
Because c WorkerIdle = Unit {0}
Because c NotWellFormed = well_formed c ≡ false
Because c NinthHelp = PushesNinth c
Because c NoSuchRequest = Unit {0}
Because c FileVersion = Unit {0}
Because c FileLength = Unit {0}
Because c FileRecord = Unit {0}
Because c FileTooLong = Unit {0}
Because c BudgetTooLarge = Unit {0}

-- ---- The states that calls lead to ----

abbrev pub submitted_worker : ℕ → ℕ → ℕ → Worker
submitted_worker code key element = fresh_worker (first_line code key element)

-- the state after an accepted submit
abbrev pub submitted : Catalogue → ℕ → ℕ → ℕ → ℕ → Catalogue
submitted c w code key element = with_worker c w (submitted_worker code key element)

-- the state after worker w had this effect
abbrev pub moved : Catalogue → ℕ → Effect → Catalogue
moved c w e = record { rows = written c.rows e.write; workers = set c.workers w (worker_after (worker_in c w) e) }

-- ---- The ways ----

module _ (c : Catalogue) (w : ℕ) where
  pub worker_step_ways : (P : Stepped → Type 0)
      → (idle (line_of c w) ≡ true → P (refuse WorkerIdle c))
      → (idle (line_of c w) ≡ false → pushes_ninth c w ≡ true → P (refuse NinthHelp c))
      → (idle (line_of c w) ≡ false → pushes_ninth c w ≡ false → P (accept (moved c w (effect_in c w))))
      → P (step_worker c w)
  unfolding step_worker applied
  worker_step_ways P rests ninth moves =
      if_known P (idle (line_of c w)) rests (λ busy. if_known P (pushes_ninth c w) (ninth busy) (moves busy))

  below_eight : ltb 7 w ≡ false → w < 8
  below_eight h = omega (arith, ltb-false 7 w h)

  pub step_ways : (P : Stepped → Type 0)
      → ((r : Refusal) → Because c r → P (refuse r c))
      → (w < 8 → well_formed c ≡ true → P (step_worker c w))
      → P (step c w)
  unfolding step
  step_ways P refused moves =
      if_known P (ltb 7 w) (λ _. refused NoSuchWorker tt) (λ inside.
      if_known P (not (well_formed c)) (λ ill. refused NotWellFormed (not-true _ ill)) (λ well.
      moves (below_eight inside) (not-false _ well)))

  pub submit_ways : (code key element : ℕ) (P : Stepped → Type 0)
      → ((r : Refusal) → Because c r → P (refuse r c))
      → (w < 8 → well_formed c ≡ true → is_request code ≡ true → idle (line_of c w) ≡ true → P (accept (submitted c w code key element)))
      → P (submit c w code key element)
  unfolding submit
  submit_ways code key element P refused starts =
      if_known P (ltb 7 w) (λ _. refused NoSuchWorker tt) (λ inside.
      if_known P (not (well_formed c)) (λ ill. refused NotWellFormed (not-true _ ill)) (λ well.
      if_known P (not (is_request code)) (λ _. refused NoSuchRequest tt) (λ known.
      if_known P (not (idle (line_of c w))) (λ _. refused WorkerBusy tt) (λ rests.
      starts (below_eight inside) (not-false _ well) (not-false _ known) (not-false _ rests)))))

  pub turn_from_ways : (left n : ℕ) (P : Turned → Type 0)
      → (idle (line_of c w) ≡ true → P (turn_ends w (Ok tt) n c))
      → (idle (line_of c w) ≡ false → accepted (step_worker c w).verdict ≡ true → P (turn_from w left (n + 1) (step_worker c w).state))
      → (idle (line_of c w) ≡ false → accepted (step_worker c w).verdict ≡ false → P (turn_ends w (step_worker c w).verdict n c))
      → P (turn_from w (suc left) n c)
  unfolding turn_from
  turn_from_ways left n P rests goes_on stops =
      if_known P (idle (line_of c w)) rests (λ busy.
      if_known P (accepted (step_worker c w).verdict) (goes_on busy) (stops busy))

  module _ (budget : ℕ) (lent : Worker) where
    abbrev with_lent : Catalogue
    with_lent = with_worker c w lent

    -- a turn is refused at once, and not with 5, or it takes steps
    pub turn_ways : (P : Turned → Type 0)
        → P (refuse_turn NoSuchWorker c lent)
        → ((r : Refusal) → refusal_number r ≢ 5 → P (refuse_turn r with_lent lent))
        → (w < 8 → well_formed with_lent ≡ true → idle lent.line ≡ false → P (turn_from w budget 0 with_lent))
        → P (turn c w budget lent)
    unfolding turn turn_of refusal_number
    turn_ways P unknown refused runs =
        if_known P (ltb 7 w) (λ _. unknown) (λ inside.
        if_known P (ltb 8192 budget) (λ _. refused BudgetTooLarge (λ e. omega arith)) (λ _.
        if_known P (not (well_formed with_lent)) (λ _. refused NotWellFormed (λ e. omega arith)) (λ well.
        if_known P (idle lent.line) (λ _. refused WorkerIdle (λ e. omega arith)) (runs (below_eight inside) (not-false _ well)))))

-- ---- A call that was refused ----

pub accepted_not_refused : {v : Verdict} {r : Refusal} → v ≡ Ok tt → v ≡ Err r → ⊥
accepted_not_refused accepts refuses = contradiction (cc)

module _ (c : Catalogue) where
  abbrev Explained : Stepped → Type 0
  Explained s = (r : Refusal) → s.verdict ≡ Err r → Because c r

  explains : (q : Refusal) → Because c q → Explained (refuse q c)
  explains q because r e =
      let same : q ≡ r = cc in
      subst (Because c) same because

  pub refused_because : (x : Call) → Explained (call c x)
  unfolding call
  refused_because (Submit w code key element) =
      submit_ways c w code key element Explained explains (λ _ _ _ _ r e. absurd (accepted_not_refused refl e))
  refused_because (Step w) = step_ways c w Explained explains (λ _ _.
      worker_step_ways c w Explained
      (λ _. explains WorkerIdle tt)
      (λ busy ninth. explains NinthHelp (record { worker = w; busy = busy; ninth = ninth }))
      (λ _ _ r e. absurd (accepted_not_refused refl e)))
