-- A refused call changes nothing: one lemma for all states, all calls and all numbers.
use Rattle.std.specs.Prelude.{ℕ, not, ◌≡◌, refl, ltb}
use Rattle.model.specs.State.{worker_at, idle}
use Rattle.model.proofs.Choices.{if_both}
use Rattle.model.specs.WellFormed.{well_formed}
use Rattle.model.specs.Step.{submit, step, step_worker, applied, ninth_help, is_request, refuse, accept}
use Rattle.model.specs.Run.{call}
use Rattle.model.specs.declared.Worker.{Worker}
use Rattle.model.specs.declared.Catalogue.{Catalogue}
use Rattle.model.specs.declared.Effect.{Effect}
use Rattle.model.specs.declared.Stepped.{Stepped}
use Rattle.model.specs.declared.Call.{Call}
use Rattle.model.specs.declared.Call.TheVariants.{Submit, Step}
use Rattle.std.specs.Prelude.{Ok, Err}
use Rattle.model.specs.declared.Refusal.{Refusal}

pub record Unchanged (c : Catalogue) (s : Stepped) : Type 0 where
  pub kept : (r : Refusal) → s.verdict ≡ Err r → s.state ≡ c

refused_unchanged : (r : Refusal) (c : Catalogue) → Unchanged c (refuse r c)
refused_unchanged r c = record { kept = λ _ _. refl }

accepted_unchanged : (c d : Catalogue) → Unchanged c (accept d)
accepted_unchanged c d = record { kept = λ r e. let apart : (Ok tt) ≡ Err r = e in cc }

applied_unchanged : (c : Catalogue) (w : ℕ) (k : Worker) (e : Effect) → Unchanged c (applied c w k e)
unfolding applied
applied_unchanged c w k e =
    if_both (Unchanged c) (ninth_help k.count e.stack) (refused_unchanged _ c) (accepted_unchanged c _)

pub step_worker_unchanged : (c : Catalogue) (w : ℕ) → Unchanged c (step_worker c w)
unfolding step_worker
step_worker_unchanged c w =
    if_both (Unchanged c) (idle (worker_at c.workers w).line) (refused_unchanged _ c) (applied_unchanged c w _ _)

call_unchanged : (c : Catalogue) (x : Call) → Unchanged c (call c x)
unfolding call submit step
call_unchanged c (Submit w code key element) =
    if_both (Unchanged c) (ltb 7 w) (refused_unchanged _ c)
    (if_both (Unchanged c) (not (well_formed c)) (refused_unchanged _ c)
    (if_both (Unchanged c) (not (is_request code)) (refused_unchanged _ c)
    (if_both (Unchanged c) (not (idle (worker_at c.workers w).line)) (refused_unchanged _ c) (accepted_unchanged c _))))
call_unchanged c (Step w) =
    if_both (Unchanged c) (ltb 7 w) (refused_unchanged _ c)
    (if_both (Unchanged c) (not (well_formed c)) (refused_unchanged _ c) (step_worker_unchanged c w))

pub refused_changes_nothing : (c : Catalogue) (x : Call) (r : Refusal) → (call c x).verdict ≡ Err r → (call c x).state ≡ c
refused_changes_nothing c x r e = (call_unchanged c x).kept r e
