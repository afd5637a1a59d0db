-- What a call of the catalogue is: refused, an accepted submit, or an accepted step; each with what it leaves. Proofs about runs go by
-- these three cases.
use Rattle.std.specs.Prelude.{ℕ, ◌<◌, true, false, ◌≡◌, refl, ◌≢◌, length, set}
use Rattle.std.proofs.Common.{ap, ◌∙◌, arith, length-set, get_or-set_same, get_or-set_other}
use Rattle.std.proofs.Math.Decide.{ℕ_discrete}
use Rattle.kept.specs.Ways.{line_of, effect_in, pushes_ninth, submitted_worker, step_ways, worker_step_ways, submit_ways, worker_in}
use Rattle.model.specs.State.{idle_worker, idle}
use Rattle.model.specs.WellFormed.{well_formed}
use Rattle.model.specs.Step.{refuse, written, worker_after, step, is_request, submit}
use Rattle.model.specs.Run.{call}
use Rattle.model.proofs.Answers.{line_after}
use Rattle.model.specs.declared.Answer.TheVariants.{NoAnswer}
use Rattle.model.specs.declared.Worker.{Worker}
use Rattle.model.specs.declared.Catalogue.{Catalogue}
use Rattle.model.specs.declared.Refusal.{Refusal}
use Rattle.model.specs.declared.Refusal.TheVariants.{WorkerIdle, NinthHelp}
use Rattle.std.specs.Prelude.{Ok, Err}
use Rattle.model.specs.declared.Stepped.{Stepped}
use Rattle.model.specs.declared.Call.{Call}
use Rattle.model.specs.declared.Call.TheVariants.{Submit, Step}

-- worker w is k in c' and the others are as in c
pub record WorkerPut (c c' : Catalogue) (w : ℕ) (k : Worker) : Type 0 where
  pub now : worker_in c' w ≡ k
  pub others : (v : ℕ) → v ≢ w → worker_in c' v ≡ worker_in c v
  pub size : length c'.workers ≡ length c.workers

-- what holds of k, and of every other worker as it was, holds of every worker
pub each_worker : {c c' : Catalogue} {w : ℕ} {k : Worker} → WorkerPut c c' w k → (P : ℕ → Worker → Type 0) → P w k
    → ((v : ℕ) → v ≢ w → P v (worker_in c v)) → (v : ℕ) → P v (worker_in c' v)
each_worker {c' = c'} {w = w} put P mine theirs v = elim (ℕ_discrete v w) [
  | yes e ↦ rw e (rw put.now mine)
  | no e ↦ rw (put.others v e) (theirs v e)
]

pub record Submitted (c c' : Catalogue) (w code key element : ℕ) : Type 0 where
  pub well_formed_holds : well_formed c ≡ true
  pub is_request_holds : is_request code ≡ true
  pub was_idle : idle (line_of c w) ≡ true
  pub rows_same : c'.rows ≡ c.rows
  pub worker : WorkerPut c c' w (submitted_worker code key element)

pub record StepTaken (c c' : Catalogue) (w : ℕ) : Type 0 where
  pub well_formed_holds : well_formed c ≡ true
  pub was_busy : idle (line_of c w) ≡ false
  pub few_helps_hold : pushes_ninth c w ≡ false
  pub rows_written : c'.rows ≡ written c.rows (effect_in c w).write
  pub worker : WorkerPut c c' w (worker_after (worker_in c w) (effect_in c w))

-- the lines after it: of w, and of another worker
pub next_line : {c c' : Catalogue} {w : ℕ} → StepTaken c c' w → line_of c' w ≡ (effect_in c w).line
next_line taken = ap (λ (k : Worker). k.line) taken.worker.now ∙ line_after _ _

pub other_line : {c c' : Catalogue} {w : ℕ} {k : Worker} → WorkerPut c c' w k → (v : ℕ) → v ≢ w → line_of c' v ≡ line_of c v
other_line put v differ = ap (λ (k : Worker). k.line) (put.others v differ)

pub data Event (c : Catalogue) (x : Call) (s : Stepped) : Type 0 where
  refused : (r : Refusal) → s.verdict ≡ Err r → s.state ≡ c → Event c x s
  submitted : (w code key element : ℕ) → w < 8 → x ≡ Submit w code key element → s.verdict ≡ Ok tt
      → Submitted c s.state w code key element → Event c x s
  stepped : (w : ℕ) → w < 8 → x ≡ Step w → s.verdict ≡ Ok tt → StepTaken c s.state w → Event c x s

module _ (c : Catalogue) (x : Call) (size : length c.workers ≡ 8) where
  refusal : (r : Refusal) → Event c x (refuse r c)
  refusal r = refused r refl refl

  put_worker : (c' : Catalogue) (w : ℕ) (k : Worker) → w < 8 → c'.workers ≡ set c.workers w k → WorkerPut c c' w k
  put_worker c' w k small e = record {
    now = rw e (get_or-set_same c.workers w k (idle_worker NoAnswer) (omega arith));
    others = λ v differ. rw e (get_or-set_other c.workers w v k (idle_worker NoAnswer) differ);
    size = rw e (length-set c.workers w k);
  }

  step_event : (w : ℕ) → x ≡ Step w → Event c x (step c w)
  step_event w is_step = step_ways c w (Event c x) (λ r _. refusal r) (λ small well.
      worker_step_ways c w (Event c x) (λ _. refusal WorkerIdle) (λ _ _. refusal NinthHelp) (λ busy few.
      stepped w small is_step refl (record {
        well_formed_holds = well;
        was_busy = busy;
        few_helps_hold = few;
        rows_written = refl;
        worker = put_worker _ w _ small refl;
      })))

  submit_event : (w code key element : ℕ) → x ≡ Submit w code key element → Event c x (submit c w code key element)
  submit_event w code key element is_submit =
      submit_ways c w code key element (Event c x) (λ r _. refusal r) (λ small well known rests.
      submitted w code key element small is_submit refl (record {
        well_formed_holds = well;
        is_request_holds = known;
        was_idle = rests;
        rows_same = refl;
        worker = put_worker _ w _ small refl;
      }))

pub call_event : (c : Catalogue) (x : Call) → length c.workers ≡ 8 → Event c x (call c x)
unfolding call
call_event c (Submit w code key element) size = submit_event c (Submit w code key element) size w code key element refl
call_event c (Step w) size = step_event c (Step w) size w refl
