-- What the count of a turn is: taking single steps that often, each accepted, leads to the turn's end state; and the turn stops where
-- the budget is spent, the worker is idle, or the next step is refused with 5.
use Rattle.std.specs.Prelude.{ℕ, zero, suc, ◌+◌, ◌≤◌, true, false, not, refl, ◌⊎◌, ltb, eqb}
use Rattle.std.proofs.Common.{true≢false, ap, inl, inr, arith}
use Rattle.std.proofs.Math.Path.{◌≡◌}
use borrow.Author.Tests.{not-false}
use Rattle.model.specs.State.{worker_at, idle}
use Rattle.model.proofs.Choices.{if_both, if_known}
use Rattle.model.specs.WellFormed.{well_formed}
use Rattle.model.specs.Step.{step_worker, applied, ninth_help, effect_of, with_worker}
use Rattle.model.specs.Turn.{accepted, turn_from, turn_of, turn, refuse_turn}
use Rattle.model.specs.Numbers.{refusal_number}
use Rattle.model.specs.declared.Worker.{Worker}
use Rattle.model.specs.declared.Catalogue.{Catalogue}
use Rattle.model.specs.declared.Stepped.{Stepped}
use Rattle.model.specs.declared.Turned.{Turned}
use Rattle.model.specs.Verdict.{Verdict}
use Rattle.std.specs.Prelude.{Ok, Err}
use Rattle.model.specs.declared.Refusal.{Refusal}
use Rattle.model.specs.declared.Refusal.TheVariants.{NoSuchWorker, WorkerIdle, NotWellFormed, NinthHelp, BudgetTooLarge}

-- n accepted steps, each taken by `next`, lead from one state to another
pub data Steps (next : Catalogue → Stepped) : ℕ → Catalogue → Catalogue → Type 0 where
  no_step : {c : Catalogue} → Steps next 0 c c
  one_more : {n : ℕ} {c d : Catalogue} → (next c).verdict ≡ Ok tt → Steps next n (next c).state d → Steps next (suc n) c d

-- why a turn that took so many steps of its budget stopped
pub data Stopped (next : Catalogue → Stepped) (w budget taken : ℕ) (t : Turned) : Type 0 where
  spent : taken ≡ budget → t.verdict ≡ Ok tt → Stopped next w budget taken t
  finished : idle (worker_at t.state.workers w).line ≡ true → t.verdict ≡ Ok tt → Stopped next w budget taken t
  ninth : (next t.state).verdict ≡ Err NinthHelp → t.verdict ≡ Err NinthHelp → Stopped next w budget taken t

-- a turn of worker w from state c, with n steps counted before it
pub record Counts (next : Catalogue → Stepped) (w budget n : ℕ) (c : Catalogue) (t : Turned) : Type 0 where
  pub taken : ℕ
  pub counted : t.steps ≡ n + taken
  pub within : taken ≤ budget
  pub led : Steps next taken c t.state
  pub returned : t.lent ≡ worker_at t.state.workers w
  pub stopped : Stopped next w budget taken t

-- a step of worker w of a state that is known to be well formed
abbrev pub unchecked : ℕ → Catalogue → Stepped
unchecked w c = step_worker c w

-- a busy worker's step is accepted, or refused with 5
abbrev OnlyNinth : Stepped → Type 0
OnlyNinth s = accepted s.verdict ≡ false → s.verdict ≡ Err NinthHelp

applied_only_ninth : (c : Catalogue) (w : ℕ) (k : Worker) → OnlyNinth (applied c w k (effect_of c.rows w k))
unfolding applied
applied_only_ninth c w k =
    if_both OnlyNinth (ninth_help k.count (effect_of c.rows w k).stack) (λ _. refl) (λ e. cc)

busy_only_ninth : (c : Catalogue) (w : ℕ) → idle (worker_at c.workers w).line ≡ false → OnlyNinth (step_worker c w)
unfolding step_worker
busy_only_ninth c w busy = rw busy (applied_only_ninth c w (worker_at c.workers w))

pub accepted_true : (v : Verdict) → accepted v ≡ true → v ≡ Ok tt
accepted_true (Ok tt) e = refl
accepted_true (Err r) e = cc

pub turn_from_counts : (w left n : ℕ) (c : Catalogue) → Counts (unchecked w) w left n c (turn_from w left n c)
unfolding turn_from
turn_from_counts w zero n c =
    record { taken = 0; counted = omega arith; within = omega arith; led = no_step; returned = refl; stopped = spent refl refl }
turn_from_counts w (suc left) n c =
    if_known (Counts (unchecked w) w (suc left) n c) (idle (worker_at c.workers w).line)
    (λ rests. record { taken = 0; counted = omega arith; within = omega arith; led = no_step; returned = refl; stopped = finished rests refl })
    (λ busy. if_known (Counts (unchecked w) w (suc left) n c) (accepted (step_worker c w).verdict)
    (λ goes. after (accepted_true _ goes) (turn_from_counts w left (n + 1) (step_worker c w).state))
    (λ refuses.
    let five = busy_only_ninth c w busy refuses in
    record { taken = 0; counted = omega arith; within = omega arith; led = no_step; returned = refl; stopped = ninth five five }))
  where
    longer : {taken : ℕ} {t : Turned} → Stopped (unchecked w) w left taken t → Stopped (unchecked w) w (suc left) (suc taken) t
    longer (spent e v) = spent (ap suc e) v
    longer (finished i v) = finished i v
    longer (ninth s v) = ninth s v

    after : {t : Turned} → (step_worker c w).verdict ≡ Ok tt → Counts (unchecked w) w left (n + 1) (step_worker c w).state t
        → Counts (unchecked w) w (suc left) n c t
    after goes r = record {
      taken = suc r.taken;
      counted = omega (arith, r.counted);
      within = omega (arith, r.within);
      led = one_more goes r.led;
      returned = r.returned;
      stopped = longer r.stopped;
    }

-- the turn took place: it was accepted, or ended with refusal 5
abbrev pub Ran : Turned → Type 0
Ran t = (t.verdict ≡ Ok tt) ⊎ (t.verdict ≡ Err NinthHelp)

-- a turn that took place passed its checks, in the state with the lent record in its place, and its count is what it says
pub record Took (w budget : ℕ) (start : Catalogue) (t : Turned) : Type 0 where
  pub inside : ltb 7 w ≡ false
  pub checked : well_formed start ≡ true
  pub counts : Counts (unchecked w) w budget 0 start t

module _ (c : Catalogue) (w budget : ℕ) (lent : Worker) where
  abbrev start : Catalogue
  start = with_worker c w lent

  abbrev IfRan : Turned → Type 0
  IfRan t = Ran t → Took w budget start t

  -- a turn refused with another number did not take place
  not_ran : (r : Refusal) (d : Catalogue) → eqb (refusal_number r) 5 ≡ false → IfRan (refuse_turn r d lent)
  unfolding refusal_number
  not_ran r d other (inl e) = let apart : ◌≡◌ {A = ℕ} 0 1 = cc in absurd (omega arith)
  not_ran r d other (inr e) =
      let same : r ≡ NinthHelp = cc in
      absurd (true≢false (rw same at other))

  pub turn_counts : IfRan (turn c w budget lent)
  unfolding turn turn_of refusal_number
  turn_counts =
      if_known IfRan (ltb 7 w) (λ _. not_ran NoSuchWorker c refl) (λ inside.
      if_both IfRan (ltb 8192 budget) (not_ran BudgetTooLarge start refl) (
      if_known IfRan (not (well_formed start)) (λ _. not_ran NotWellFormed start refl) (λ checked.
      if_both IfRan (idle lent.line) (not_ran WorkerIdle start refl) (λ _. record {
        inside = inside;
        checked = not-false (well_formed start) checked;
        counts = turn_from_counts w budget 0 start;
      }))))
