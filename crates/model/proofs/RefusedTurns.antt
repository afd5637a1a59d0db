-- The refusals of a turn come in document 01's order; and what a refused turn leaves.
use Rattle.std.specs.Prelude.{ℕ, zero, suc, ◌+◌, ◌≤◌, ◌<◌, true, not, ◌≡◌, ◌≢◌, [], ◌∷◌}
use Rattle.std.proofs.Math.Bool.{false}
use Rattle.std.proofs.Math.Path.{refl}
use Rattle.std.proofs.Common.{arith}
use Rattle.std.proofs.Math.Dec.{ltb}
use borrow.Author.Tests.{ltb-true, ltb-false, not-true, not-false}
use Rattle.model.specs.State.{worker_at, idle}
use Rattle.model.proofs.Choices.{if_both, if_known}
use Rattle.model.specs.WellFormed.{well_formed}
use Rattle.model.specs.Step.{step_worker, with_worker}
use Rattle.model.specs.Turn.{accepted, turn_from, turn_of, turn, refuse_turn}
use Rattle.model.proofs.TurnCount.{Steps, no_step, one_more, Stopped, spent, finished, ninth, unchecked, accepted_true, turn_from_counts}
use Rattle.model.proofs.RefusalOrder.{◌given_when◌, First, no_ground, this_one, a_later, IsIdle, IsBusy, busy_grounds, MeetsNinth, turn_grounds}
use Rattle.model.proofs.RefusedCalls.{by_test, test, clash, above, not_above, step_worker_order}
use Rattle.model.specs.declared.Worker.{Worker}
use Rattle.model.specs.declared.Catalogue.{Catalogue}
use Rattle.model.specs.declared.Turned.{Turned}
use Rattle.model.specs.Verdict.{Verdict}
use Rattle.std.specs.Prelude.{Ok, Err}
use Rattle.model.specs.declared.Refusal.{Refusal}
use Rattle.model.specs.declared.Refusal.TheVariants.{WorkerIdle, NotWellFormed, NinthHelp, BudgetTooLarge}

turned_verdict : Turned → Verdict
turned_verdict t = t.verdict

module _ (w : ℕ) (c : Catalogue) where
  rests_refused : IsIdle (worker_at c.workers w) → (step_worker c w).verdict ≡ Err WorkerIdle
  unfolding step_worker
  rests_refused rests = rw rests

  only_ninth : {v : Verdict} → First (busy_grounds c w) v → IsBusy (worker_at c.workers w) → accepted v ≡ false → v ≡ Err NinthHelp
  only_ninth (this_one rests) busy refuses = absurd (clash rests busy)
  only_ninth (a_later _ (this_one _)) busy refuses = refl
  only_ninth (a_later _ (a_later _ no_ground)) busy refuses = absurd (clash refl refuses)

  rests_meets_none : {n : ℕ} {d : Catalogue} → IsIdle (worker_at c.workers w) → Steps (unchecked w) n c d
      → (step_worker d w).verdict ≡ Err NinthHelp → ⊥
  rests_meets_none rests no_step five = let three = rests_refused rests in let z : ◌≡◌ {A = ℕ} 0 1 = cc in omega arith
  rests_meets_none rests (one_more goes rest) five = let three = rests_refused rests in let z : ◌≡◌ {A = ℕ} 0 1 = cc in omega arith

  module _ (left : ℕ) (goes : (step_worker c w).verdict ≡ Ok tt) where
    forth : MeetsNinth w left (step_worker c w).state → MeetsNinth w (suc left) c
    forth (n, d, steps, l, five) = (suc n, d, one_more goes steps, omega arith, five)

    back_of_five : {n : ℕ} {d : Catalogue} → Steps (unchecked w) n c d → n < suc left → (step_worker d w).verdict ≡ Err NinthHelp
        → MeetsNinth w left (step_worker c w).state
    back_of_five no_step l five = let z : ◌≡◌ {A = ℕ} 0 1 = cc in absurd (omega arith)
    back_of_five (one_more {n = n} {d = d} _ steps) l five = (n, d, steps, omega arith, five)

    one_further : {v : Verdict} → First (NinthHelp given_when MeetsNinth w left (step_worker c w).state ∷ []) v
        → First (NinthHelp given_when MeetsNinth w (suc left) c ∷ []) v
    one_further (this_one m) = this_one (forth m)
    one_further (a_later none no_ground) = a_later (λ (m : MeetsNinth w (suc left) c). none (back_of_five m.2 m.3 m.4)) no_ground

turn_from_order : (w left n : ℕ) (c : Catalogue) → First (NinthHelp given_when MeetsNinth w left c ∷ []) (turn_from w left n c).verdict
unfolding turn_from
turn_from_order w zero n c = a_later (λ (m : MeetsNinth w 0 c). omega (arith, m.3)) no_ground
turn_from_order w (suc left) n c =
    by_test said (idle (worker_at c.workers w).line)
    (λ rests. a_later (λ (m : MeetsNinth w (suc left) c). rests_meets_none w c rests m.2 m.4) no_ground)
    (λ busy. by_test said (accepted (step_worker c w).verdict)
    (λ goes. one_further w c left (accepted_true _ goes) (turn_from_order w left (n + 1) (step_worker c w).state))
    (λ refuses.
    let five = only_ninth w c (step_worker_order c w) busy refuses in
    let now : MeetsNinth w (suc left) c = (0, c, no_step, omega arith, five) in
    rw five (this_one now)))
  where
    said : Turned → Type 1
    said t = First (NinthHelp given_when MeetsNinth w (suc left) c ∷ []) t.verdict

module _ (c : Catalogue) (w budget : ℕ) (lent : Worker) where
  abbrev start : Catalogue
  start = with_worker c w lent

  pub turn_order : First (turn_grounds c w budget lent) (turn c w budget lent).verdict
  unfolding turn turn_of turned_verdict
  turn_order =
      test turned_verdict (ltb 7 w) (above 7 w) (not_above 7 w) refl
      (test turned_verdict (ltb 8192 budget) (above 8192 budget) (not_above 8192 budget) refl
      (test turned_verdict (not (well_formed start)) (not-true _) (λ h. clash (not-false _ h)) refl
      (test turned_verdict (idle lent.line) (λ h. h) (λ h g. clash g h) refl (turn_from_order w budget 0 start))))

  -- what a turn refused with another number than 5 leaves: no step is reported, the record is as it was lent, and the state is as it was
  -- given, with the lent record in its place unless the worker does not exist
  pub record Untaken (t : Turned) : Type 0 where
    pub no_steps : t.steps ≡ 0
    pub as_lent : t.lent ≡ lent
    pub as_given : 7 < w → t.state ≡ c
    pub lent_in_place : w ≤ 7 → t.state ≡ start

  abbrev IfUntaken : Turned → Type 0
  IfUntaken t = (r : Refusal) → t.verdict ≡ Err r → r ≢ NinthHelp → Untaken t

  was_taken : {n : ℕ} {t : Turned} → Stopped (unchecked w) w budget n t → IfUntaken t
  was_taken (spent _ goes) r e other = let z : ◌≡◌ {A = ℕ} 0 1 = cc in absurd (omega arith)
  was_taken (finished _ goes) r e other = let z : ◌≡◌ {A = ℕ} 0 1 = cc in absurd (omega arith)
  was_taken (ninth _ five) r e other = absurd (other cc)

  pub turn_untaken : IfUntaken (turn c w budget lent)
  unfolding turn turn_of
  turn_untaken =
      if_known IfUntaken (ltb 7 w)
      (λ high _ _ _. record { no_steps = refl; as_lent = refl; as_given = λ _. refl; lent_in_place = λ l. absurd (omega (arith, ltb-true 7 w high)) })
      (λ inside.
      if_both IfUntaken (ltb 8192 budget) (untaken inside BudgetTooLarge)
      (if_both IfUntaken (not (well_formed start)) (untaken inside NotWellFormed)
      (if_both IfUntaken (idle lent.line) (untaken inside WorkerIdle) (was_taken (turn_from_counts w budget 0 start).stopped))))
    where
      untaken : ltb 7 w ≡ false → (r : Refusal) → IfUntaken (refuse_turn r start lent)
      untaken inside r _ _ _ =
          record { no_steps = refl; as_lent = refl; as_given = λ h. absurd (omega (arith, ltb-false 7 w inside)); lent_in_place = λ _. refl }
