-- A turn is so many single steps: its count is the number of accepted calls of the public `step`, each with its own check of the
-- state, that lead from the state with the lent record to the state returned. And a turn keeps that state well formed.
use Rattle.std.specs.Prelude.{ℕ, ◌<◌, true, ◌≡◌}
use Rattle.std.proofs.Common.{arith, le-ltb, ltb-false}
use Rattle.model.specs.WellFormed.{well_formed}
use Rattle.model.specs.Step.{step_worker, step, with_worker}
use Rattle.model.specs.Turn.{turn}
use Rattle.model.proofs.TurnCount.{Steps, no_step, one_more, Stopped, spent, finished, ninth, Counts, unchecked, Ran, Took, turn_counts}
use Rattle.model.specs.declared.Worker.{Worker}
use Rattle.model.specs.declared.Catalogue.{Catalogue}
use Rattle.model.specs.declared.Stepped.{Stepped}
use Rattle.model.specs.declared.Turned.{Turned}
use Rattle.kept.specs.Sized.{Sized, EightHelps, worker_step_sized, step_sized, with_worker_sized}
use Rattle.kept.specs.WellFormedKept.{worker_step_keeps, step_keeps}

-- a step of worker w by the public `step`
abbrev pub public : ℕ → Catalogue → Stepped
public w c = step c w

step_of_worker : (c : Catalogue) (w : ℕ) → w < 8 → well_formed c ≡ true → step c w ≡ step_worker c w
unfolding step
step_of_worker c w inside well = rw (le-ltb 7 w (omega arith), well)

pub steps_keep : (w : ℕ) {n : ℕ} {c d : Catalogue} → Steps (public w) n c d → Sized c → well_formed c ≡ true
    → Sized d × (well_formed d ≡ true)
steps_keep w no_step sized well = (sized, well)
steps_keep w (one_more {c = c} goes rest) sized well = steps_keep w rest (step_sized c w sized) (step_keeps c w sized well)

-- steps without the check are steps with it
by_public_steps : (w : ℕ) {n : ℕ} {c d : Catalogue} → w < 8 → Sized c → well_formed c ≡ true → Steps (unchecked w) n c d
    → Steps (public w) n c d
by_public_steps w inside sized well no_step = no_step
by_public_steps w inside sized well (one_more {n = n} {c = c} {d = d} goes rest) =
    let same = step_of_worker c w inside well in
    let later = by_public_steps w inside (worker_step_sized c w sized) (worker_step_keeps c w inside sized well) rest in
    one_more {n = n} {c = c} {d = d} (rw same goes) (rw same later)

stopped_public : {w budget taken : ℕ} {t : Turned} → w < 8 → well_formed t.state ≡ true → Stopped (unchecked w) w budget taken t
    → Stopped (public w) w budget taken t
stopped_public inside well (spent all v) = spent all v
stopped_public inside well (finished rests v) = finished rests v
stopped_public {w = w} {t = t} inside well (ninth five v) = ninth (rw (step_of_worker t.state w inside well) five) v

module _ (c : Catalogue) (w budget : ℕ) (lent : Worker) (sized : Sized c) (eight : EightHelps lent)
    (ran : Ran (turn c w budget lent)) where
  took : Took w budget (with_worker c w lent) (turn c w budget lent)
  took = turn_counts c w budget lent ran

  inside : w < 8
  inside = omega (arith, ltb-false 7 w took.inside)

  start_sized : Sized (with_worker c w lent)
  start_sized = with_worker_sized c w lent sized eight

  led : Steps (public w) took.counts.taken (with_worker c w lent) (turn c w budget lent).state
  led = by_public_steps w inside start_sized took.checked took.counts.led

  -- A turn keeps the state that has the lent record in its place well formed.
  pub turn_keeps : well_formed (turn c w budget lent).state ≡ true
  turn_keeps = (steps_keep w led start_sized took.checked).1

  -- The count of a turn is the number of single steps that lead to its end.
  pub turn_counted : Counts (public w) w budget 0 (with_worker c w lent) (turn c w budget lent)
  turn_counted = record {
    taken = took.counts.taken;
    counted = took.counts.counted;
    within = took.counts.within;
    led = led;
    returned = took.counts.returned;
    stopped = stopped_public inside turn_keeps took.counts.stopped;
  }
