-- The sizes of a catalogue: 128 rows, 8 workers, 8 slots for helps in each worker's record. The types of the code say so; here a
-- catalogue's fields are plain lists, and every call keeps their lengths.
use Rattle.std.specs.Prelude.{ℕ, zero, suc, ◌+◌, ◌≡◌, refl, List, length, set}
use Rattle.std.proofs.Common.{ap, ◌∙◌, length-set}
use Rattle.model.specs.State.{worker_at, idle_worker, empty_catalogue, idle}
use Rattle.model.specs.Step.{written, stacked, worker_after, step_worker, step, submit, with_worker}
use Rattle.model.specs.Turn.{turn_from, turn}
use Rattle.model.proofs.Choices.{if_known}
use Rattle.model.specs.declared.Row.{Row}
use Rattle.model.specs.declared.Worker.{Worker}
use Rattle.model.specs.declared.Catalogue.{Catalogue}
use Rattle.model.specs.declared.Answer.TheVariants.{NoAnswer}
use Rattle.model.specs.declared.Line.{Line}
use Rattle.model.specs.declared.Effect.{Effect}
use Rattle.model.specs.declared.Write.{Write}
use Rattle.model.specs.declared.Write.TheVariants.{NoRow, OneRow, TwoRows}
use Rattle.model.specs.declared.Stack.{Stack}
use Rattle.model.specs.declared.Stack.TheVariants.{Keep, Push, Pop}
use Rattle.kept.specs.Ways.{worker_in, effect_in, worker_step_ways, step_ways, submit_ways, turn_from_ways, turn_ways}
use Rattle.kept.specs.Stores.{store_keeps, copy_at}

-- a worker's record has 8 slots
abbrev pub EightHelps : Worker → Type 0
EightHelps k = length k.helps ≡ 8

-- Past the last worker a look-up gives a fresh record, so what is said of every number w is said of the eight.
pub record Sized (c : Catalogue) : Type 0 where
  pub rows : length c.rows ≡ 128
  pub workers : length c.workers ≡ 8
  pub helps : (w : ℕ) → EightHelps (worker_at c.workers w)

pub empty_sized : Sized empty_catalogue
empty_sized = record {
  rows = refl;
  workers = refl;
  helps = λ w. ap (λ (k : Worker). length k.helps) (copy_at 8 (idle_worker NoAnswer) w);
}

pub written_length : (rows : List Row) (write : Write) → length (written rows write) ≡ length rows
unfolding written
written_length rows NoRow = refl
written_length rows (OneRow i r) = length-set rows i r
written_length rows (TwoRows i r j s) = length-set (set rows i r) j s ∙ length-set rows i r

stacked_helps : (k : Worker) (line : Line) (stack : Stack) → EightHelps k → EightHelps (stacked k line stack)
unfolding stacked
stacked_helps k line Keep h = h
stacked_helps k line (Push p) h = rw length-set h
stacked_helps k line Pop h = rw length-set h

pub after_helps : (k : Worker) (e : Effect) → EightHelps k → EightHelps (worker_after k e)
unfolding worker_after
after_helps k e h = if_known EightHelps (idle e.line) (λ _. refl) (λ _. stacked_helps k e.line e.stack h)

-- a state whose rows are written and whose worker w has a new record
changed_sized : (c : Catalogue) (w : ℕ) (rows : List Row) (k : Worker) → Sized c → length rows ≡ 128 → EightHelps k
    → Sized (record { rows = rows; workers = set c.workers w k })
changed_sized c w rows k s r h = record {
  rows = r;
  workers = rw length-set s.workers;
  helps = λ v. store_keeps EightHelps c.workers w k (idle_worker NoAnswer) v h (s.helps v);
}

pub worker_step_sized : (c : Catalogue) (w : ℕ) → Sized c → Sized (step_worker c w).state
worker_step_sized c w s =
    let k = worker_in c w in
    let e = effect_in c w in
    worker_step_ways c w (λ t. Sized t.state)
    (λ _. s)
    (λ _ _. s)
    (λ _ _. changed_sized c w _ _ s (written_length c.rows e.write ∙ s.rows) (after_helps k e (s.helps w)))

pub step_sized : (c : Catalogue) (w : ℕ) → Sized c → Sized (step c w).state
step_sized c w s = step_ways c w (λ t. Sized t.state) (λ _ _. s) (λ _ _. worker_step_sized c w s)

pub submit_sized : (c : Catalogue) (w code key element : ℕ) → Sized c → Sized (submit c w code key element).state
submit_sized c w code key element s =
    submit_ways c w code key element (λ t. Sized t.state) (λ _ _. s) (λ _ _ _ _. changed_sized c w _ _ s s.rows refl)

turn_from_sized : (w left n : ℕ) (c : Catalogue) → Sized c → Sized (turn_from w left n c).state
unfolding turn_from
turn_from_sized w zero n c s = s
turn_from_sized w (suc left) n c s =
    turn_from_ways c w left n (λ t. Sized t.state)
    (λ _. s)
    (λ _ _. turn_from_sized w left (n + 1) _ (worker_step_sized c w s))
    (λ _ _. s)

pub with_worker_sized : (c : Catalogue) (w : ℕ) (k : Worker) → Sized c → EightHelps k → Sized (with_worker c w k)
with_worker_sized c w k s h = changed_sized c w c.rows k s s.rows h

pub turn_sized : (c : Catalogue) (w budget : ℕ) (lent : Worker) → Sized c → EightHelps lent → Sized (turn c w budget lent).state
turn_sized c w budget lent s h =
    let with_lent = with_worker_sized c w lent s h in
    turn_ways c w budget lent (λ t. Sized t.state) s (λ _ _. with_lent) (λ _ _ _. turn_from_sized w budget 0 _ with_lent)
