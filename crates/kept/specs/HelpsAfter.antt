-- A worker's pending helps after a sound effect: as a well-formed state has them.
use Rattle.std.specs.Prelude.{ℕ, ◌-◌, true, false, ◌≡◌, refl, List, set}
use Rattle.std.proofs.Common.{arith, length-set, leb-false}
use Rattle.model.specs.State.{no_help, no_helps, fresh_worker, idle}
use Rattle.model.specs.Step.{stacked, worker_after, ninth_help}
use Rattle.model.specs.WellFormed.{all_from, pending_numbers}
use Rattle.model.proofs.Choices.{if_known}
use Rattle.model.specs.declared.Pending.{Pending}
use Rattle.model.specs.declared.Worker.{Worker}
use Rattle.model.specs.declared.Line.{Line}
use Rattle.model.specs.declared.Effect.{Effect}
use Rattle.model.specs.declared.Stack.{Stack}
use Rattle.model.specs.declared.Stack.TheVariants.{Keep, Push, Pop}
use Rattle.kept.specs.WellFormedFacts.{HelpsWell}
use Rattle.kept.specs.Sound.{StackFits}
use Rattle.kept.specs.Conditions.{clash, every, if_every}
use Rattle.kept.specs.Stores.{store_keeps}

slots_stored : (helps : List Pending) (i : ℕ) (h : Pending) → all_from pending_numbers 0 helps ≡ true → pending_numbers 0 h ≡ true
    → all_from pending_numbers 0 (set helps i h) ≡ true
slots_stored helps i h old new =
    if_every pending_numbers (set helps i h) no_help (λ j l.
    store_keeps (λ x. pending_numbers 0 x ≡ true) helps i h no_help j new (every pending_numbers helps no_help old j (rw length-set at l)))

stacked_helps : (k : Worker) (line : Line) (stack : Stack) → HelpsWell k → idle line ≡ false → ninth_help k.count stack ≡ false
    → StackFits k.count line stack → HelpsWell (stacked k line stack)
unfolding stacked ninth_help
stacked_helps k line Keep h busy room fits = record { slots = h.slots; few = h.few; inside = fits busy }
stacked_helps k line (Push p) h busy room fits = record {
  slots = slots_stored k.helps k.count p h.slots fits.1;
  few = omega (arith, leb-false 8 k.count room);
  inside = λ outside. absurd (clash fits.0 outside);
}
stacked_helps k line Pop h busy room fits = record {
  slots = slots_stored k.helps (k.count - 1) no_help h.slots refl;
  few = omega (arith, h.few);
  inside = λ outside. absurd (clash fits outside);
}

no_help_slots : all_from pending_numbers 0 no_helps ≡ true
unfolding all_from
no_help_slots = refl

-- a record with no help, at whatever line
pub no_helps_well : (line : Line) → HelpsWell (fresh_worker line)
no_helps_well line = record { slots = no_help_slots; few = omega arith; inside = λ _. refl }

pub helps_after : (k : Worker) (e : Effect) → HelpsWell k → ninth_help k.count e.stack ≡ false
    → StackFits k.count e.line e.stack → HelpsWell (worker_after k e)
unfolding worker_after
helps_after k e h room fits =
    if_known HelpsWell (idle e.line)
    (λ _. no_helps_well e.line)
    (λ busy. stacked_helps k e.line e.stack h busy room fits)
