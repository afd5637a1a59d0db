-- The contracts of the public functions determine their results: two outcomes that a contract allows are the same.
use Rattle.std.specs.Prelude.{◌≡◌, ℕ, List, Option, None, Some, refl}
use Rattle.std.proofs.Common.{ap, sym, ◌∙◌, arith}
use Rattle.model.proofs.OneOutcome.{determined}
use Rattle.model.specs.Printed.{heading, last_line, refused_file}
use Rattle.model.specs.declared.Catalogue.{Catalogue}
use Rattle.model.specs.declared.Refusal.{Refusal}
use Rattle.schedule.specs.declared.text.Text.{Text}
use Rattle.schedule.specs.declared.run.Run.{Run}
use Rattle.schedule.specs.declared.run.Event.{Event}
use Rattle.schedule.specs.Shown.{Shows, shows_same}
use Rattle.schedule.specs.Events.{start_run, Happens, Advances}

pub start_once : (r s : Run) → r ≡ start_run → s ≡ start_run → r ≡ s
start_once = determined start_run

pub next_event_once : (file : List ℕ) (r : Run) (e f : Event) → Happens file r e → Happens file r f → e ≡ f
next_event_once file r e f p q =
    ap (λ (run : Run). event_of run e.text) (p.next ∙ sym q.next) ∙ ap (event_of f.run) (shows_same p.prints q.prints)
  where
    event_of : Run → Text → Event
    event_of run text = record { run = run; text = text }

pub advance_once : (file : List ℕ) (run : Run) (o p : Option Text) (r s : Run) → Advances file run o r → Advances file run p s → (o ≡ p) × (r ≡ s)
advance_once file run None None r s one other = (refl, one.1 ∙ sym other.1)
advance_once file run None (Some u) r s one other = absurd (omega (arith, one.0, other.0))
advance_once file run (Some t) None r s one other = absurd (omega (arith, one.0, other.0))
advance_once file run (Some t) (Some u) r s one other =
    (ap (λ (text : Text). Some text) (shows_same one.1.prints other.1.prints), one.1.next ∙ sym other.1.next)

pub heading_once : (t u : Text) → Shows heading t → Shows heading u → t ≡ u
heading_once t u = shows_same

pub last_line_once : (c : Catalogue) (t u : Text) → Shows (last_line c) t → Shows (last_line c) u → t ≡ u
last_line_once c t u = shows_same

pub refused_file_once : (r : Refusal) (t u : Text) → Shows (refused_file r) t → Shows (refused_file r) u → t ≡ u
refused_file_once r t u = shows_same
