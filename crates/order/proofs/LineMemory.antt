-- Every line of a busy worker goes on with its operation and what it remembers, or gives an answer that was right at a moment since the
-- submit.
use Rattle.std.specs.Prelude.{ℕ, suc, ◌≤◌, false, ◌≡◌, List}
use Rattle.std.proofs.Math.Path.{refl}
use Rattle.order.proofs.Structure.{Structure}
use Rattle.order.proofs.Moves.{Move}
use Rattle.order.proofs.Stack.{Newest, newest, stack_of}
use Rattle.order.proofs.Facts.{AllHold, facts}
use Rattle.order.proofs.Lawful.{removed_row}
use Rattle.order.proofs.Memory.{Tells, Past, operation_of}
use Rattle.order.proofs.SearchMemory.{search_tells}
use Rattle.order.proofs.InsertMemory.{insert_tells}
use Rattle.order.proofs.DeleteMemory.{flag_tells}
use Rattle.order.proofs.HelpMemory.{help_tells}
use Rattle.order.proofs.Table.{tables_of}
use Rattle.kept.specs.Conditions.{clash}
use Rattle.model.specs.State.{row_at, idle}
use Rattle.model.specs.Step.{line_effect, effect_of}
use Rattle.model.specs.declared.Row.{Row}
use Rattle.model.specs.declared.Pending.{Pending}
use Rattle.model.specs.declared.Worker.{Worker}
use Rattle.model.specs.declared.Line.{Line}
use Rattle.model.specs.declared.Line.TheVariants.{Idle, Search, Insert, Flag, Help}

module _ (top : ℕ) (rows_at : ℕ → List Row) (who : ℕ → ℕ) (sound : (i : ℕ) → Structure top (row_at (rows_at i)))
    (move : (i : ℕ) → Move top (who i) (row_at (rows_at i)) (row_at (rows_at (suc i)))) (t u : ℕ) (since : t ≤ u) (me : ℕ) where
  line_tells : (count : ℕ) (last : Pending) (hs : List Pending) (l : Line) → Newest count last hs → idle l ≡ false
      → AllHold top me (row_at (rows_at u)) (facts l hs) → Past (tables_of rows_at) t u l
      → Tells me rows_at t u (operation_of l) (removed_row l) (line_effect (rows_at u) me count last l)
  unfolding line_effect
  line_tells count last hs (Idle a) newest busy known past = absurd (clash refl busy)
  line_tells count last hs (Search l f) newest busy known (unmarked, was, past) =
      search_tells top rows_at who sound move t u since me hs f l known unmarked was past
  line_tells count last hs (Insert l f) newest busy known past = insert_tells top rows_at who sound move t u since me hs f l known past
  line_tells count last hs (Flag l f) newest busy known (unmarked, past) =
      flag_tells top rows_at who sound move t u since me hs f l known unmarked past
  line_tells count last hs (Help l f) newest busy known past =
      help_tells top rows_at who sound move t u since me f past l count last hs newest known

  pub effect_tells : (k : Worker) → idle k.line ≡ false → AllHold top me (row_at (rows_at u)) (facts k.line (stack_of k))
      → Past (tables_of rows_at) t u k.line
      → Tells me rows_at t u (operation_of k.line) (removed_row k.line) (effect_of (rows_at u) me k)
  unfolding effect_of
  effect_tells k busy known past = line_tells k.count _ (stack_of k) k.line (newest k.helps k.count) busy known past
