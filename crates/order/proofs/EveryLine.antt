-- Every line of a busy worker whose facts hold is lawful.
use Rattle.std.specs.Prelude.{ℕ, false, ◌≡◌, refl, List, length}
use Rattle.order.proofs.Structure.{Structure}
use Rattle.order.proofs.Stack.{Newest, newest, stack_of}
use Rattle.order.proofs.Facts.{AllHold, facts}
use Rattle.order.proofs.Lawful.{Lawful, removed_row}
use Rattle.order.proofs.SearchSteps.{search_lawful}
use Rattle.order.proofs.InsertSteps.{insert_lawful}
use Rattle.order.proofs.DeleteSteps.{flag_lawful}
use Rattle.order.proofs.HelpSteps.{help_lawful}
use Rattle.kept.specs.Conditions.{clash}
use Rattle.model.specs.State.{row_at, idle}
use Rattle.model.specs.Step.{line_effect, effect_of}
use Rattle.model.specs.WellFormed.{held_row}
use Rattle.model.specs.declared.Row.{Row}
use Rattle.model.specs.declared.Pending.{Pending}
use Rattle.model.specs.declared.Worker.{Worker}
use Rattle.model.specs.declared.Line.{Line}
use Rattle.model.specs.declared.Line.TheVariants.{Idle, Search, Insert, Flag, Help}

line_lawful : (top me : ℕ) (rows : List Row) (count : ℕ) (last : Pending) (hs : List Pending) (l : Line) → Structure top (row_at rows)
    → length rows ≡ 128 → Newest count last hs → idle l ≡ false → AllHold top me (row_at rows) (facts l hs)
    → Lawful top me rows (held_row l) (removed_row l) hs (line_effect rows me count last l)
unfolding line_effect held_row
line_lawful top me rows count last hs (Idle a) sound size newest busy known = absurd (clash refl busy)
line_lawful top me rows count last hs (Search l f) sound size newest busy known = search_lawful top me rows sound hs f l known
line_lawful top me rows count last hs (Insert l f) sound size newest busy known = insert_lawful top me rows sound hs l f size known
line_lawful top me rows count last hs (Flag l f) sound size newest busy known = flag_lawful top me rows sound hs f l known
line_lawful top me rows count last hs (Help l f) sound size newest busy known = help_lawful top me rows sound l f count last hs newest known

pub effect_lawful : (top me : ℕ) (rows : List Row) (k : Worker) → Structure top (row_at rows) → length rows ≡ 128 → idle k.line ≡ false
    → AllHold top me (row_at rows) (facts k.line (stack_of k))
    → Lawful top me rows (held_row k.line) (removed_row k.line) (stack_of k) (effect_of rows me k)
unfolding effect_of
effect_lawful top me rows k sound size busy known =
    line_lawful top me rows k.count _ (stack_of k) k.line sound size (newest k.helps k.count) busy known
