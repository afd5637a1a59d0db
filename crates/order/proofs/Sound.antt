-- What holds of every reached state: the rows have the structure, each worker's facts hold, a held row is named by its holder, and the
-- arrays have their sizes. The empty catalogue is the first such state.
use Rattle.std.specs.Prelude.{ℕ, zero, suc, ◌≤◌, ◌≡◌, refl}
use Rattle.std.proofs.Common.{ap, sym, subst}
use Rattle.order.proofs.Table.{standing_of, table_of}
use Rattle.order.proofs.Structure.{Structure}
use Rattle.order.proofs.EmptyTable.{empty_table, empty_save, empty_structure}
use Rattle.order.proofs.Stack.{stack_of, stack_in}
use Rattle.order.proofs.Facts.{AllHold, facts}
use Rattle.kept.specs.Standing.{held_not_linked, free_not_held}
use Rattle.kept.specs.Sized.{Sized, empty_sized}
use Rattle.kept.specs.Stores.{copy_at}
use Rattle.kept.specs.Ways.{line_of, worker_in}
use Rattle.model.specs.State.{idle_worker, empty_catalogue}
use Rattle.model.specs.WellFormed.{held_row}
use Rattle.model.specs.declared.Answer.TheVariants.{NoAnswer}
use Rattle.model.specs.declared.Standing.TheVariants.{Held}
use Rattle.model.specs.declared.Row.{Row}
use Rattle.model.specs.declared.Worker.{Worker}
use Rattle.model.specs.declared.Catalogue.{Catalogue}

pub record Sound (top : ℕ) (c : Catalogue) : Type 0 where
  pub structure : Structure top (table_of c)
  pub known : (w : ℕ) → AllHold top w (table_of c) (facts (line_of c w) (stack_in c w))
  pub named : (w x : ℕ) → standing_of (table_of c) x ≡ Held w → held_row (line_of c w) ≡ x
  pub sizes : Sized c

-- past the end of the workers stands a fresh one too
pub all_fresh : (w : ℕ) → worker_in empty_catalogue w ≡ idle_worker NoAnswer
all_fresh w = copy_at 8 (idle_worker NoAnswer) w

none_held : (x w : ℕ) → standing_of empty_table x ≡ Held w → ⊥
none_held zero w h = held_not_linked h refl
none_held (suc zero) w h = held_not_linked h refl
none_held (suc (suc x)) w h =
    free_not_held (ap (λ (r : Row). r.standing) (empty_save x)) h

pub empty_sound : (top : ℕ) → 1 ≤ top → Sound top empty_catalogue
empty_sound top positive = record {
  structure = empty_structure top positive;
  known = λ w. subst (λ (k : Worker). AllHold top w empty_table (facts k.line (stack_of k))) (sym (all_fresh w)) tt;
  named = λ w x h. absurd (none_held x w h);
  sizes = empty_sized;
}
