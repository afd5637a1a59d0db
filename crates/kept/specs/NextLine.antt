-- A line to which a step may go: its numbers are rows, it names the row that the line before it named, and if it lies outside
-- HelpFlagged no help is pending.
use Rattle.std.specs.Prelude.{ℕ, true, false, ◌≡◌}
use Rattle.std.proofs.Math.Path.{refl}
use Rattle.model.specs.State.{idle}
use Rattle.model.specs.Effects.{call_search_from, call_try_flag, call_help_flagged}
use Rattle.model.specs.WellFormed.{is_row, search_caller_numbers, help_caller_numbers, line_numbers, held_row, held_in_search, held_in_insert, held_in_help, no_row_held, inside_help_flagged}
use Rattle.model.specs.declared.Answer.{Answer}
use Rattle.model.specs.declared.SearchCaller.{SearchCaller}
use Rattle.model.specs.declared.SearchLine.{SearchLine}
use Rattle.model.specs.declared.SearchLine.TheVariants.{SearchFrom1}
use Rattle.model.specs.declared.SearchFrame.{SearchFrame}
use Rattle.model.specs.declared.InsertLine.{InsertLine}
use Rattle.model.specs.declared.InsertFrame.{InsertFrame}
use Rattle.model.specs.declared.FlagLine.{FlagLine}
use Rattle.model.specs.declared.FlagLine.TheVariants.{TryFlag2}
use Rattle.model.specs.declared.FlagFrame.{FlagFrame}
use Rattle.model.specs.declared.HelpCaller.{HelpCaller}
use Rattle.model.specs.declared.HelpLine.{HelpLine}
use Rattle.model.specs.declared.HelpLine.TheVariants.{HelpFlagged1}
use Rattle.model.specs.declared.HelpFrame.{HelpFrame}
use Rattle.model.specs.declared.Line.{Line}
use Rattle.model.specs.declared.Line.TheVariants.{Idle, Search, Insert, Flag, Help}
use Rattle.kept.specs.LineNumbers.{SearchNumbers, InsertNumbers, FlagNumbers, HelpNumbers, if_search_numbers, if_insert_numbers, if_flag_numbers, if_help_numbers}
use Rattle.kept.specs.Conditions.{clash}

pub record NextLine (named count : ℕ) (line : Line) : Type 0 where
  pub numbers : line_numbers line ≡ true
  pub names : held_row line ≡ named
  pub helps : idle line ≡ false → inside_help_flagged line ≡ false → count ≡ 0

module _ (count : ℕ) where
  pub to_idle : (a : Answer) → NextLine no_row_held count (Idle a)
  unfolding line_numbers held_row
  to_idle a = record { numbers = refl; names = refl; helps = λ busy _. absurd (clash refl busy) }

  pub to_help : (l : HelpLine) (f : HelpFrame) → HelpNumbers l f → NextLine (held_in_help f.caller) count (Help l f)
  unfolding held_row
  to_help l f n = record { numbers = if_help_numbers l f n; names = refl; helps = λ _ outside. absurd (clash refl outside) }

  pub to_help_flagged : (key element prev del : ℕ) (caller : HelpCaller) → is_row prev ≡ true → is_row del ≡ true
      → help_caller_numbers caller ≡ true
      → NextLine (held_in_help caller) count (call_help_flagged key element prev del caller)
  to_help_flagged key element prev del caller p d c = to_help HelpFlagged1 _ (record { line = refl; prev = p; del = d; caller = c })

  module _ (none : count ≡ 0) where
    pub to_search : (l : SearchLine) (f : SearchFrame) → SearchNumbers l f → NextLine (held_in_search f.caller) count (Search l f)
    unfolding held_row
    to_search l f n = record { numbers = if_search_numbers l f n; names = refl; helps = λ _ _. none }

    pub to_insert : (l : InsertLine) (f : InsertFrame) → InsertNumbers l f → NextLine (held_in_insert l) count (Insert l f)
    unfolding held_row
    to_insert l f n = record { numbers = if_insert_numbers l f n; names = refl; helps = λ _ _. none }

    pub to_flag : (l : FlagLine) (f : FlagFrame) → FlagNumbers f → NextLine no_row_held count (Flag l f)
    unfolding held_row
    to_flag l f n = record { numbers = if_flag_numbers l f n; names = refl; helps = λ _ _. none }

    pub to_search_from : (key element curr : ℕ) (caller : SearchCaller) → is_row curr ≡ true → search_caller_numbers caller ≡ true
        → NextLine (held_in_search caller) count (call_search_from key element curr caller)
    to_search_from key element curr caller i c = to_search SearchFrom1 _ (record { line = refl; curr = i; caller = c })

    pub to_try_flag : (key prev target : ℕ) → is_row prev ≡ true → is_row target ≡ true
        → NextLine no_row_held count (call_try_flag key prev target)
    to_try_flag key prev target p t = to_flag TryFlag2 _ (record { prev = p; target = t })
