-- The row numbers that a busy line carries, part by part, for each group of lines.
use Rattle.std.specs.Prelude.{true, ◌&&◌, ◌≡◌}
use Rattle.model.specs.WellFormed.{is_row, line_numbers, search_line_numbers, search_caller_numbers, insert_line_numbers, help_line_numbers, help_caller_numbers}
use Rattle.model.specs.declared.SearchLine.{SearchLine}
use Rattle.model.specs.declared.SearchFrame.{SearchFrame}
use Rattle.model.specs.declared.InsertLine.{InsertLine}
use Rattle.model.specs.declared.InsertFrame.{InsertFrame}
use Rattle.model.specs.declared.FlagLine.{FlagLine}
use Rattle.model.specs.declared.FlagFrame.{FlagFrame}
use Rattle.model.specs.declared.HelpLine.{HelpLine}
use Rattle.model.specs.declared.HelpFrame.{HelpFrame}
use Rattle.model.specs.declared.Line.TheVariants.{Search, Insert, Flag, Help}
use Rattle.std.proofs.lemmas.Bool.{and_parts, and_from}

pub record SearchNumbers (l : SearchLine) (f : SearchFrame) : Type 0 where
  pub line : search_line_numbers l ≡ true
  pub curr : is_row f.curr ≡ true
  pub caller : search_caller_numbers f.caller ≡ true

pub record InsertNumbers (l : InsertLine) (f : InsertFrame) : Type 0 where
  pub line : insert_line_numbers l ≡ true
  pub prev : is_row f.prev ≡ true

pub record FlagNumbers (f : FlagFrame) : Type 0 where
  pub prev : is_row f.prev ≡ true
  pub target : is_row f.target ≡ true

pub record HelpNumbers (l : HelpLine) (f : HelpFrame) : Type 0 where
  pub line : help_line_numbers l ≡ true
  pub prev : is_row f.prev ≡ true
  pub del : is_row f.del ≡ true
  pub caller : help_caller_numbers f.caller ≡ true

pub search_numbers : (l : SearchLine) (f : SearchFrame) → line_numbers (Search l f) ≡ true → SearchNumbers l f
unfolding line_numbers
search_numbers l f h =
    let outer = and_parts (search_line_numbers l && is_row f.curr) _ h in
    let inner = and_parts (search_line_numbers l) _ outer.0 in
    record { line = inner.0; curr = inner.1; caller = outer.1 }

pub if_search_numbers : (l : SearchLine) (f : SearchFrame) → SearchNumbers l f → line_numbers (Search l f) ≡ true
unfolding line_numbers
if_search_numbers l f n =
    and_from (search_line_numbers l && is_row f.curr) _ (and_from (search_line_numbers l) _ n.line n.curr) n.caller

pub insert_numbers : (l : InsertLine) (f : InsertFrame) → line_numbers (Insert l f) ≡ true → InsertNumbers l f
unfolding line_numbers
insert_numbers l f h =
    let parts = and_parts (insert_line_numbers l) _ h in
    record { line = parts.0; prev = parts.1 }

pub if_insert_numbers : (l : InsertLine) (f : InsertFrame) → InsertNumbers l f → line_numbers (Insert l f) ≡ true
unfolding line_numbers
if_insert_numbers l f n = and_from (insert_line_numbers l) _ n.line n.prev

pub flag_numbers : (l : FlagLine) (f : FlagFrame) → line_numbers (Flag l f) ≡ true → FlagNumbers f
unfolding line_numbers
flag_numbers l f h =
    let parts = and_parts (is_row f.prev) _ h in
    record { prev = parts.0; target = parts.1 }

pub if_flag_numbers : (l : FlagLine) (f : FlagFrame) → FlagNumbers f → line_numbers (Flag l f) ≡ true
unfolding line_numbers
if_flag_numbers l f n = and_from (is_row f.prev) _ n.prev n.target

pub help_numbers : (l : HelpLine) (f : HelpFrame) → line_numbers (Help l f) ≡ true → HelpNumbers l f
unfolding line_numbers
help_numbers l f h =
    let outer = and_parts (help_line_numbers l && is_row f.prev && is_row f.del) _ h in
    let middle = and_parts (help_line_numbers l && is_row f.prev) _ outer.0 in
    let inner = and_parts (help_line_numbers l) _ middle.0 in
    record { line = inner.0; prev = inner.1; del = middle.1; caller = outer.1 }

pub if_help_numbers : (l : HelpLine) (f : HelpFrame) → HelpNumbers l f → line_numbers (Help l f) ≡ true
unfolding line_numbers
if_help_numbers l f n =
    and_from (help_line_numbers l && is_row f.prev && is_row f.del) _
    (and_from (help_line_numbers l && is_row f.prev) _ (and_from (help_line_numbers l) _ n.line n.prev) n.del)
    n.caller
