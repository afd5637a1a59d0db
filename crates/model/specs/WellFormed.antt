-- When a state is well formed: a test whose named parts say the clauses of document 01. That a busy worker's line belongs to its
-- request, or to a routine which that request calls, is said by the types: each case of `Line` is one request's own, or names its caller.
use Rattle.std.specs.Prelude.{if◌then◌else◌, ℕ, suc, Bool, true, false, not, ◌&&◌, List, [], ◌∷◌, ltb, leb, eqb}
use Rattle.model.specs.State.{row_at, worker_at}
use Rattle.model.specs.declared.Row.{Row}
use Rattle.model.specs.declared.Succ.{Succ}
use Rattle.model.specs.declared.Standing.{Standing}
use Rattle.model.specs.declared.Standing.TheVariants.{Free, Held, Linked}
use Rattle.model.specs.declared.Pending.{Pending}
use Rattle.model.specs.declared.Worker.{Worker}
use Rattle.model.specs.declared.Catalogue.{Catalogue}
use Rattle.model.specs.declared.SearchCaller.{SearchCaller}
use Rattle.model.specs.declared.SearchCaller.TheVariants.{Search1, Insert1, Insert19, Delete1, TryFlag11}
use Rattle.model.specs.declared.SearchLine.{SearchLine}
use Rattle.model.specs.declared.SearchLine.TheVariants.{SearchFrom1, SearchFrom3NextMark, SearchFrom3CurrMark, SearchFrom3CurrRight, SearchFrom4, SearchFrom5HelpMarked1, SearchFrom5HelpMarked2, SearchFrom6, SearchFrom9}
use Rattle.model.specs.declared.InsertLine.{InsertLine}
use Rattle.model.specs.declared.InsertLine.TheVariants.{Insert4, Insert6, Insert11, Insert17, Insert18}
use Rattle.model.specs.declared.HelpCaller.{HelpCaller}
use Rattle.model.specs.declared.HelpCaller.TheVariants.{Insert8, Insert16, Delete6}
use Rattle.model.specs.declared.HelpLine.{HelpLine}
use Rattle.model.specs.declared.HelpLine.TheVariants.{HelpFlagged1, HelpFlagged2, TryMark2, TryMark3, TryMark6, HelpMarked1, HelpMarked2}
use Rattle.model.specs.declared.Line.{Line}
use Rattle.model.specs.declared.Line.TheVariants.{Idle, Search, Insert, Flag, Help}

-- the test holds of each element at its index, the first standing at i
unfoldable pub all_from : {A : Type 0} → (ℕ → A → Bool) → ℕ → List A → Bool
all_from p i [] = true
all_from p i (x ∷ xs) = p i x && all_from p (suc i) xs

-- Every row number is below 128: in a row, in what a line's case carries, in a pending help (the slots that are not in use too).

abbrev pub is_row : ℕ → Bool
is_row i = ltb i 128

abbrev pub row_numbers : Row → Bool
row_numbers r = is_row r.succ.right && is_row r.backlink

abbrev pub search_caller_numbers : SearchCaller → Bool
search_caller_numbers Search1 = true
search_caller_numbers Insert1 = true
search_caller_numbers (Insert19 new) = is_row new
search_caller_numbers Delete1 = true
search_caller_numbers (TryFlag11 target) = is_row target

abbrev pub search_line_numbers : SearchLine → Bool
search_line_numbers SearchFrom1 = true
search_line_numbers (SearchFrom3NextMark next) = is_row next
search_line_numbers (SearchFrom3CurrMark next) = is_row next
search_line_numbers (SearchFrom3CurrRight next) = is_row next
search_line_numbers (SearchFrom4 next) = is_row next
search_line_numbers (SearchFrom5HelpMarked1 next) = is_row next
search_line_numbers (SearchFrom5HelpMarked2 next right) = is_row next && is_row right
search_line_numbers SearchFrom6 = true
search_line_numbers SearchFrom9 = true

abbrev pub insert_line_numbers : InsertLine → Bool
insert_line_numbers (Insert4 next) = is_row next
insert_line_numbers (Insert6 next new) = is_row next && is_row new
insert_line_numbers (Insert11 next new) = is_row next && is_row new
insert_line_numbers (Insert17 new) = is_row new
insert_line_numbers (Insert18 new) = is_row new

abbrev pub help_caller_numbers : HelpCaller → Bool
help_caller_numbers (Insert8 prev new) = is_row prev && is_row new
help_caller_numbers (Insert16 prev new) = is_row prev && is_row new
help_caller_numbers (Delete6 target result) = is_row target

abbrev pub help_line_numbers : HelpLine → Bool
help_line_numbers HelpFlagged1 = true
help_line_numbers HelpFlagged2 = true
help_line_numbers TryMark2 = true
help_line_numbers (TryMark3 right) = is_row right
help_line_numbers TryMark6 = true
help_line_numbers HelpMarked1 = true
help_line_numbers (HelpMarked2 right) = is_row right

unfoldable pub line_numbers : Line → Bool
line_numbers (Idle a) = true
line_numbers (Search l f) = search_line_numbers l && is_row f.curr && search_caller_numbers f.caller
line_numbers (Insert l f) = insert_line_numbers l && is_row f.prev
line_numbers (Flag l f) = is_row f.prev && is_row f.target
line_numbers (Help l f) = help_line_numbers l && is_row f.prev && is_row f.del && help_caller_numbers f.caller

abbrev pub pending_numbers : ℕ → Pending → Bool
pending_numbers i h = is_row h.prev && is_row h.del

-- No successor has mark and flag both set.
abbrev pub not_both : Succ → Bool
not_both s = not (s.mark && s.flag)

-- Rows 0 and 1 are linked.

abbrev pub is_linked : Standing → Bool
is_linked Free = false
is_linked (Held w) = false
is_linked Linked = true

abbrev pub ends_linked : ℕ → Standing → Bool
ends_linked i s = if ltb i 2 then is_linked s else true

-- Each worker has at most 8 pending helps, and only lines inside HelpFlagged have any.

abbrev pub inside_help_flagged : Line → Bool
inside_help_flagged (Idle a) = false
inside_help_flagged (Search l f) = false
inside_help_flagged (Insert l f) = false
inside_help_flagged (Flag l f) = false
inside_help_flagged (Help l f) = true

abbrev pub few_helps : Worker → Bool
few_helps worker = leb worker.count 8

abbrev pub helps_inside : Worker → Bool
helps_inside worker = if inside_help_flagged worker.line then true else eqb worker.count 0

-- A row is held by worker w exactly when w is in an unfinished insert past line 4 and names that row.

-- no row has this number
abbrev pub no_row_held : ℕ
no_row_held = 128

abbrev pub held_in_search : SearchCaller → ℕ
held_in_search Search1 = no_row_held
held_in_search Insert1 = no_row_held
held_in_search (Insert19 new) = new
held_in_search Delete1 = no_row_held
held_in_search (TryFlag11 target) = no_row_held

abbrev pub held_in_insert : InsertLine → ℕ
held_in_insert (Insert4 next) = no_row_held
held_in_insert (Insert6 next new) = new
held_in_insert (Insert11 next new) = new
held_in_insert (Insert17 new) = new
held_in_insert (Insert18 new) = new

abbrev pub held_in_help : HelpCaller → ℕ
held_in_help (Insert8 prev new) = new
held_in_help (Insert16 prev new) = new
held_in_help (Delete6 target result) = no_row_held

-- the row that an unfinished insert past line 4 names
unfoldable pub held_row : Line → ℕ
held_row (Idle a) = no_row_held
held_row (Search l f) = held_in_search f.caller
held_row (Insert l f) = held_in_insert l
held_row (Flag l f) = no_row_held
held_row (Help l f) = held_in_help f.caller

-- a held row is named by the worker that holds it, which is one of the eight
unfoldable pub holder_names : List Worker → ℕ → Standing → Bool
holder_names workers i Free = true
holder_names workers i (Held w) = ltb w 8 && eqb (held_row (worker_at workers w).line) i
holder_names workers i Linked = true

abbrev pub held_by : ℕ → Standing → Bool
held_by w Free = false
held_by w (Held v) = eqb v w
held_by w Linked = false

-- the row that a worker names is held by it
unfoldable pub named_is_held : List Row → ℕ → Line → Bool
named_is_held rows w line =
    if eqb (held_row line) no_row_held then true else held_by w (row_at rows (held_row line)).standing

unfoldable pub row_well : List Worker → ℕ → Row → Bool
row_well workers i r =
    row_numbers r && not_both r.succ && ends_linked i r.standing && holder_names workers i r.standing

unfoldable pub worker_well : List Row → ℕ → Worker → Bool
worker_well rows w worker =
    line_numbers worker.line && all_from pending_numbers 0 worker.helps && few_helps worker && helps_inside worker && named_is_held rows w worker.line

unfoldable pub well_formed : Catalogue → Bool
well_formed c = all_from (row_well c.workers) 0 c.rows && all_from (worker_well c.rows) 0 c.workers
