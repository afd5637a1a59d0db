-- What the facts of a line say of the rows that it names: the help that it runs, the row that an insert holds, TryFlag's target.
use Rattle.std.specs.Prelude.{ℕ, Bool, ◌≡◌, refl, ◌≢◌, List, [], ◌∷◌}
use Rattle.std.proofs.Common.{ap, subst}
use Rattle.order.proofs.Table.{Table}
use Rattle.order.proofs.Structure.{Helpable}
use Rattle.order.proofs.Facts.{Fact, SaveOf, Holding, AllHold, search_caller_facts, search_facts, insert_facts, help_caller_facts, pending_facts, help_facts, facts}
use Rattle.order.specs.PlainMap.{Operation, insert, delete}
use Rattle.order.proofs.Memory.{search_operation, help_operation, operation_of}
use Rattle.model.specs.WellFormed.{held_row, held_in_search, held_in_insert, held_in_help, no_row_held}
use Rattle.model.specs.declared.Pending.{Pending}
use Rattle.model.specs.declared.SearchCaller.{SearchCaller}
use Rattle.model.specs.declared.SearchCaller.TheVariants.{Search1, Insert1, Insert19, Delete1, TryFlag11}
use Rattle.model.specs.declared.SearchFrame.{SearchFrame}
use Rattle.model.specs.declared.SearchLine.{SearchLine}
use Rattle.model.specs.declared.SearchLine.TheVariants.{SearchFrom1, SearchFrom3NextMark, SearchFrom3CurrMark, SearchFrom3CurrRight, SearchFrom4, SearchFrom5HelpMarked1, SearchFrom5HelpMarked2, SearchFrom6, SearchFrom9}
use Rattle.model.specs.declared.InsertFrame.{InsertFrame}
use Rattle.model.specs.declared.InsertLine.{InsertLine}
use Rattle.model.specs.declared.InsertLine.TheVariants.{Insert4, Insert6, Insert11, Insert17, Insert18}
use Rattle.model.specs.declared.FlagFrame.{FlagFrame}
use Rattle.model.specs.declared.FlagLine.{FlagLine}
use Rattle.model.specs.declared.HelpCaller.{HelpCaller}
use Rattle.model.specs.declared.HelpCaller.TheVariants.{Insert8, Insert16, Delete6}
use Rattle.model.specs.declared.HelpFrame.{HelpFrame}
use Rattle.model.specs.declared.HelpLine.{HelpLine}
use Rattle.model.specs.declared.HelpLine.TheVariants.{HelpFlagged1, HelpFlagged2, TryMark2, TryMark3, TryMark6, HelpMarked1, HelpMarked2}
use Rattle.model.specs.declared.Line.{Line}
use Rattle.model.specs.declared.Line.TheVariants.{Idle, Search, Insert, Flag, Help}

-- the operation is an insert, for which worker w holds the row
pub record HoldingFor (w : ℕ) (R : Table) (row : ℕ) (o : Operation) : Type 0 where
  pub key : ℕ
  pub element : ℕ
  pub is_insert : o ≡ insert key element
  pub holding : Holding w R row key element

-- the line is one of a delete of `key` that has chosen the row `target`
pub data Targets : Line → ℕ → ℕ → Type 0 where
  in_flag : {l : FlagLine} {f : FlagFrame} → Targets (Flag l f) f.target f.key
  in_search : {l : SearchLine} {f : SearchFrame} {target : ℕ} → f.caller ≡ TryFlag11 target → Targets (Search l f) target f.key
  in_help : {l : HelpLine} {f : HelpFrame} {target : ℕ} {result : Bool} → f.caller ≡ Delete6 target result
      → Targets (Help l f) target f.key

-- so the operation is the delete of `key`
pub targets_operation : {l : Line} {target key : ℕ} → Targets l target key → operation_of l ≡ delete key
targets_operation in_flag = refl
targets_operation (in_search {f = f} caller) = ap (search_operation f.key f.element) caller
targets_operation (in_help {f = f} caller) = ap (help_operation f.key f.element) caller

module _ (top w : ℕ) (R : Table) where
  -- ---- The facts that a line passes on ----

  search_caller_known : (l : SearchLine) (curr : ℕ) (rest : List Fact) → AllHold top w R (search_facts l curr rest) → AllHold top w R rest
  search_caller_known SearchFrom1 curr rest known = known
  search_caller_known (SearchFrom3NextMark next) curr rest (_, known) = known
  search_caller_known (SearchFrom3CurrMark next) curr rest (_, (_, known)) = known
  search_caller_known (SearchFrom3CurrRight next) curr rest (_, (_, (_, known))) = known
  search_caller_known (SearchFrom4 next) curr rest (_, (_, known)) = known
  search_caller_known (SearchFrom5HelpMarked1 next) curr rest (_, known) = known
  search_caller_known (SearchFrom5HelpMarked2 next right) curr rest (_, known) = known
  search_caller_known SearchFrom6 curr rest known = known
  search_caller_known SearchFrom9 curr rest known = known

  pub running_help : (l : HelpLine) (prev del : ℕ) (rest : List Fact) → AllHold top w R (help_facts l prev del rest)
      → Helpable R prev del × AllHold top w R rest
  running_help HelpFlagged1 prev del rest (help, known) = (help, known)
  running_help HelpFlagged2 prev del rest (helping, known) = (helping.help, known)
  running_help TryMark2 prev del rest (helping, known) = (helping.help, known)
  running_help (TryMark3 right) prev del rest (helping, known) = (helping.help, known)
  running_help TryMark6 prev del rest (helping, known) = (helping.help, known)
  running_help HelpMarked1 prev del rest (helping, (marked, known)) = (helping.help, known)
  running_help (HelpMarked2 right) prev del rest (helping, (frozen, known)) = (helping.help, known)

  -- under all pending helps stand the facts of the caller, about the row of the outermost one
  record CallerKnown (key element : ℕ) (caller : HelpCaller) : Type 0 where
    row : ℕ
    known : AllHold top w R (help_caller_facts key element row caller)

  help_caller_known : (key element : ℕ) (caller : HelpCaller) (hs : List Pending) (prev del : ℕ)
      → AllHold top w R (pending_facts key element caller hs prev del) → CallerKnown key element caller
  help_caller_known key element caller [] prev del known = record { row = del; known = known }
  help_caller_known key element caller (h ∷ hs) prev del (_, (_, known)) = help_caller_known key element caller hs h.prev h.del known

  caller_of_help : (l : HelpLine) (f : HelpFrame) (hs : List Pending)
      → AllHold top w R (help_facts l f.prev f.del (pending_facts f.key f.element f.caller hs f.prev f.del))
      → CallerKnown f.key f.element f.caller
  caller_of_help l f hs known =
      help_caller_known f.key f.element f.caller hs f.prev f.del (running_help l f.prev f.del _ known).1

  -- ---- The row that an insert holds ----

  for_insert : {row key element : ℕ} → Holding w R row key element → HoldingFor w R row (insert key element)
  for_insert holding = record { key = _; element = _; is_insert = refl; holding = holding }

  held_in_search_lem : (key element : ℕ) (caller : SearchCaller) → AllHold top w R (search_caller_facts key element caller)
      → held_in_search caller ≢ no_row_held → HoldingFor w R (held_in_search caller) (search_operation key element caller)
  held_in_search_lem key element Search1 known some = absurd (some refl)
  held_in_search_lem key element Insert1 known some = absurd (some refl)
  held_in_search_lem key element (Insert19 new) (holding, _) some = for_insert holding
  held_in_search_lem key element Delete1 known some = absurd (some refl)
  held_in_search_lem key element (TryFlag11 target) known some = absurd (some refl)

  held_in_insert_lem : (l : InsertLine) (f : InsertFrame) → AllHold top w R (insert_facts l f) → held_in_insert l ≢ no_row_held
      → HoldingFor w R (held_in_insert l) (insert f.key f.element)
  held_in_insert_lem (Insert4 next) f known some = absurd (some refl)
  held_in_insert_lem (Insert6 next new) f (_, (holding, _)) some = for_insert holding
  held_in_insert_lem (Insert11 next new) f (_, (holding, _)) some = for_insert holding
  held_in_insert_lem (Insert17 new) f (holding, _) some = for_insert holding
  held_in_insert_lem (Insert18 new) f (_, (holding, _)) some = for_insert holding

  held_in_help_lem : (key element del : ℕ) (caller : HelpCaller) → AllHold top w R (help_caller_facts key element del caller)
      → held_in_help caller ≢ no_row_held → HoldingFor w R (held_in_help caller) (help_operation key element caller)
  held_in_help_lem key element del (Insert8 prev new) (_, (holding, _)) some = for_insert holding
  held_in_help_lem key element del (Insert16 prev new) (_, (holding, _)) some = for_insert holding
  held_in_help_lem key element del (Delete6 target result) known some = absurd (some refl)

  -- the row that a line names is held, for an insert of its key and element
  pub named_is_held_lem : (l : Line) (hs : List Pending) → AllHold top w R (facts l hs) → held_row l ≢ no_row_held
      → HoldingFor w R (held_row l) (operation_of l)
  unfolding held_row
  named_is_held_lem (Idle a) hs known some = absurd (some refl)
  named_is_held_lem (Search l f) hs (_, (_, (_, known))) some =
      held_in_search_lem f.key f.element f.caller (search_caller_known l f.curr _ known) some
  named_is_held_lem (Insert l f) hs (_, (_, (_, known))) some = held_in_insert_lem l f known some
  named_is_held_lem (Flag l f) hs known some = absurd (some refl)
  named_is_held_lem (Help l f) hs (_, known) some =
      let caller = caller_of_help l f hs known in
      held_in_help_lem f.key f.element caller.row f.caller caller.known some

  -- ---- TryFlag's target ----

  pub target_known : {l : Line} {target key : ℕ} (hs : List Pending) → Targets l target key → AllHold top w R (facts l hs)
      → SaveOf R target key
  target_known hs in_flag (_, (_, (_, (save, _)))) = save
  target_known hs (in_search {l = l} {f = f} {target = target} caller) (_, (_, (_, known))) =
      let of_caller = search_caller_known l f.curr (search_caller_facts f.key f.element f.caller) known in
      let save : AllHold top w R (search_caller_facts f.key f.element (TryFlag11 target)) =
      subst (λ (x : SearchCaller). AllHold top w R (search_caller_facts f.key f.element x)) caller of_caller in
      save.0
  target_known hs (in_help {l = l} {f = f} {target = target} {result = result} caller) (_, known) =
      let of_caller = caller_of_help l f hs known in
      let save : AllHold top w R (help_caller_facts f.key f.element of_caller.row (Delete6 target result)) =
      subst (λ (x : HelpCaller). AllHold top w R (help_caller_facts f.key f.element of_caller.row x)) caller
      of_caller.known in
      save.1.0
