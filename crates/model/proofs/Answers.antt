-- How a line can end: with `Full` only from Insert's line 4, and never with `NoAnswer`, the answer 0 of a fresh worker, which is there
-- only before a worker's first finish.
use Rattle.std.specs.Prelude.{ℕ, ◌<◌, Bool, true, not, ◌≡◌, ◌≢◌, List, length, set, ltb, eqb}
use Rattle.std.proofs.Math.Bool.{false}
use Rattle.std.proofs.Common.{true≢false, ap, sym, ◌∙◌, arith, get_or-set_same}
use Rattle.std.proofs.Math.Path.{refl}
use Rattle.std.proofs.Math.Decide.{dec_lt}
use Rattle.std.proofs.Math.ListN.{get_or-eq_default}
use Rattle.model.specs.State.{row_at, worker_at, idle_worker, idle, succ_of}
use Rattle.model.specs.Order.{has_key}
use Rattle.model.specs.Cas.{same_succ, flagged_only, succ_at, with_succ}
use Rattle.model.specs.Insert.{insert_line, insert_2, insert_4, insert_6, insert_10_11, insert_15, insert_17, insert_18, insert_20, lowest_free}
use Rattle.model.specs.Delete.{flag_line, delete_2, delete_7, try_flag_2, try_flag_4, try_flag_5, try_flag_9, try_flag_10, try_flag_12}
use Rattle.model.specs.HelpFlagged.{help_line, help_flagged_1, help_flagged_2, help_flagged_4_help_marked_2, help_flagged_returns, try_mark_2, try_mark_3, try_mark_6}
use Rattle.model.specs.SearchFrom.{search_line, search_from_1, search_from_2, search_from_3_next_mark, search_from_3_curr_mark, search_from_3_curr_right, search_from_4, search_from_6, search_from_7, search_from_9, search_from_10, search_from_returns, reaches, search_2}
use Rattle.model.specs.WellFormed.{well_formed}
use Rattle.model.specs.Step.{step, step_worker, applied, ninth_help, worker_after, stacked, effect_of, line_effect, refuse}
use Rattle.model.proofs.Choices.{if_both, if_known}
use Rattle.model.specs.declared.Row.{Row}
use Rattle.model.specs.declared.Succ.{Succ}
use Rattle.model.specs.declared.Pending.{Pending}
use Rattle.model.specs.declared.Worker.{Worker}
use Rattle.model.specs.declared.Catalogue.{Catalogue}
use Rattle.model.specs.declared.Answer.{Answer}
use Rattle.model.specs.declared.Answer.TheVariants.{NoAnswer, Found, Absent, Added, Duplicate, Removed, Full}
use Rattle.model.specs.declared.Effect.{Effect}
use Rattle.model.specs.declared.Stack.{Stack}
use Rattle.model.specs.declared.Stack.TheVariants.{Keep, Push, Pop}
use Rattle.model.specs.declared.Stepped.{Stepped}
use Rattle.std.specs.Prelude.{Ok}
use Rattle.model.specs.declared.Refusal.{Refusal}
use Rattle.model.specs.declared.SearchCaller.{SearchCaller}
use Rattle.model.specs.declared.SearchCaller.TheVariants.{Search1, Insert1, Insert19, Delete1, TryFlag11}
use Rattle.model.specs.declared.SearchFrame.{SearchFrame}
use Rattle.model.specs.declared.SearchLine.{SearchLine}
use Rattle.model.specs.declared.SearchLine.TheVariants.{SearchFrom1, SearchFrom3NextMark, SearchFrom3CurrMark, SearchFrom3CurrRight, SearchFrom4, SearchFrom5HelpMarked1, SearchFrom5HelpMarked2, SearchFrom6, SearchFrom9}
use Rattle.model.specs.declared.InsertFrame.{InsertFrame}
use Rattle.model.specs.declared.InsertLine.{InsertLine}
use Rattle.model.specs.declared.InsertLine.TheVariants.{Insert4, Insert6, Insert11, Insert17, Insert18}
use Rattle.model.specs.declared.FlagFrame.{FlagFrame}
use Rattle.model.specs.declared.FlagLine.{FlagLine}
use Rattle.model.specs.declared.FlagLine.TheVariants.{TryFlag2, TryFlag4, TryFlag9, TryFlag10}
use Rattle.model.specs.declared.HelpCaller.{HelpCaller}
use Rattle.model.specs.declared.HelpCaller.TheVariants.{Insert8, Insert16, Delete6}
use Rattle.model.specs.declared.HelpFrame.{HelpFrame}
use Rattle.model.specs.declared.HelpLine.{HelpLine}
use Rattle.model.specs.declared.HelpLine.TheVariants.{HelpFlagged1, HelpFlagged2, TryMark2, TryMark3, TryMark6, HelpMarked1, HelpMarked2}
use Rattle.model.specs.declared.Line.{Line}
use Rattle.model.specs.declared.Line.TheVariants.{Idle, Search, Insert, Flag, Help}

-- the answers that any line may give
abbrev pub plain : Answer → Bool
plain NoAnswer = false
plain (Found e) = true
plain Absent = true
plain Added = true
plain Duplicate = true
plain (Removed e) = true
plain Full = false

-- Where a line may lead: to a busy line, to a plain answer, and from Insert's line 4, where no row is free, to Full.
pub data LeadsTo (rows : List Row) (from : Line) : Line → Type 0 where
  goes_on : {l : Line} → idle l ≡ false → LeadsTo rows from l
  answers : {a : Answer} → plain a ≡ true → LeadsTo rows from (Idle a)
  finds_none : {next : ℕ} {f : InsertFrame} → from ≡ Insert (Insert4 next) f → ltb (lowest_free rows) 128 ≡ false
      → LeadsTo rows from (Idle Full)

module _ (rows : List Row) (from : Line) where
  abbrev LeadsOn : Effect → Type 0
  LeadsOn e = LeadsTo rows from e.line

  -- ---- What SearchFrom returns to ----

  return_leads : (k e curr next : ℕ) (caller : SearchCaller) → LeadsOn (search_from_returns rows k e curr next caller)
  unfolding search_from_returns search_2 insert_2 insert_20 delete_2 try_flag_12
  return_leads k e curr next Search1 = if_both LeadsOn (has_key rows curr k) (answers refl) (answers refl)
  return_leads k e curr next Insert1 = if_both LeadsOn (has_key rows curr k) (answers refl) (goes_on refl)
  return_leads k e curr next (Insert19 new) = if_both LeadsOn (has_key rows curr k) (answers refl) (goes_on refl)
  return_leads k e curr next Delete1 = if_both LeadsOn (has_key rows next k) (goes_on refl) (answers refl)
  return_leads k e curr next (TryFlag11 target) = if_both LeadsOn (eqb next target) (goes_on refl) (answers refl)

  -- ---- SearchFrom ----

  module _ (f : SearchFrame) where
    line_10_leads : (next : ℕ) → LeadsOn (search_from_10 rows f next)
    unfolding search_from_10
    line_10_leads next = return_leads f.key f.element f.curr next f.caller

    line_2_leads : (next : ℕ) → LeadsOn (search_from_2 rows f next)
    unfolding search_from_2
    line_2_leads next = if_both LeadsOn (reaches rows f next) (goes_on refl) (line_10_leads next)

    line_7_leads : (next : ℕ) → LeadsOn (search_from_7 rows f next)
    unfolding search_from_7
    line_7_leads next = if_both LeadsOn (reaches rows f next) (goes_on refl) (line_10_leads next)

    search_leads : (l : SearchLine) → LeadsOn (search_line rows f l)
    unfolding search_line search_from_1 search_from_3_next_mark search_from_3_curr_mark search_from_3_curr_right search_from_4 search_from_6 search_from_9
    search_leads SearchFrom1 = line_2_leads _
    search_leads (SearchFrom3NextMark next) = if_both LeadsOn (succ_at rows next).mark (goes_on refl) (line_7_leads next)
    search_leads (SearchFrom3CurrMark next) = if_both LeadsOn (succ_at rows f.curr).mark (goes_on refl) (goes_on refl)
    search_leads (SearchFrom3CurrRight next) =
        if_both LeadsOn (eqb (succ_at rows f.curr).right next) (line_7_leads next) (goes_on refl)
    search_leads (SearchFrom4 next) = if_both LeadsOn (eqb (succ_at rows f.curr).right next) (goes_on refl) (goes_on refl)
    search_leads (SearchFrom5HelpMarked1 next) = goes_on refl
    search_leads (SearchFrom5HelpMarked2 next right) = goes_on refl
    search_leads SearchFrom6 = goes_on refl
    search_leads SearchFrom9 = line_2_leads _

  -- ---- Insert, TryFlag, HelpFlagged ----

  insert_15_leads : (f : InsertFrame) (new : ℕ) (result : Succ) → LeadsTo rows from (insert_15 f new result)
  unfolding insert_15
  insert_15_leads f new result = if_both (LeadsTo rows from) (flagged_only result) (goes_on refl) (goes_on refl)

  insert_leads : (me : ℕ) (f : InsertFrame) (l : InsertLine) → from ≡ Insert l f → LeadsOn (insert_line rows me f l)
  unfolding insert_line insert_4 insert_6 insert_10_11 insert_17 insert_18
  insert_leads me f (Insert4 next) at = if_known LeadsOn (ltb (lowest_free rows) 128) (λ _. goes_on refl) (finds_none at)
  insert_leads me f (Insert6 next new) at = if_both LeadsOn (succ_at rows f.prev).flag (goes_on refl) (goes_on refl)
  insert_leads me f (Insert11 next new) at =
      if_both LeadsOn
      (same_succ (succ_at (set rows new (with_succ (row_at rows new) (succ_of next false false))) f.prev) (succ_of next false false))
      (answers refl)
      (insert_15_leads f new _)
  insert_leads me f (Insert17 new) at = if_both LeadsOn (succ_at rows f.prev).mark (goes_on refl) (goes_on refl)
  insert_leads me f (Insert18 new) at = goes_on refl

  try_flag_5_leads : (f : FlagFrame) (result : Succ) → LeadsTo rows from (try_flag_5 f result)
  unfolding try_flag_5
  try_flag_5_leads f result =
      if_both (LeadsTo rows from) (same_succ result (succ_of f.target false false)) (goes_on refl)
      (if_both (LeadsTo rows from) (same_succ result (succ_of f.target false true)) (goes_on refl) (goes_on refl))

  flag_leads : (f : FlagFrame) (l : FlagLine) → LeadsOn (flag_line rows f l)
  unfolding flag_line try_flag_2 try_flag_4 try_flag_9 try_flag_10
  flag_leads f TryFlag2 =
      if_both LeadsOn (same_succ (succ_at rows f.prev) (succ_of f.target false true)) (goes_on refl) (goes_on refl)
  flag_leads f TryFlag4 = try_flag_5_leads f _
  flag_leads f TryFlag9 = if_both LeadsOn (succ_at rows f.prev).mark (goes_on refl) (goes_on refl)
  flag_leads f TryFlag10 = goes_on refl

  help_return_leads : (k e : ℕ) (caller : HelpCaller) → LeadsTo rows from (help_flagged_returns rows k e caller)
  unfolding help_flagged_returns delete_7
  help_return_leads k e (Insert8 prev new) = goes_on refl
  help_return_leads k e (Insert16 prev new) = goes_on refl
  help_return_leads k e (Delete6 target result) = if_both (LeadsTo rows from) result (answers refl) (answers refl)

  help_leads : (count : ℕ) (last : Pending) (f : HelpFrame) (l : HelpLine) → LeadsOn (help_line rows count last f l)
  unfolding help_line help_flagged_1 help_flagged_2 help_flagged_4_help_marked_2 try_mark_2 try_mark_3 try_mark_6
  help_leads count last f HelpFlagged1 = goes_on refl
  help_leads count last f HelpFlagged2 = if_both LeadsOn (succ_at rows f.del).mark (goes_on refl) (goes_on refl)
  help_leads count last f TryMark2 = goes_on refl
  help_leads count last f (TryMark3 right) = if_both LeadsOn (flagged_only (succ_at rows f.del)) (goes_on refl) (goes_on refl)
  help_leads count last f TryMark6 = if_both LeadsOn (succ_at rows f.del).mark (goes_on refl) (goes_on refl)
  help_leads count last f HelpMarked1 = goes_on refl
  help_leads count last f (HelpMarked2 right) =
      if_both LeadsOn (eqb count 0) (help_return_leads f.key f.element f.caller) (goes_on refl)

-- ---- A line ----

pub line_leads : (rows : List Row) (me count : ℕ) (last : Pending) (l : Line) → idle l ≡ false
    → LeadsTo rows l (line_effect rows me count last l).line
unfolding line_effect
line_leads rows me count last (Idle a) busy = goes_on busy
line_leads rows me count last (Search l f) busy = search_leads rows (Search l f) f l
line_leads rows me count last (Insert l f) busy = insert_leads rows (Insert l f) me f l refl
line_leads rows me count last (Flag l f) busy = flag_leads rows (Flag l f) f l
line_leads rows me count last (Help l f) busy = help_leads rows (Help l f) count last f l

abbrev NotFresh : Line → Type 0
NotFresh l = l ≢ Idle NoAnswer

not_fresh : {rows : List Row} {from l : Line} → LeadsTo rows from l → NotFresh l
not_fresh (goes_on busy) e = true≢false (sym (ap idle e) ∙ busy)
not_fresh (answers {a = a} given) e =
    let same : a ≡ NoAnswer = cc in
    true≢false (sym given ∙ ap plain same)
not_fresh (finds_none at no_row) e = let apart : ◌≡◌ {A = ℕ} 0 1 = cc in omega arith

-- ---- A step ----

pub stacked_line : (k : Worker) (l : Line) (s : Stack) → (stacked k l s).line ≡ l
unfolding stacked
stacked_line k l Keep = refl
stacked_line k l (Push h) = refl
stacked_line k l Pop = refl

pub line_after : (k : Worker) (e : Effect) → (worker_after k e).line ≡ e.line
unfolding worker_after
line_after k e = if_both (λ (x : Worker). x.line ≡ e.line) (idle e.line) refl (stacked_line k e.line e.stack)

-- a busy worker is one of the list
busy_inside : (workers : List Worker) (w : ℕ) → idle (worker_at workers w).line ≡ false → w < length workers
busy_inside workers w busy = elim (dec_lt w (length workers)) [
  | yes inside ↦ inside
  | no outside ↦
      let past : worker_at workers w ≡ idle_worker NoAnswer = get_or-eq_default workers (idle_worker NoAnswer) (omega arith) in
      let apart : ◌≡◌ {A = ℕ} 0 1 = cc in
      omega arith
]

module _ (c : Catalogue) (w : ℕ) where
  -- an accepted call leaves worker w with another line than a fresh one's
  abbrev Finishes : Stepped → Type 0
  Finishes s = s.verdict ≡ Ok tt → NotFresh (worker_at s.state.workers w).line

  refused_finishes : {r : Refusal} → Finishes (refuse r c)
  refused_finishes v finished = let apart : ◌≡◌ {A = ℕ} 0 1 = cc in omega arith

  applied_finishes : (e : Effect) → idle (worker_at c.workers w).line ≡ false → NotFresh e.line
      → Finishes (applied c w (worker_at c.workers w) e)
  unfolding applied
  applied_finishes e busy told =
      if_both Finishes (ninth_help (worker_at c.workers w).count e.stack)
      refused_finishes
      (λ _. rw (get_or-set_same c.workers w _ (idle_worker NoAnswer) (busy_inside c.workers w busy), line_after _ e) told)

  step_worker_finishes : Finishes (step_worker c w)
  unfolding step_worker effect_of
  step_worker_finishes =
      if_known Finishes (idle (worker_at c.workers w).line)
      (λ _. refused_finishes)
      (λ busy. applied_finishes _ busy (not_fresh (line_leads c.rows w _ _ (worker_at c.workers w).line busy)))

  step_finishes : Finishes (step c w)
  unfolding step
  step_finishes =
      if_both Finishes (ltb 7 w) refused_finishes (if_both Finishes (not (well_formed c)) refused_finishes step_worker_finishes)

  pub never_no_answer : (step c w).verdict ≡ Ok tt → (worker_at (step c w).state.workers w).line ≢ Idle NoAnswer
  never_no_answer = step_finishes
