-- HelpFlagged(prev, del) and TryMark(del), figure 4.
use Rattle.std.specs.Prelude.{if◌then◌else◌, ℕ, true, false, List, eqb}
use Rattle.model.specs.State.{row_at, succ_of}
use Rattle.model.specs.Cas.{flagged_only, succ_at, cas}
use Rattle.model.specs.Effects.{go, go_writing, call_help_flagged}
use Rattle.model.specs.HelpMarked.{help_marked_1, help_marked_2}
use Rattle.model.specs.Insert.{insert_frame, insert_19}
use Rattle.model.specs.Delete.{delete_7}
use Rattle.model.specs.declared.Row.{Row}
use Rattle.model.specs.declared.Pending.{Pending}
use Rattle.model.specs.declared.Effect.{Effect}
use Rattle.model.specs.declared.Write.TheVariants.{OneRow}
use Rattle.model.specs.declared.Stack.TheVariants.{Push, Pop}
use Rattle.model.specs.declared.HelpCaller.{HelpCaller}
use Rattle.model.specs.declared.HelpCaller.TheVariants.{Insert8, Insert16, Delete6}
use Rattle.model.specs.declared.HelpFrame.{HelpFrame}
use Rattle.model.specs.declared.HelpLine.{HelpLine}
use Rattle.model.specs.declared.HelpLine.TheVariants.{HelpFlagged1, HelpFlagged2, TryMark2, TryMark3, TryMark6, HelpMarked1, HelpMarked2}
use Rattle.model.specs.declared.InsertLine.TheVariants.{Insert17}
use Rattle.model.specs.declared.Line.{Line}
use Rattle.model.specs.declared.Line.TheVariants.{Insert, Help}

abbrev pub with_backlink : Row → ℕ → Row
with_backlink r p = record { key = r.key; element = r.element; backlink = p; succ = r.succ; standing = r.standing }

-- HelpFlagged, line 1 writes del.backlink = prev.
unfoldable pub help_flagged_1 : List Row → HelpFrame → Effect
help_flagged_1 rows f = go_writing (OneRow f.del (with_backlink (row_at rows f.del) f.prev)) (Help HelpFlagged2 f)

-- HelpFlagged, line 2 reads del's mark. Line 3: if it is 0, TryMark(del), and line 4 after it. Else line 4 at once: HelpMarked(prev, del).
unfoldable pub help_flagged_2 : List Row → HelpFrame → Effect
help_flagged_2 rows f = if (succ_at rows f.del).mark then go (Help HelpMarked1 f) else go (Help TryMark2 f)

-- TryMark, line 2 reads del.right.
unfoldable pub try_mark_2 : List Row → HelpFrame → Effect
try_mark_2 rows f = go (Help (TryMark3 (succ_at rows f.del).right) f)

-- TryMark, line 3: C&S del from (right,0,0) to (right,1,0). Lines 4 and 5: if the result is unmarked and flagged, the running help
-- becomes a pending help and HelpFlagged(del, result's right) runs. Else line 6.
unfoldable pub try_mark_3 : List Row → HelpFrame → ℕ → Effect
try_mark_3 rows f right =
    let result = succ_at rows f.del in
    let swap = cas rows f.del (succ_of right false false) (succ_of right true false) in
    if flagged_only result
    then record {
      line = call_help_flagged f.key f.element f.del result.right f.caller;
      write = swap;
      stack = Push (record { prev = f.prev; del = f.del });
    }
    else go_writing swap (Help TryMark6 f)

-- TryMark, line 6 reads del's mark: repeat until it is 1. Then HelpFlagged's line 4: HelpMarked(prev, del).
unfoldable pub try_mark_6 : List Row → HelpFrame → Effect
try_mark_6 rows f = if (succ_at rows f.del).mark then go (Help HelpMarked1 f) else go (Help TryMark2 f)

-- The outermost HelpFlagged has returned: Insert's line 8 goes on with line 19, its line 16 with line 17, Delete's line 6 with line 7.
unfoldable pub help_flagged_returns : List Row → ℕ → ℕ → HelpCaller → Line
help_flagged_returns rows key element (Insert8 prev new) = insert_19 key element prev new
help_flagged_returns rows key element (Insert16 prev new) = Insert (Insert17 new) (insert_frame key element prev)
help_flagged_returns rows key element (Delete6 target result) = delete_7 rows target result

-- HelpFlagged, line 4: HelpMarked(prev, del), its first access.
abbrev pub help_flagged_4_help_marked_1 : List Row → HelpFrame → Effect
help_flagged_4_help_marked_1 rows f = go (Help (HelpMarked2 (help_marked_1 rows f.del)) f)

-- HelpFlagged, line 4, its HelpMarked's second access. Then HelpFlagged returns: to the last pending help, which runs again
-- at TryMark's line 6, or to its caller if none is pending.
unfoldable pub help_flagged_4_help_marked_2 : List Row → ℕ → Pending → HelpFrame → ℕ → Effect
help_flagged_4_help_marked_2 rows count last f right =
    if eqb count 0
    then go_writing (help_marked_2 rows f.prev f.del right) (help_flagged_returns rows f.key f.element f.caller)
    else record {
      line = Help TryMark6 (record { key = f.key; element = f.element; prev = last.prev; del = last.del; caller = f.caller });
      write = help_marked_2 rows f.prev f.del right;
      stack = Pop;
    }

-- Which definition belongs to which line. `count` pending helps wait, the last of them `last`.
unfoldable pub help_line : List Row → ℕ → Pending → HelpFrame → HelpLine → Effect
help_line rows count last f HelpFlagged1 = help_flagged_1 rows f
help_line rows count last f HelpFlagged2 = help_flagged_2 rows f
help_line rows count last f TryMark2 = try_mark_2 rows f
help_line rows count last f (TryMark3 right) = try_mark_3 rows f right
help_line rows count last f TryMark6 = try_mark_6 rows f
help_line rows count last f HelpMarked1 = help_flagged_4_help_marked_1 rows f
help_line rows count last f (HelpMarked2 right) = help_flagged_4_help_marked_2 rows count last f right
