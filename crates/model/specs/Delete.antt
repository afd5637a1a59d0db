-- Delete, figure 4, and TryFlag, figure 5. A definition stands before its use, so TryFlag's lines 5 to 8 come before its line 4.
use Rattle.std.specs.Prelude.{if◌then◌else◌, ℕ, Bool, true, false, List, eqb}
use Rattle.model.specs.State.{row_at, succ_of}
use Rattle.model.specs.Order.{has_key}
use Rattle.model.specs.Cas.{same_succ, succ_at, cas}
use Rattle.model.specs.Effects.{go, go_writing, finish, call_search_from, call_try_flag, call_help_flagged}
use Rattle.model.specs.declared.Row.{Row}
use Rattle.model.specs.declared.Succ.{Succ}
use Rattle.model.specs.declared.Answer.TheVariants.{Absent, Removed}
use Rattle.model.specs.declared.Effect.{Effect}
use Rattle.model.specs.declared.SearchCaller.TheVariants.{TryFlag11}
use Rattle.model.specs.declared.HelpCaller.TheVariants.{Delete6}
use Rattle.model.specs.declared.FlagFrame.{FlagFrame}
use Rattle.model.specs.declared.FlagLine.{FlagLine}
use Rattle.model.specs.declared.FlagLine.TheVariants.{TryFlag2, TryFlag4, TryFlag9, TryFlag10}
use Rattle.model.specs.declared.Line.{Line}
use Rattle.model.specs.declared.Line.TheVariants.{Idle, Flag}

-- Delete, lines 2 to 4, after line 1's SearchFrom returned (prev, del): Absent if del has not the key, else TryFlag(prev, del).
unfoldable pub delete_2 : List Row → ℕ → ℕ → ℕ → Effect
delete_2 rows key prev del = if has_key rows del key then go (call_try_flag key prev del) else finish Absent

-- Delete, lines 5 and 6: TryFlag returned prev with its result, so HelpFlagged(prev, target).
abbrev pub delete_6 : FlagFrame → Bool → Line
delete_6 f result = call_help_flagged f.key 0 f.prev f.target (Delete6 f.target result)

-- Delete, lines 7 to 9: Removed with the target's element if TryFlag's result is true, else Absent.
unfoldable pub delete_7 : List Row → ℕ → Bool → Line
delete_7 rows target result = if result then Idle (Removed (row_at rows target).element) else Idle Absent

-- TryFlag, line 2 reads prev's successor: (target,0,1) returns false with prev (line 3). Else line 4.
unfoldable pub try_flag_2 : List Row → FlagFrame → Effect
try_flag_2 rows f =
    if same_succ (succ_at rows f.prev) (succ_of f.target false true)
    then go (delete_6 f false)
    else go (Flag TryFlag4 f)

-- TryFlag, lines 5 to 8: success returns true with prev; a result of (target,0,1) returns false with prev. Else line 9.
unfoldable pub try_flag_5 : FlagFrame → Succ → Line
try_flag_5 f result =
    if same_succ result (succ_of f.target false false)
    then delete_6 f true
    else if same_succ result (succ_of f.target false true)
    then delete_6 f false
    else Flag TryFlag9 f

-- TryFlag, line 4: C&S prev from (target,0,0) to (target,0,1).
unfoldable pub try_flag_4 : List Row → FlagFrame → Effect
try_flag_4 rows f =
    go_writing
    (cas rows f.prev (succ_of f.target false false) (succ_of f.target false true))
    (try_flag_5 f (succ_at rows f.prev))

-- TryFlag, line 9 reads prev's mark: while it is set, line 10. Else line 11: SearchFrom(k − ε, prev), k being the request's key.
unfoldable pub try_flag_9 : List Row → FlagFrame → Effect
try_flag_9 rows f =
    if (succ_at rows f.prev).mark
    then go (Flag TryFlag10 f)
    else go (call_search_from f.key 0 f.prev (TryFlag11 f.target))

-- TryFlag, line 10 reads prev's backlink as prev, and line 9 reads again.
unfoldable pub try_flag_10 : List Row → FlagFrame → Effect
try_flag_10 rows f =
    go (Flag TryFlag9 (record { key = f.key; prev = (row_at rows f.prev).backlink; target = f.target }))

-- TryFlag, lines 12 and 13, after line 11's SearchFrom returned (prev, del): another row than the target returns false with no row, and so
-- Absent (Delete, lines 5 to 8). Else line 2 again.
unfoldable pub try_flag_12 : ℕ → ℕ → ℕ → ℕ → Effect
try_flag_12 key prev del target = if eqb del target then go (call_try_flag key prev target) else finish Absent

-- Which definition belongs to which line.
unfoldable pub flag_line : List Row → FlagFrame → FlagLine → Effect
flag_line rows f TryFlag2 = try_flag_2 rows f
flag_line rows f TryFlag4 = try_flag_4 rows f
flag_line rows f TryFlag9 = try_flag_9 rows f
flag_line rows f TryFlag10 = try_flag_10 rows f
