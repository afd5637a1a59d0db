-- Insert, figure 5. Lines 2 and 20, which go on where SearchFrom has returned, come first. A definition stands before its use, so line
-- 15 comes before lines 10 and 11, and line 19 before line 17.
use Rattle.std.specs.Prelude.{if◌then◌else◌, ℕ, zero, suc, ◌+◌, Bool, true, false, List, set, ltb}
use Rattle.model.specs.State.{row_at, free_row, succ_of}
use Rattle.model.specs.Order.{has_key}
use Rattle.model.specs.Cas.{same_succ, flagged_only, with_succ, succ_at}
use Rattle.model.specs.Effects.{go, go_writing, finish, call_search_from, call_help_flagged}
use Rattle.model.specs.declared.Row.{Row}
use Rattle.model.specs.declared.Succ.{Succ}
use Rattle.model.specs.declared.Standing.{Standing}
use Rattle.model.specs.declared.Standing.TheVariants.{Free, Held, Linked}
use Rattle.model.specs.declared.Answer.TheVariants.{Added, Duplicate, Full}
use Rattle.model.specs.declared.Effect.{Effect}
use Rattle.model.specs.declared.Write.TheVariants.{OneRow, TwoRows}
use Rattle.model.specs.declared.SearchCaller.TheVariants.{Insert19}
use Rattle.model.specs.declared.HelpCaller.TheVariants.{Insert8, Insert16}
use Rattle.model.specs.declared.InsertFrame.{InsertFrame}
use Rattle.model.specs.declared.InsertLine.{InsertLine}
use Rattle.model.specs.declared.InsertLine.TheVariants.{Insert4, Insert6, Insert11, Insert17, Insert18}
use Rattle.model.specs.declared.Line.{Line}
use Rattle.model.specs.declared.Line.TheVariants.{Idle, Insert}

abbrev pub insert_frame : ℕ → ℕ → ℕ → InsertFrame
insert_frame key element prev = record { key = key; element = element; prev = prev }

-- Lines 2 and 3, after line 1's SearchFrom returned (prev, next): Duplicate if prev has the key, else line 4.
unfoldable pub insert_2 : List Row → ℕ → ℕ → ℕ → ℕ → Effect
insert_2 rows key element prev next =
    if has_key rows prev key then finish Duplicate else go (Insert (Insert4 next) (insert_frame key element prev))

-- Lines 20 to 22, after line 19's SearchFrom returned (prev, next): if prev has the key, the held row becomes free and zero:
-- Duplicate. Else line 6.
unfoldable pub insert_20 : List Row → ℕ → ℕ → ℕ → ℕ → ℕ → Effect
insert_20 rows key element prev next new =
    if has_key rows prev key
    then go_writing (OneRow new free_row) (Idle Duplicate)
    else go (Insert (Insert6 next new) (insert_frame key element prev))

abbrev pub is_free : Standing → Bool
is_free Free = true
is_free (Held w) = false
is_free Linked = false

-- the lowest free row among the n rows from i on; the row behind them if there is none
unfoldable pub lowest_free_from : List Row → ℕ → ℕ → ℕ
lowest_free_from rows zero i = i
lowest_free_from rows (suc n) i =
    let later = lowest_free_from rows n (i + 1) in
    if is_free (row_at rows i).standing then i else later

-- the lowest free row among 2 to 127; 128 if there is none
unfoldable pub lowest_free : List Row → ℕ
lowest_free rows = lowest_free_from rows 126 2

-- Line 4: the lowest free row is taken, with key and element, the rest of it zero. Full if there is none.
unfoldable pub insert_4 : List Row → ℕ → InsertFrame → ℕ → Effect
insert_4 rows me f next =
    let new = lowest_free rows in
    if ltb new 128
    then go_writing
    (OneRow new (record { key = f.key; element = f.element; backlink = 0; succ = succ_of 0 false false; standing = Held me }))
    (Insert (Insert6 next new) f)
    else finish Full

-- Line 6 reads prev's successor. Lines 7 and 8: if it is flagged, HelpFlagged(prev, its right). Else lines 10 and 11.
unfoldable pub insert_6 : List Row → InsertFrame → ℕ → ℕ → Effect
insert_6 rows f next new =
    if (succ_at rows f.prev).flag
    then go (call_help_flagged f.key f.element f.prev (succ_at rows f.prev).right (Insert8 f.prev new))
    else go (Insert (Insert11 next new) f)

-- Lines 15 and 16, after a failed C&S: if its result is unmarked and flagged, HelpFlagged(prev, its right). Else line 17.
unfoldable pub insert_15 : InsertFrame → ℕ → Succ → Line
insert_15 f new result =
    if flagged_only result
    then call_help_flagged f.key f.element f.prev result.right (Insert16 f.prev new)
    else Insert (Insert17 new) f

abbrev pub linked_row : Row → Row
linked_row r = record { key = r.key; element = r.element; backlink = r.backlink; succ = r.succ; standing = Linked }

-- Lines 10 and 11, one step. Line 10 stores the held row's successor (next,0,0); then line 11, on the rows with that store:
-- C&S prev from (next,0,0) to (new,0,0). Lines 12 and 13: on success the row is linked: Added.
unfoldable pub insert_10_11 : List Row → InsertFrame → ℕ → ℕ → Effect
insert_10_11 rows f next new =
    let stored = with_succ (row_at rows new) (succ_of next false false) in
    let result = succ_at (set rows new stored) f.prev in
    let linked = linked_row stored in
    if same_succ result (succ_of next false false)
    then go_writing
    (TwoRows new linked f.prev (with_succ (row_at (set rows new linked) f.prev) (succ_of new false false)))
    (Idle Added)
    else go_writing (OneRow new stored) (insert_15 f new result)

-- Line 19: SearchFrom(k, prev).
abbrev pub insert_19 : ℕ → ℕ → ℕ → ℕ → Line
insert_19 key element prev new = call_search_from key element prev (Insert19 new)

-- Line 17 reads prev's mark: while it is set, line 18. Else line 19.
unfoldable pub insert_17 : List Row → InsertFrame → ℕ → Effect
insert_17 rows f new =
    if (succ_at rows f.prev).mark
    then go (Insert (Insert18 new) f)
    else go (insert_19 f.key f.element f.prev new)

-- Line 18 reads prev's backlink as prev, and line 17 reads again.
unfoldable pub insert_18 : List Row → InsertFrame → ℕ → Effect
insert_18 rows f new =
    go (Insert (Insert17 new) (insert_frame f.key f.element (row_at rows f.prev).backlink))

-- Which definition belongs to which line.
unfoldable pub insert_line : List Row → ℕ → InsertFrame → InsertLine → Effect
insert_line rows me f (Insert4 next) = insert_4 rows me f next
insert_line rows me f (Insert6 next new) = insert_6 rows f next new
insert_line rows me f (Insert11 next new) = insert_10_11 rows f next new
insert_line rows me f (Insert17 new) = insert_17 rows f new
insert_line rows me f (Insert18 new) = insert_18 rows f new
