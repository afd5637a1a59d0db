-- SearchFrom(k, curr) and Search, figure 3. A definition stands before its use, so the private lines 10, 2 and 7 come first.
use Rattle.std.specs.Prelude.{if◌then◌else◌, ℕ, Bool, true, false, List, eqb}
use Rattle.model.specs.State.{row_at}
use Rattle.model.specs.Order.{key_at_most, key_below, has_key}
use Rattle.model.specs.Cas.{succ_at}
use Rattle.model.specs.Effects.{go, go_writing, finish}
use Rattle.model.specs.HelpMarked.{help_marked_1, help_marked_2}
use Rattle.model.specs.Insert.{insert_2, insert_20}
use Rattle.model.specs.Delete.{delete_2, try_flag_12}
use Rattle.model.specs.declared.Row.{Row}
use Rattle.model.specs.declared.Answer.TheVariants.{Found, Absent}
use Rattle.model.specs.declared.Effect.{Effect}
use Rattle.model.specs.declared.SearchCaller.{SearchCaller}
use Rattle.model.specs.declared.SearchCaller.TheVariants.{Search1, Insert1, Insert19, Delete1, TryFlag11}
use Rattle.model.specs.declared.SearchFrame.{SearchFrame}
use Rattle.model.specs.declared.SearchLine.{SearchLine}
use Rattle.model.specs.declared.SearchLine.TheVariants.{SearchFrom1, SearchFrom3NextMark, SearchFrom3CurrMark, SearchFrom3CurrRight, SearchFrom4, SearchFrom5HelpMarked1, SearchFrom5HelpMarked2, SearchFrom6, SearchFrom9}
use Rattle.model.specs.declared.Line.TheVariants.{Search}

-- Search, lines 2 to 5, after line 1's SearchFrom returned (curr, next): Found if curr has the key, else Absent.
unfoldable pub search_2 : List Row → ℕ → ℕ → Effect
search_2 rows key curr =
    if has_key rows curr key then finish (Found (row_at rows curr).element) else finish Absent

-- the callers of the "k − ε" form, which uses < for both ≤
abbrev pub strict : SearchCaller → Bool
strict Search1 = false
strict Insert1 = false
strict (Insert19 new) = false
strict Delete1 = true
strict (TryFlag11 target) = true

-- the test of lines 2 and 7: next.key ≤ k
unfoldable pub reaches : List Row → SearchFrame → ℕ → Bool
reaches rows f next = if strict f.caller then key_below rows next f.key else key_at_most rows next f.key

-- SearchFrom has returned (curr, next): each caller goes on at its next line, in figure 3 (Search), 4 (Delete) or 5 (Insert, TryFlag).
unfoldable pub search_from_returns : List Row → ℕ → ℕ → ℕ → ℕ → SearchCaller → Effect
search_from_returns rows key element curr next Search1 = search_2 rows key curr
search_from_returns rows key element curr next Insert1 = insert_2 rows key element curr next
search_from_returns rows key element curr next (Insert19 new) = insert_20 rows key element curr next new
search_from_returns rows key element curr next Delete1 = delete_2 rows key curr next
search_from_returns rows key element curr next (TryFlag11 target) = try_flag_12 key curr next target

-- Line 10 returns (curr, next) to the caller.
unfoldable pub search_from_10 : List Row → SearchFrame → ℕ → Effect
search_from_10 rows f next = search_from_returns rows f.key f.element f.curr next f.caller

-- Line 2: while next.key ≤ k, line 3. Else line 10.
unfoldable pub search_from_2 : List Row → SearchFrame → ℕ → Effect
search_from_2 rows f next =
    if reaches rows f next then go (Search (SearchFrom3NextMark next) f) else search_from_10 rows f next

-- Line 7: if next.key ≤ k, curr becomes next (line 8), and line 9. Else line 2's test fails too: line 10.
unfoldable pub search_from_7 : List Row → SearchFrame → ℕ → Effect
search_from_7 rows f next =
    if reaches rows f next
    then go (Search SearchFrom9 (record { key = f.key; element = f.element; curr = next; caller = f.caller }))
    else search_from_10 rows f next

-- Line 1 reads curr.right as next.
unfoldable pub search_from_1 : List Row → SearchFrame → Effect
search_from_1 rows f = search_from_2 rows f (succ_at rows f.curr).right

-- Line 3, first read: next's mark. Unmarked leaves the inner loop.
unfoldable pub search_from_3_next_mark : List Row → SearchFrame → ℕ → Effect
search_from_3_next_mark rows f next =
    if (succ_at rows next).mark then go (Search (SearchFrom3CurrMark next) f) else search_from_7 rows f next

-- Line 3, second read: curr's mark. Unmarked enters the inner loop.
unfoldable pub search_from_3_curr_mark : List Row → SearchFrame → ℕ → Effect
search_from_3_curr_mark rows f next =
    if (succ_at rows f.curr).mark then go (Search (SearchFrom3CurrRight next) f) else go (Search (SearchFrom4 next) f)

-- Line 3, third read: curr.right. If it is next the inner loop is left, else entered.
unfoldable pub search_from_3_curr_right : List Row → SearchFrame → ℕ → Effect
search_from_3_curr_right rows f next =
    if eqb (succ_at rows f.curr).right next then search_from_7 rows f next else go (Search (SearchFrom4 next) f)

-- Line 4 reads curr.right: if it is next, line 5's HelpMarked(curr, next). Else line 6.
unfoldable pub search_from_4 : List Row → SearchFrame → ℕ → Effect
search_from_4 rows f next =
    if eqb (succ_at rows f.curr).right next
    then go (Search (SearchFrom5HelpMarked1 next) f)
    else go (Search SearchFrom6 f)

-- Line 5's HelpMarked(curr, next), its first access.
abbrev pub search_from_5_help_marked_1 : List Row → SearchFrame → ℕ → Effect
search_from_5_help_marked_1 rows f next = go (Search (SearchFrom5HelpMarked2 next (help_marked_1 rows next)) f)

-- Line 5's HelpMarked(curr, next), its second access. Then line 6.
abbrev pub search_from_5_help_marked_2 : List Row → SearchFrame → ℕ → ℕ → Effect
search_from_5_help_marked_2 rows f next right = go_writing (help_marked_2 rows f.curr next right) (Search SearchFrom6 f)

-- Line 6 reads curr.right as next, and line 3 again.
unfoldable pub search_from_6 : List Row → SearchFrame → Effect
search_from_6 rows f = go (Search (SearchFrom3NextMark (succ_at rows f.curr).right) f)

-- Line 9 reads curr.right as next, and line 2 again.
unfoldable pub search_from_9 : List Row → SearchFrame → Effect
search_from_9 rows f = search_from_2 rows f (succ_at rows f.curr).right

-- Which definition belongs to which line.
unfoldable pub search_line : List Row → SearchFrame → SearchLine → Effect
search_line rows f SearchFrom1 = search_from_1 rows f
search_line rows f (SearchFrom3NextMark next) = search_from_3_next_mark rows f next
search_line rows f (SearchFrom3CurrMark next) = search_from_3_curr_mark rows f next
search_line rows f (SearchFrom3CurrRight next) = search_from_3_curr_right rows f next
search_line rows f (SearchFrom4 next) = search_from_4 rows f next
search_line rows f (SearchFrom5HelpMarked1 next) = search_from_5_help_marked_1 rows f next
search_line rows f (SearchFrom5HelpMarked2 next right) = search_from_5_help_marked_2 rows f next right
search_line rows f SearchFrom6 = search_from_6 rows f
search_line rows f SearchFrom9 = search_from_9 rows f
