-- What a busy worker remembers of the time since its submit: that its curr or prev was not marked then, that next was curr's right
-- neighbour at a moment since, that its target was not marked then or the key was absent at a moment since. And when an answer was right.
use Rattle.std.specs.Prelude.{ℕ, suc, ◌<◌, true, false, ◌≡◌, ◌≢◌, ◌⊎◌, List, length, set}
use Rattle.std.proofs.Common.{ap, sym, ◌∙◌, inl, inr, arith, length-set, get_or-set_same, get_or-set_other}
use Rattle.std.proofs.Math.Decide.{ℕ_discrete, dec_lt}
use Rattle.std.proofs.Math.ListN.{get_or-eq_default}
use Rattle.order.proofs.Table.{Table, mark_of, standing_of, IsLinked, tables_of}
use Rattle.order.proofs.Timeline.{LacksWithin, HasWithin, RegularWithin}
use Rattle.order.specs.PlainMap.{Operation, search, insert, delete}
use Rattle.order.proofs.Lawful.{no_row_removed, removed_row}
use Rattle.kept.specs.Conditions.{contradiction}
use Rattle.model.specs.State.{row_at, free_row}
use Rattle.model.proofs.Choices.{if_both}
use Rattle.model.specs.Cas.{succ_at, same_succ, cas}
use Rattle.model.specs.Step.{written}
use Rattle.model.specs.declared.Row.{Row}
use Rattle.model.specs.declared.Succ.{Succ}
use Rattle.model.specs.declared.Standing.TheVariants.{Held, Linked}
use Rattle.model.specs.declared.Answer.{Answer}
use Rattle.model.specs.declared.Answer.TheVariants.{Found, Absent, Added, Duplicate, Removed, Full}
use Rattle.model.specs.declared.Effect.{Effect}
use Rattle.model.specs.declared.Write.{Write}
use Rattle.model.specs.declared.Write.TheVariants.{NoRow, OneRow, TwoRows}
use Rattle.model.specs.declared.SearchCaller.{SearchCaller}
use Rattle.model.specs.declared.SearchCaller.TheVariants.{Search1, Insert1, Insert19, Delete1, TryFlag11}
use Rattle.model.specs.declared.SearchLine.{SearchLine}
use Rattle.model.specs.declared.SearchLine.TheVariants.{SearchFrom1, SearchFrom3NextMark, SearchFrom3CurrMark, SearchFrom3CurrRight, SearchFrom4, SearchFrom5HelpMarked1, SearchFrom5HelpMarked2, SearchFrom6, SearchFrom9}
use Rattle.model.specs.declared.HelpCaller.{HelpCaller}
use Rattle.model.specs.declared.HelpCaller.TheVariants.{Insert8, Insert16, Delete6}
use Rattle.model.specs.declared.Line.{Line}
use Rattle.model.specs.declared.Line.TheVariants.{Idle, Search, Insert, Flag, Help}

-- ---- The operation that a line belongs to ----

abbrev pub search_operation : ℕ → ℕ → SearchCaller → Operation
search_operation key element Search1 = search key
search_operation key element Insert1 = insert key element
search_operation key element (Insert19 new) = insert key element
search_operation key element Delete1 = delete key
search_operation key element (TryFlag11 target) = delete key

abbrev pub help_operation : ℕ → ℕ → HelpCaller → Operation
help_operation key element (Insert8 prev new) = insert key element
help_operation key element (Insert16 prev new) = insert key element
help_operation key element (Delete6 target result) = delete key

-- of a busy line
abbrev pub operation_of : Line → Operation
operation_of (Idle a) = search 0
operation_of (Search l f) = search_operation f.key f.element f.caller
operation_of (Insert l f) = insert f.key f.element
operation_of (Flag l f) = delete f.key
operation_of (Help l f) = help_operation f.key f.element f.caller

-- ---- What a line remembers at moment u of the time since moment t ----

module _ (R : ℕ → Table) (t u : ℕ) where
  -- row x of key k was not marked at first, or k was absent at a moment since
  abbrev pub UnmarkedOrLacks : ℕ → ℕ → Type 0
  UnmarkedOrLacks k x = (mark_of (R t) x ≡ false) ⊎ LacksWithin R t u k

  abbrev pub search_caller_past : ℕ → SearchCaller → Type 0
  search_caller_past k Search1 = Unit {0}
  search_caller_past k Insert1 = Unit {0}
  search_caller_past k (Insert19 new) = Unit {0}
  search_caller_past k Delete1 = Unit {0}
  search_caller_past k (TryFlag11 target) = UnmarkedOrLacks k target

  -- in line 3 and at line 4, next is what was once read of curr
  abbrev pub search_past : SearchLine → ℕ → Type 0
  search_past SearchFrom1 curr = Unit {0}
  search_past (SearchFrom3NextMark next) curr = RegularWithin R t u curr next
  search_past (SearchFrom3CurrMark next) curr = RegularWithin R t u curr next
  search_past (SearchFrom3CurrRight next) curr = RegularWithin R t u curr next
  search_past (SearchFrom4 next) curr = RegularWithin R t u curr next
  search_past (SearchFrom5HelpMarked1 next) curr = Unit {0}
  search_past (SearchFrom5HelpMarked2 next right) curr = Unit {0}
  search_past SearchFrom6 curr = Unit {0}
  search_past SearchFrom9 curr = Unit {0}

  abbrev pub help_caller_past : ℕ → HelpCaller → Type 0
  help_caller_past k (Insert8 prev new) = mark_of (R t) prev ≡ false
  help_caller_past k (Insert16 prev new) = mark_of (R t) prev ≡ false
  help_caller_past k (Delete6 target true) = Unit {0}
  help_caller_past k (Delete6 target false) = UnmarkedOrLacks k target

  abbrev pub Past : Line → Type 0
  Past (Idle a) = Unit {0}
  Past (Search l f) = (mark_of (R t) f.curr ≡ false) × search_past l f.curr × search_caller_past f.key f.caller
  Past (Insert l f) = mark_of (R t) f.prev ≡ false
  Past (Flag l f) = (mark_of (R t) f.prev ≡ false) × UnmarkedOrLacks f.key f.target
  Past (Help l f) = help_caller_past f.key f.caller

-- The same, a moment later.
module _ (R : ℕ → Table) (t u : ℕ) where
  lacks_still : {k : ℕ} → LacksWithin R t u k → LacksWithin R t (suc u) k
  lacks_still a = record { time = a.time; after = a.after; before = omega (arith, a.before); lacks = a.lacks }

  regular_still : {x n : ℕ} → RegularWithin R t u x n → RegularWithin R t (suc u) x n
  regular_still a = record { time = a.time; after = a.after; before = omega (arith, a.before); regular = a.regular; right = a.right }

  target_still : {k x : ℕ} → UnmarkedOrLacks R t u k x → UnmarkedOrLacks R t (suc u) k x
  target_still (inl h) = inl h
  target_still (inr h) = inr (lacks_still h)

  search_caller_still : (k : ℕ) (c : SearchCaller) → search_caller_past R t u k c → search_caller_past R t (suc u) k c
  search_caller_still k Search1 h = tt
  search_caller_still k Insert1 h = tt
  search_caller_still k (Insert19 new) h = tt
  search_caller_still k Delete1 h = tt
  search_caller_still k (TryFlag11 target) h = target_still h

  search_still : (l : SearchLine) (curr : ℕ) → search_past R t u l curr → search_past R t (suc u) l curr
  search_still SearchFrom1 curr h = tt
  search_still (SearchFrom3NextMark next) curr h = regular_still h
  search_still (SearchFrom3CurrMark next) curr h = regular_still h
  search_still (SearchFrom3CurrRight next) curr h = regular_still h
  search_still (SearchFrom4 next) curr h = regular_still h
  search_still (SearchFrom5HelpMarked1 next) curr h = tt
  search_still (SearchFrom5HelpMarked2 next right) curr h = tt
  search_still SearchFrom6 curr h = tt
  search_still SearchFrom9 curr h = tt

  help_caller_still : (k : ℕ) (c : HelpCaller) → help_caller_past R t u k c → help_caller_past R t (suc u) k c
  help_caller_still k (Insert8 prev new) h = h
  help_caller_still k (Insert16 prev new) h = h
  help_caller_still k (Delete6 target true) h = tt
  help_caller_still k (Delete6 target false) h = target_still h

  pub past_still : (l : Line) → Past R t u l → Past R t (suc u) l
  past_still (Idle a) h = tt
  past_still (Search l f) (unmarked, line, caller) =
      (unmarked, search_still l f.curr line, search_caller_still f.key f.caller caller)
  past_still (Insert l f) h = h
  past_still (Flag l f) (unmarked, target) = (unmarked, target_still target)
  past_still (Help l f) h = help_caller_still f.key f.caller h

-- ---- When an answer is right ----

-- the row that worker me held, with this key and element, is linked by the step
pub record LinksRow (me : ℕ) (R R' : Table) (k e : ℕ) : Type 0 where
  pub row : ℕ
  pub held : standing_of R row ≡ Held me
  pub has_key : (R row).key ≡ k
  pub has_element : (R row).element ≡ e
  pub linked : standing_of R' row ≡ Linked

-- the row that the delete removes is marked, and has this element
pub record RemovesRow (R : Table) (row e : ℕ) : Type 0 where
  pub some_row : row ≢ no_row_removed
  pub marked : mark_of R row ≡ true
  pub has_element : (R row).element ≡ e

-- the answer fits the operation, and was right at a moment from t to u, the table after the step being R'
pub data Answered (me : ℕ) (R : ℕ → Table) (t u : ℕ) (R' : Table) (removed : ℕ) : Operation → Answer → Type 0 where
  is_found : {k e : ℕ} → HasWithin R t u k e → Answered me R t u R' removed (search k) (Found e)
  is_absent : {k : ℕ} → LacksWithin R t u k → Answered me R t u R' removed (search k) Absent
  is_added : {k e : ℕ} → LinksRow me (R u) R' k e → Answered me R t u R' removed (insert k e) Added
  is_duplicate : {k x e : ℕ} → HasWithin R t u k e → Answered me R t u R' removed (insert k x) Duplicate
  no_row_free : {k e : ℕ} → Answered me R t u R' removed (insert k e) Full
  is_removed : {k e : ℕ} → RemovesRow (R u) removed e → Answered me R t u R' removed (delete k) (Removed e)
  none_removed : {k : ℕ} → removed ≡ no_row_removed → LacksWithin R t u k → Answered me R t u R' removed (delete k) Absent

module _ (me : ℕ) (R : ℕ → Table) (t u : ℕ) (R' : Table) (removed : ℕ) where
  -- what a busy line goes on with: its operation, what it remembers, the row that it removes
  pub record GoesOn (o : Operation) (l : Line) : Type 0 where
    pub operation_same : operation_of l ≡ o
    pub past : Past R t u l
    pub removed_same : (removed ≡ no_row_removed) ⊎ (removed_row l ≡ removed)

  abbrev pub NextLine : Operation → Line → Type 0
  NextLine o (Idle a) = Answered me R t u R' removed o a
  NextLine o (Search l f) = GoesOn o (Search l f)
  NextLine o (Insert l f) = GoesOn o (Insert l f)
  NextLine o (Flag l f) = GoesOn o (Flag l f)
  NextLine o (Help l f) = GoesOn o (Help l f)

-- ---- Which writes link a row ----

-- no row becomes linked by the write
abbrev pub LinksNone : List Row → Write → Type 0
LinksNone rows NoRow = Unit {0}
LinksNone rows (OneRow i r) = r.standing ≡ Linked → IsLinked (row_at rows) i
LinksNone rows (TwoRows i r j s) = ⊥

pub links_none : (rows : List Row) (w : Write) → LinksNone rows w → (x : ℕ) → IsLinked (row_at (written rows w)) x → IsLinked (row_at rows) x
unfolding written
links_none rows NoRow none x h = h
links_none rows (TwoRows i r j s) none x h = absurd none
links_none rows (OneRow i r) none x h = go (ℕ_discrete x i) (dec_lt i (length rows))
  where
    go : Dec (x ≡ i) → Dec (i < length rows) → IsLinked (row_at rows) x
    go (no e) inside = cc (get_or-set_other rows i x r free_row e)
    go (yes e) (yes inside) =
        let here : row_at (set rows i r) x ≡ r = ap (row_at (set rows i r)) e ∙ get_or-set_same rows i r free_row inside in
        ap (λ (y : ℕ). standing_of (row_at rows) y) e ∙ none (ap (λ (s : Row). s.standing) (sym here) ∙ h)
    go (yes e) (no outside) =
        let past = get_or-eq_default (set rows i r) free_row {n = x} (omega (arith, length-set rows i r)) in
        contradiction (cc)

-- ---- What is asked of the effect of a line ----

-- The effect e of a line of worker me that belongs to the operation o and removes the row `removed`.
pub record Tells (me : ℕ) (rows_at : ℕ → List Row) (t u : ℕ) (o : Operation) (removed : ℕ) (e : Effect) : Type 0 where
  pub next : NextLine me (tables_of rows_at) t u (row_at (written (rows_at u) e.write)) removed o e.line
  pub linking : LinksNone (rows_at u) e.write ⊎ (e.line ≡ Idle Added)

-- a C&S links no row
pub cas_links_none : (rows : List Row) (i : ℕ) (old new : Succ) → LinksNone rows (cas rows i old new)
unfolding cas
cas_links_none rows i old new = if_both (LinksNone rows) (same_succ (succ_at rows i) old) (λ h. h) tt
