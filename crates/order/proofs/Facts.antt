-- What a worker knows of the present table, as a small universe of facts: each line has a list of them. That a fact survives the moves
-- of others is proved once for each fact (StableFacts), never for a pair of lines.
use Rattle.std.specs.Prelude.{if◌then◌else◌, ℕ, suc, ◌≤◌, ◌<◌, true, false, ◌≡◌, List, [], ◌∷◌}
use Rattle.order.proofs.Table.{Table, right_of, mark_of, flag_of, back_of, standing_of, rank_of, IsLinked}
use Rattle.order.proofs.Structure.{Helpable}
use Rattle.model.specs.SearchFrom.{strict}
use Rattle.model.specs.declared.Standing.TheVariants.{Held}
use Rattle.model.specs.declared.Pending.{Pending}
use Rattle.model.specs.declared.SearchCaller.{SearchCaller}
use Rattle.model.specs.declared.SearchCaller.TheVariants.{Search1, Insert1, Insert19, Delete1, TryFlag11}
use Rattle.model.specs.declared.SearchLine.{SearchLine}
use Rattle.model.specs.declared.SearchLine.TheVariants.{SearchFrom1, SearchFrom3NextMark, SearchFrom3CurrMark, SearchFrom3CurrRight, SearchFrom4, SearchFrom5HelpMarked1, SearchFrom5HelpMarked2, SearchFrom6, SearchFrom9}
use Rattle.model.specs.declared.InsertFrame.{InsertFrame}
use Rattle.model.specs.declared.InsertLine.{InsertLine}
use Rattle.model.specs.declared.InsertLine.TheVariants.{Insert4, Insert6, Insert11, Insert17, Insert18}
use Rattle.model.specs.declared.FlagFrame.{FlagFrame}
use Rattle.model.specs.declared.FlagLine.{FlagLine}
use Rattle.model.specs.declared.FlagLine.TheVariants.{TryFlag2, TryFlag4, TryFlag9, TryFlag10}
use Rattle.model.specs.declared.HelpCaller.{HelpCaller}
use Rattle.model.specs.declared.HelpCaller.TheVariants.{Insert8, Insert16, Delete6}
use Rattle.model.specs.declared.HelpLine.{HelpLine}
use Rattle.model.specs.declared.HelpLine.TheVariants.{HelpFlagged1, HelpFlagged2, TryMark2, TryMark3, TryMark6, HelpMarked1, HelpMarked2}
use Rattle.model.specs.declared.Line.{Line}
use Rattle.model.specs.declared.Line.TheVariants.{Idle, Search, Insert, Flag, Help}

pub data Fact : Type 0 where
  -- of numbers alone: the request's key fits under the tail's rank; two rows are one; nothing is pending
  key_fits : ℕ → Fact
  same_row : ℕ → ℕ → Fact
  none_pending : List Pending → Fact
  -- of linked rows: at most this rank; above this rank; the first below the second; the row of this key
  at_most : ℕ → ℕ → Fact
  above : ℕ → ℕ → Fact
  below : ℕ → ℕ → Fact
  save_of : ℕ → ℕ → Fact
  -- of marked rows: marked; marked, with this right neighbour
  marked : ℕ → Fact
  frozen : ℕ → ℕ → Fact
  -- of a help (prev, del): it has to be given; and its backlink is written
  helpable : ℕ → ℕ → Fact
  helping : ℕ → ℕ → Fact
  -- of the row that an unfinished insert holds: its key and element
  holding : ℕ → ℕ → ℕ → Fact

pub record AtMost (top : ℕ) (R : Table) (x bound : ℕ) : Type 0 where
  pub linked : IsLinked R x
  pub low : rank_of top R x ≤ bound

pub record Above (top : ℕ) (R : Table) (x bound : ℕ) : Type 0 where
  pub linked : IsLinked R x
  pub high : bound < rank_of top R x

pub record Below (top : ℕ) (R : Table) (x y : ℕ) : Type 0 where
  pub linked : IsLinked R x
  pub next_linked : IsLinked R y
  pub lower : rank_of top R x < rank_of top R y

pub record SaveOf (R : Table) (x key : ℕ) : Type 0 where
  pub linked : IsLinked R x
  pub no_end : 1 < x
  pub has_key : (R x).key ≡ key

pub record Frozen (R : Table) (x right : ℕ) : Type 0 where
  pub mark_set : mark_of R x ≡ true
  pub right_is : right_of R x ≡ right

pub record Helping (R : Table) (prev del : ℕ) : Type 0 where
  pub back_is : back_of R del ≡ prev
  pub help : Helpable R prev del

pub record Holding (w : ℕ) (R : Table) (new key element : ℕ) : Type 0 where
  pub held : standing_of R new ≡ Held w
  pub has_key : (R new).key ≡ key
  pub has_element : (R new).element ≡ element
  pub back_zero : back_of R new ≡ 0
  pub unmarked : mark_of R new ≡ false
  pub unflagged : flag_of R new ≡ false

abbrev pub Holds : ℕ → ℕ → Table → Fact → Type 0
Holds top w R (key_fits key) = suc key < top
Holds top w R (same_row x y) = x ≡ y
Holds top w R (none_pending hs) = hs ≡ []
Holds top w R (at_most x bound) = AtMost top R x bound
Holds top w R (above x bound) = Above top R x bound
Holds top w R (below x y) = Below top R x y
Holds top w R (save_of x key) = SaveOf R x key
Holds top w R (marked x) = mark_of R x ≡ true
Holds top w R (frozen x right) = Frozen R x right
Holds top w R (helpable prev del) = Helpable R prev del
Holds top w R (helping prev del) = Helping R prev del
Holds top w R (holding new key element) = Holding w R new key element

abbrev pub AllHold : ℕ → ℕ → Table → List Fact → Type 0
AllHold top w R [] = Unit {0}
AllHold top w R (f ∷ fs) = Holds top w R f × AllHold top w R fs

-- ---- The facts of each line ----

-- the highest rank that SearchFrom passes: that of the key, or, in the "k − ε" form, one less
abbrev pub reach : SearchCaller → ℕ → ℕ
reach caller key = if strict caller then key else suc key

abbrev pub search_caller_facts : ℕ → ℕ → SearchCaller → List Fact
search_caller_facts key element Search1 = []
search_caller_facts key element Insert1 = []
search_caller_facts key element (Insert19 new) = holding new key element ∷ []
search_caller_facts key element Delete1 = []
search_caller_facts key element (TryFlag11 target) = save_of target key ∷ []

-- of a line of SearchFrom, before those of its caller
abbrev pub search_facts : SearchLine → ℕ → List Fact → List Fact
search_facts SearchFrom1 curr rest = rest
search_facts (SearchFrom3NextMark next) curr rest = below curr next ∷ rest
search_facts (SearchFrom3CurrMark next) curr rest = below curr next ∷ marked next ∷ rest
search_facts (SearchFrom3CurrRight next) curr rest = below curr next ∷ marked next ∷ marked curr ∷ rest
search_facts (SearchFrom4 next) curr rest = below curr next ∷ marked next ∷ rest
search_facts (SearchFrom5HelpMarked1 next) curr rest = marked next ∷ rest
search_facts (SearchFrom5HelpMarked2 next right) curr rest = frozen next right ∷ rest
search_facts SearchFrom6 curr rest = rest
search_facts SearchFrom9 curr rest = rest

abbrev pub insert_facts : InsertLine → InsertFrame → List Fact
insert_facts (Insert4 next) f = above next (suc f.key) ∷ []
insert_facts (Insert6 next new) f = above next (suc f.key) ∷ holding new f.key f.element ∷ []
insert_facts (Insert11 next new) f = above next (suc f.key) ∷ holding new f.key f.element ∷ []
insert_facts (Insert17 new) f = holding new f.key f.element ∷ []
insert_facts (Insert18 new) f = marked f.prev ∷ holding new f.key f.element ∷ []

abbrev pub flag_facts : FlagLine → FlagFrame → List Fact
flag_facts TryFlag2 f = []
flag_facts TryFlag4 f = []
flag_facts TryFlag9 f = []
flag_facts TryFlag10 f = marked f.prev ∷ []

-- of the caller of a HelpFlagged whose row is del
abbrev pub help_caller_facts : ℕ → ℕ → ℕ → HelpCaller → List Fact
help_caller_facts key element del (Insert8 prev new) = at_most prev key ∷ holding new key element ∷ []
help_caller_facts key element del (Insert16 prev new) = at_most prev key ∷ holding new key element ∷ []
help_caller_facts key element del (Delete6 target result) = same_row del target ∷ save_of target key ∷ []

-- of the pending helps under the running help (prev, del): each waits for the one above it, whose prev is its del
abbrev pub pending_facts : ℕ → ℕ → HelpCaller → List Pending → ℕ → ℕ → List Fact
pending_facts key element caller [] prev del = help_caller_facts key element del caller
pending_facts key element caller (h ∷ hs) prev del =
    same_row prev h.del ∷ helping h.prev h.del ∷ pending_facts key element caller hs h.prev h.del

abbrev pub help_facts : HelpLine → ℕ → ℕ → List Fact → List Fact
help_facts HelpFlagged1 prev del rest = helpable prev del ∷ rest
help_facts HelpFlagged2 prev del rest = helping prev del ∷ rest
help_facts TryMark2 prev del rest = helping prev del ∷ rest
help_facts (TryMark3 right) prev del rest = helping prev del ∷ rest
help_facts TryMark6 prev del rest = helping prev del ∷ rest
help_facts HelpMarked1 prev del rest = helping prev del ∷ marked del ∷ rest
help_facts (HelpMarked2 right) prev del rest = helping prev del ∷ frozen del right ∷ rest

-- a busy worker's request has a key that fits, and only inside HelpFlagged are helps pending
abbrev pub facts : Line → List Pending → List Fact
facts (Idle a) hs = []
facts (Search l f) hs =
    key_fits f.key ∷ none_pending hs ∷ at_most f.curr (reach f.caller f.key)
    ∷ search_facts l f.curr (search_caller_facts f.key f.element f.caller)
facts (Insert l f) hs = key_fits f.key ∷ none_pending hs ∷ at_most f.prev f.key ∷ insert_facts l f
facts (Flag l f) hs =
    key_fits f.key ∷ none_pending hs ∷ at_most f.prev f.key ∷ save_of f.target f.key ∷ flag_facts l f
facts (Help l f) hs =
    key_fits f.key ∷ help_facts l f.prev f.del (pending_facts f.key f.element f.caller hs f.prev f.del)

-- a caller that has nothing pending calls HelpFlagged with its own facts alone
pub called_alone : (top w : ℕ) (R : Table) (key element : ℕ) (caller : HelpCaller) (hs : List Pending) (prev del : ℕ) → hs ≡ []
    → AllHold top w R (help_caller_facts key element del caller) → AllHold top w R (pending_facts key element caller hs prev del)
called_alone top w R key element caller hs prev del alone known =
    rw alone known
