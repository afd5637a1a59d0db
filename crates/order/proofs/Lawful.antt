-- What is asked of the effect of a line, and the common ways to show it: the rows change by a move, the facts of the next line hold, the
-- worker names the row that it holds, and it removes the row that it removed before, claims one by a flag, or has removed it.
use Rattle.std.specs.Prelude.{if◌then◌else◌, ℕ, Bool, true, false, ◌≡◌, refl, ◌≢◌, List, [], ◌∷◌}
use Rattle.std.proofs.Common.{sym, ◌∙◌}
use Rattle.order.proofs.Table.{Table, right_of, flag_of, standing_of}
use Rattle.order.proofs.Structure.{Structure}
use Rattle.order.proofs.Moves.{Move, nothing, marks, unlinks, backlinks, MarkMove, UnlinkMove, FlagMove, BacklinkMove, PrivateMove, SameStanding}
use Rattle.order.proofs.Stack.{stack_after}
use Rattle.order.proofs.Facts.{Helping, AllHold, pending_facts, facts}
use Rattle.order.proofs.StableFacts.{LeavesHeld, held_unchanged, facts_survive}
use Rattle.kept.specs.Conditions.{clash}
use Rattle.kept.specs.IdleLine.{if_idle}
use Rattle.model.specs.State.{row_at, idle}
use Rattle.model.specs.Effects.{go}
use Rattle.model.specs.Step.{written}
use Rattle.model.specs.WellFormed.{held_row}
use Rattle.model.specs.declared.Row.{Row}
use Rattle.model.specs.declared.Standing.TheVariants.{Held}
use Rattle.model.specs.declared.Pending.{Pending}
use Rattle.model.specs.declared.HelpCaller.{HelpCaller}
use Rattle.model.specs.declared.HelpCaller.TheVariants.{Insert8, Insert16, Delete6}
use Rattle.model.specs.declared.Line.{Line}
use Rattle.model.specs.declared.Line.TheVariants.{Idle, Search, Insert, Flag, Help}
use Rattle.model.specs.declared.Effect.{Effect}
use Rattle.model.specs.declared.Write.TheVariants.{NoRow}
use Rattle.model.specs.declared.Stack.{Stack}
use Rattle.model.specs.declared.Stack.TheVariants.{Keep, Push, Pop}

-- what holds of a test's two values, each where it came out so, holds of the test
pub choose : (P : Bool → Type 0) (b : Bool) → (b ≡ true → P true) → (b ≡ false → P false) → P b
choose P true p q = p refl
choose P false p q = q refl

-- ---- The row that a delete removes ----

-- no row: the head is never removed
abbrev pub no_row_removed : ℕ
no_row_removed = 0

abbrev pub removed_in_help : HelpCaller → ℕ
removed_in_help (Insert8 prev new) = no_row_removed
removed_in_help (Insert16 prev new) = no_row_removed
removed_in_help (Delete6 target result) = if result then target else no_row_removed

-- the row whose flag this worker's delete has set
abbrev pub removed_row : Line → ℕ
removed_row (Idle a) = no_row_removed
removed_row (Search l f) = no_row_removed
removed_row (Insert l f) = no_row_removed
removed_row (Flag l f) = no_row_removed
removed_row (Help l f) = removed_in_help f.caller

pub idle_removes_none : (l : Line) → idle l ≡ true → removed_row l ≡ no_row_removed
idle_removes_none = if_idle (λ l. removed_row l ≡ no_row_removed) (λ a. refl)

abbrev pub NoNewFlag : Table → Table → Type 0
NoNewFlag R R' = (x : ℕ) → flag_of R' x ≡ true → flag_of R x ≡ true

-- from the row removed before a line to the row removed after it
pub data Removal (R R' : Table) (before after : ℕ) : Type 0 where
  goes_on : after ≡ before → NoNewFlag R R' → Removal R R' before after
  claims : {prev : ℕ} → FlagMove R R' prev after → before ≡ no_row_removed → Removal R R' before after
  ends : after ≡ no_row_removed → NoNewFlag R R' → ((x : ℕ) → flag_of R' x ≡ true → right_of R' x ≢ before) → Removal R R' before after

-- ---- The pending helps at a push ----

-- each pending help waits for the one above it, the lowest of which has prev for its own predecessor: its del is that prev
abbrev pub Chained : Table → List Pending → ℕ → Type 0
Chained R [] prev = Unit {0}
Chained R (h ∷ hs) prev = (prev ≡ h.del) × Helping R h.prev h.del × Chained R hs h.prev

pub chained : (top w : ℕ) (R : Table) (key element : ℕ) (caller : HelpCaller) (hs : List Pending) (prev del : ℕ)
    → AllHold top w R (pending_facts key element caller hs prev del) → Chained R hs prev
chained top w R key element caller [] prev del known = tt
chained top w R key element caller (h ∷ hs) prev del (same, (helping, rest)) =
    (same, helping, chained top w R key element caller hs h.prev h.del rest)

-- a help is pushed because its row is flagged for another
abbrev pub Pushable : Table → List Pending → Stack → Type 0
Pushable R hs Keep = Unit {0}
Pushable R hs (Push h) = (flag_of R h.del ≡ true) × Chained R (h ∷ hs) h.del
Pushable R hs Pop = Unit {0}

-- The effect e of a line of worker me that holds the row `held`, removes the row `removed` and has the helps hs pending.
pub record Lawful (top me : ℕ) (rows : List Row) (held removed : ℕ) (hs : List Pending) (e : Effect) : Type 0 where
  pub move : Move top me (row_at rows) (row_at (written rows e.write))
  pub known : AllHold top me (row_at (written rows e.write)) (facts e.line (stack_after hs e.stack))
  pub named : (x : ℕ) → (standing_of (row_at rows) x ≡ Held me → held ≡ x) → standing_of (row_at (written rows e.write)) x ≡ Held me
      → held_row e.line ≡ x
  pub removal : Removal (row_at rows) (row_at (written rows e.write)) removed (removed_row e.line)
  pub pushable : Pushable (row_at rows) hs e.stack

-- the same effect, with another account of what is removed
pub with_removal : {top me : ℕ} {rows : List Row} {held removed removed' : ℕ} {hs : List Pending} {e : Effect}
    → Lawful top me rows held removed hs e → Removal (row_at rows) (row_at (written rows e.write)) removed' (removed_row e.line)
    → Lawful top me rows held removed' hs e
with_removal l removal = record { move = l.move; known = l.known; named = l.named; removal = removal; pushable = l.pushable }

-- ---- A read ----

pub read_stacking : (top me : ℕ) (rows : List Row) (held removed : ℕ) (hs : List Pending) (line : Line) (s : Stack)
    → Pushable (row_at rows) hs s
    → held_row line ≡ held → removed_row line ≡ removed → AllHold top me (row_at rows) (facts line (stack_after hs s))
    → Lawful top me rows held removed hs (record { line = line; write = NoRow; stack = s })
unfolding written
read_stacking top me rows held removed hs line s pushable same_held same_removed known = record {
  move = nothing refl;
  known = known;
  named = λ x before h. same_held ∙ before h;
  removal = goes_on same_removed (λ x h. h);
  pushable = pushable;
}

pub read : (top me : ℕ) (rows : List Row) (held removed : ℕ) (hs : List Pending) (line : Line)
    → held_row line ≡ held → removed_row line ≡ removed → AllHold top me (row_at rows) (facts line hs)
    → Lawful top me rows held removed hs (go line)
read top me rows held removed hs line same_held same_removed known =
    read_stacking top me rows held removed hs line Keep tt same_held same_removed known

-- ---- A move of linked rows that sets no flag ----

pub record SharedMove (top me : ℕ) (R R' : Table) : Type 0 where
  pub move : Move top me R R'
  pub standing= : SameStanding R R'
  pub no_new_flag : NoNewFlag R R'
  pub leaves_held : LeavesHeld me R R'

module _ {top : ℕ} (me : ℕ) {R R' : Table} (sound : Structure top R) where
  pub mark_shared : {prev del : ℕ} → MarkMove R R' prev del → SharedMove top me R R'
  mark_shared m = record {
    move = marks m;
    standing= = m.standing=;
    no_new_flag = λ x h. sym (m.flag= x) ∙ h;
    leaves_held = λ x h. held_unchanged {u = me} sound (marks m) x tt h;
  }

  pub unlink_shared : {prev del next : ℕ} → UnlinkMove R R' prev del next → SharedMove top me R R'
  unlink_shared {prev} m = record {
    move = unlinks m;
    standing= = m.standing=;
    no_new_flag = λ x h. sym (m.flag_other x (λ e. clash h (cc m.flag_prev))) ∙ h;
    leaves_held = λ x h. held_unchanged {u = me} sound (unlinks m) x tt h;
  }

  pub backlink_shared : {prev del : ℕ} → BacklinkMove R R' prev del → SharedMove top me R R'
  backlink_shared m = record {
    move = backlinks m;
    standing= = m.standing=;
    no_new_flag = λ x h. sym (m.flag= x) ∙ h;
    leaves_held = λ x h. held_unchanged {u = me} sound (backlinks m) x tt h;
  }

-- the facts of the next line held already, and the worker goes on with what it holds and removes
pub shared : (top me : ℕ) (rows : List Row) (held removed : ℕ) (hs : List Pending) (e : Effect) → Structure top (row_at rows)
    → SharedMove top me (row_at rows) (row_at (written rows e.write))
    → Pushable (row_at rows) hs e.stack
    → held_row e.line ≡ held → removed_row e.line ≡ removed → AllHold top me (row_at rows) (facts e.line (stack_after hs e.stack))
    → Lawful top me rows held removed hs e
shared top me rows held removed hs e sound m pushable same_held same_removed known = record {
  move = m.move;
  known = facts_survive top me sound m.move m.leaves_held (facts e.line (stack_after hs e.stack)) known;
  named = λ x before h. same_held ∙ before (sym (m.standing= x) ∙ h);
  removal = goes_on same_removed m.no_new_flag;
  pushable = pushable;
}

-- ---- A private move sets no flag ----

pub private_no_new_flag : {w : ℕ} {R R' : Table} {new : ℕ} → PrivateMove w R R' new → NoNewFlag R R'
private_no_new_flag {new = new} m x h =
    let same = m.other x (λ e. clash h (cc m.unflagged)) in
    cc
