-- Full is given exactly when an add looks for a row and no row is left: Insert's line 4 is the only line that answers Full, and it does
-- where none of the rows 2 to 127 is free; a row that is not free has been linked or is held by the add that names it.
use Rattle.std.specs.Prelude.{ℕ, suc, ◌-◌, ◌≡◌, refl, ◌⊎◌, List}
use Rattle.std.proofs.Common.{ap, sym, ◌∙◌, inl, inr, arith}
use Rattle.order.specs.Demand.{state_at, line_at, HasBeenLinked, IsHeld, NoRowLeft, LooksForRow, FullExactly}
use Rattle.order.proofs.Time.{Ready, sound_at, step_taken, grown_at}
use Rattle.order.proofs.Events.{next_line, StepTaken}
use Rattle.kept.specs.Conditions.{clash, contradiction}
use Rattle.kept.specs.Standing.{free_not_linked}
use Rattle.kept.specs.FreeRows.{NoneFree, none_left, if_none_left}
use Rattle.kept.specs.Ways.{worker_in}
use Rattle.model.specs.State.{row_at, help_at, idle}
use Rattle.model.proofs.Answers.{LeadsTo, goes_on, answers, finds_none, line_leads, plain}
use Rattle.model.specs.Insert.{insert_line, insert_4}
use Rattle.model.specs.Step.{line_effect, effect_of}
use Rattle.model.specs.declared.Row.{Row}
use Rattle.model.specs.declared.Standing.{Standing}
use Rattle.model.specs.declared.Standing.TheVariants.{Free, Held, Linked}
use Rattle.model.specs.declared.Worker.{Worker}
use Rattle.model.specs.declared.Catalogue.{Catalogue}
use Rattle.model.specs.declared.Answer.TheVariants.{Full}
use Rattle.model.specs.declared.InsertFrame.{InsertFrame}
use Rattle.model.specs.declared.InsertLine.TheVariants.{Insert4}
use Rattle.model.specs.declared.Line.{Line}
use Rattle.model.specs.declared.Line.TheVariants.{Idle, Insert}
use Rattle.model.specs.declared.Call.{Call}

-- ---- Line 4 ----

-- the worker looks for a row, and none is free
record FindsNone (rows : List Row) (l : Line) : Type 0 where
  next : ℕ
  frame : InsertFrame
  at_line_4 : l ≡ Insert (Insert4 next) frame
  none_free : NoneFree rows 2 128

full_at_line_4 : (rows : List Row) {from l : Line} → LeadsTo rows from l → l ≡ Idle Full → FindsNone rows from
full_at_line_4 rows (goes_on busy) e = absurd (clash (ap idle e) busy)
full_at_line_4 rows (answers {a = a} given) e =
    let same : a ≡ Full = cc in
    absurd (clash given (ap plain same))
full_at_line_4 rows (finds_none at no_row) e =
    record { next = _; frame = _; at_line_4 = at; none_free = none_left rows no_row }

line_4_full : (rows : List Row) (me : ℕ) (f : InsertFrame) (next : ℕ) → NoneFree rows 2 128 → (insert_4 rows me f next).line ≡ Idle Full
unfolding insert_4
line_4_full rows me f next none_free = rw (if_none_left rows none_free)

-- ---- Over a run ----

data Use (s : Standing) : Type 0 where
  is_free : s ≡ Free → Use s
  is_held : (v : ℕ) → s ≡ Held v → Use s
  is_linked_lem : s ≡ Linked → Use s

use_of : (s : Standing) → Use s
use_of Free = is_free refl
use_of (Held v) = is_held v refl
use_of Linked = is_linked_lem refl

module _ {top : ℕ} {start : Catalogue} {calls : List Call} (ready : Ready top start calls) where
  used : (i : ℕ) → NoneFree (state_at start calls i).rows 2 128 → NoRowLeft start calls i
  used i none_free r low high = go (use_of (row_at (state_at start calls i).rows r).standing)
    where
      go : Use (row_at (state_at start calls i).rows r).standing → HasBeenLinked start calls i r ⊎ IsHeld start calls i r
      go (is_free e) = absurd (none_free r low high e)
      go (is_held v e) = inr (v, e, (sound_at ready i).named v r e)
      go (is_linked_lem e) = inl (i, omega arith, e)

  not_free : (i : ℕ) → NoRowLeft start calls i → NoneFree (state_at start calls i).rows 2 128
  not_free i left r low high free = go (left r low high)
    where
      go : HasBeenLinked start calls i r ⊎ IsHeld start calls i r → ⊥
      go (inl (j, early, linked)) =
          free_not_linked free (grown_at ready j i r early linked).linked
      go (inr (v, held, named)) = contradiction (cc)

  pub full_exactly : FullExactly start calls
  unfolding effect_of line_effect insert_line
  full_exactly i w accepts = (only_if, if_so)
    where
      taken : StepTaken (state_at start calls i) (state_at start calls (suc i)) w
      taken = step_taken ready i w accepts

      rows : List Row
      rows = (state_at start calls i).rows

      k : Worker
      k = worker_in (state_at start calls i) w

      only_if : line_at start calls (suc i) w ≡ Idle Full → LooksForRow start calls i w × NoRowLeft start calls i
      only_if is =
          let leads = line_leads rows w k.count (help_at k.helps (k.count - 1)) k.line taken.was_busy in
          let n = full_at_line_4 rows leads (sym (next_line taken) ∙ is) in
          ((n.next, n.frame, n.at_line_4), used i n.none_free)

      if_so : LooksForRow start calls i w × NoRowLeft start calls i → line_at start calls (suc i) w ≡ Idle Full
      if_so ((next, f, at_line_4), left) = cc (next_line taken, line_4_full rows w f next (not_free i left))
