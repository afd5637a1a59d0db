-- Whenever the map changes there is a request that changes it: a row is linked by the step that finishes its add, and marked at the moment
-- of the delete that owns its flag.
use Rattle.std.specs.Prelude.{ℕ, suc, true, ◌≡◌, refl, ◌≢◌, ◌⊎◌, List}
use Rattle.std.proofs.Common.{ap, sym, ◌∙◌, inl, inr, arith}
use Rattle.order.proofs.Table.{right_of, standing_of}
use Rattle.order.proofs.StructureFacts.{above_not_head, flagged_right_above}
use Rattle.order.proofs.Moves.{LinkMove, MarkMove}
use Rattle.order.specs.PlainMap.{PlainMap}
use Rattle.order.proofs.Lawful.{no_row_removed, idle_removes_none}
use Rattle.order.proofs.Events.{StepTaken, next_line}
use Rattle.order.proofs.Owners.{Owner}
use Rattle.order.proofs.Memory.{links_none}
use Rattle.order.specs.Demand.{state_at, line_at, Accepts}
use Rattle.order.proofs.Time.{Ready, Happening, nothing_happens, submits, steps, happening, owned_at, structure_at, step_move, TableAt}
use Rattle.order.proofs.Running.{removed_at, Continues, runs, ends_now, continues, step_tells}
use Rattle.order.proofs.OneRequest.{idle_not_busy}
use Rattle.order.proofs.Courses.{Current, current}
use Rattle.order.proofs.MapAt.{map_at, same_rows_map, Turn, turns_nothing, turns_link, turns_mark, turn_at}
use Rattle.model.specs.State.{row_at, idle}
use Rattle.model.specs.Step.{written}
use Rattle.model.specs.declared.Standing.TheVariants.{Linked}
use Rattle.model.specs.declared.Catalogue.{Catalogue}
use Rattle.model.specs.declared.Answer.TheVariants.{Added}
use Rattle.model.specs.declared.Line.TheVariants.{Idle}
use Rattle.model.specs.declared.Call.{Call}
use Rattle.model.specs.declared.Call.TheVariants.{Step}
use Rattle.order.proofs.MapChanges.{Change, adds, removes}
use Rattle.kept.specs.Conditions.{clash}
use Rattle.kept.specs.Standing.{held_not_linked}
use Rattle.kept.specs.Ways.{effect_in}

module _ {top : ℕ} {start : Catalogue} {calls : List Call} (ready : Ready top start calls) where
  pub data Cause (t : ℕ) : Type 0 where
    same_map : map_at ready (suc t) ≡ map_at ready t → Cause t
    changed_by : (s : ℕ) → Change ready s t → Cause t

  module _ (t w : ℕ) (accepts : Accepts start calls t (Step w))
      (taken : StepTaken (state_at start calls t) (state_at start calls (suc t)) w) where
    -- the step that links a row finishes its add
    link_cause : (prev new next : ℕ) → LinkMove top w (TableAt ready t) (TableAt ready (suc t)) prev new next → Cause t
    link_cause prev new next m = go (current ready t w)
      where
        new_linked : standing_of (row_at (written (state_at start calls t).rows (effect_in (state_at start calls t) w).write)) new ≡ Linked
        new_linked = rw taken.rows_written at m.new_linked

        answers : (c : Current ready w t) → line_at start calls (suc t) w ≡ Idle Added
        answers c =
            elim (step_tells ready c.request w c.code c.key c.element t c.running taken.was_busy).linking [
              | inl none ↦ absurd (held_not_linked m.new_held (links_none (state_at start calls t).rows _ none new new_linked))
              | inr is ↦ next_line taken ∙ is
            ]

        ended_so : (c : Current ready w t) → Continues ready c.request w c.code c.key c.element t → Cause t
        ended_so c (runs r same) = absurd (idle_not_busy (answers c) (r.busy (suc t) r.since (omega arith)))
        ended_so c (ends_now a e) =
            let same : a ≡ Added = cc (answers c, e.finished.answered) in
            changed_by c.request (adds w c.code c.key c.element (rw same at e))

        go : (idle (line_at start calls t w) ≡ true) ⊎ Current ready w t → Cause t
        go (inl h) = absurd (clash h taken.was_busy)
        go (inr c) = ended_so c (continues ready c.request w c.code c.key c.element t c.running)

    -- the step that marks a row is the moment of the flag's owner
    mark_cause : (prev del : ℕ) → MarkMove (TableAt ready t) (TableAt ready (suc t)) prev del → Cause t
    mark_cause prev del m = go (current ready t o.worker)
      where
        o : Owner (state_at start calls t) (right_of (TableAt ready t) prev)
        o = (owned_at ready t).owner prev m.prev_flagged

        is : removed_at ready t o.worker ≡ del
        is = o.removes ∙ m.prev_right

        some : del ≢ no_row_removed
        some =
            let above = flagged_right_above (structure_at ready t) prev m.prev_flagged in
            above_not_head top (TableAt ready t) prev del (rw m.prev_right at above)

        go : (idle (line_at start calls t o.worker) ≡ true) ⊎ Current ready o.worker t → Cause t
        go (inl h) = absurd (some (sym is ∙ idle_removes_none (line_at start calls t o.worker) h))
        go (inr c) = changed_by c.request
            (removes o.worker c.code c.key c.element del c.running is some m.del_unmarked m.mark_del)

    step_cause : Cause t
    step_cause = go (map_at ready (suc t)) refl (turn_at ready t w (step_move ready t w taken))
      where
        go : (M : PlainMap) → map_at ready (suc t) ≡ M → Turn top w (TableAt ready t) (TableAt ready (suc t)) (map_at ready t) M → Cause t
        go M e turns_nothing = same_map e
        go M e (turns_link {prev = prev} {new = new} {next = next} m) = link_cause prev new next m
        go M e (turns_mark {prev = prev} {del = del} m) = mark_cause prev del m

  pub cause : (t : ℕ) → Cause t
  cause t = go (happening ready t)
    where
      go : Happening start calls t → Cause t
      go (nothing_happens e) = same_map (same_rows_map ready (suc t) t (ap (λ (c : Catalogue). c.rows) e))
      go (submits w code key element a taken) = same_map (same_rows_map ready (suc t) t taken.rows_same)
      go (steps w a taken) = step_cause t w a taken
