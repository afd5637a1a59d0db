-- A stored save is never lost, in the coordinator's words: if an add of key k was answered Added, and no delete of k sets its flag between
-- that finish and the finish of a search of k that was submitted after it, then the search is answered Found with the add's element. So a
-- delete may have finished before or be submitted later; and one whose client was killed does no harm, whether it stopped before the add's
-- finish, at any step, or afterwards with no flag set. For the add links its row at its finish, and a row of key k that was flagged before
-- is marked by then: else the add would have been answered Duplicate.
use Rattle.std.specs.Prelude.{ℕ, zero, suc, ◌≤◌, ◌<◌, false, ◌≡◌, refl, ◌≢◌, List}
use Rattle.std.proofs.Math.Path.{ap}
use Rattle.std.proofs.Common.{sym, ◌∙◌, inl, inr, arith}
use Rattle.std.proofs.Math.Option.{some}
use Rattle.std.proofs.Math.Decide.{ℕ_discrete}
use Rattle.order.proofs.Table.{Table, mark_of}
use Rattle.order.specs.PlainMap.{PlainMap, Operation, operation, search, insert, delete, key_of, answer_holding, answer_of, after_asking}
use Rattle.order.proofs.TableMap.{Has}
use Rattle.order.proofs.Timeline.{unmarked_earlier}
use Rattle.order.proofs.Lawful.{no_row_removed}
use Rattle.order.proofs.MapOfTable.{map_has, map_lacks, setting_other}
use Rattle.order.proofs.Asking.{Agrees, added_holds}
use Rattle.order.proofs.Memory.{Answered, is_found, is_absent}
use Rattle.order.specs.Demand.{Accepts, Request, BusySince, SetFlag, Finished}
use Rattle.order.proofs.Time.{Ready, structure_at, mover_at, move_at, TableAt}
use Rattle.order.proofs.OneRequest.{idle_not_busy, same_stepper}
use Rattle.order.proofs.Running.{removed_at, Claimed, Running}
use Rattle.order.proofs.Courses.{ended, ran}
use Rattle.order.proofs.MapAt.{map_at, is_map_at}
use Rattle.order.proofs.MapChanges.{adds, removes, add_agrees, removal_agrees}
use Rattle.order.proofs.Causes.{Cause, same_map, changed_by, cause}
use Rattle.order.proofs.Removals.{removes_save, Deletes, deletes, set_flag}
use Rattle.order.proofs.Compared.{Compared, less, equal, more, compared}
use Rattle.order.proofs.Reached.{empty_ready}
use Rattle.kept.specs.Conditions.{contradiction}
use Rattle.model.specs.State.{empty_catalogue}
use Rattle.model.specs.declared.Catalogue.{Catalogue}
use Rattle.model.specs.declared.Answer.{Answer}
use Rattle.model.specs.declared.Answer.TheVariants.{Found, Absent, Added, Removed}
use Rattle.model.specs.declared.Call.{Call}
use Rattle.model.specs.declared.Call.TheVariants.{Step}

-- ---- Deletes that leave a save alone ----

module _ (start : Catalogue) (calls : List Call) where
  -- No delete of key k sets its flag between the positions f and h.
  abbrev pub NoDeleteFlags : ℕ → ℕ → ℕ → Type 0
  NoDeleteFlags k f h = (d v x t : ℕ) → Request start calls d v 3 k x → (s : SetFlag start calls d v t) → BusySince start calls d v s.at
      → f < s.at → s.at < h → ⊥

  -- Three ways to take no step at all between f and h: the request finished before; it stands still, as one whose client was killed; it is
  -- submitted later.
  pub data Rests (f h d v : ℕ) : Type 0 where
    over : (g : ℕ) (a : Answer) → g ≤ f → Finished start calls d v g a → Rests f h d v
    stalled : ((i : ℕ) → f < i → i < h → Accepts start calls i (Step v) → ⊥) → Rests f h d v
    not_yet : h ≤ d → Rests f h d v

  pub rest_flags_none : (k f h : ℕ) → ((d v x : ℕ) → Request start calls d v 3 k x → Rests f h d v) → NoDeleteFlags k f h
  rest_flags_none k f h rests d v x t request sets busy low high = go (rests d v x request)
    where
      go : Rests f h d v → ⊥
      go (over g a early ended) =
          idle_not_busy ended.answered (busy (suc g) (omega (arith, ended.later)) (omega arith))
      go (stalled still) = still sets.at low high sets.step
      go (not_yet after) = omega (arith, sets.later)

-- ---- One key of a plain map ----

module _ (m m' : PlainMap) (k e : ℕ) where
  -- what is asked of another key leaves it
  other_key : (o : Operation) (a : Answer) → Agrees m o a m' → k ≢ key_of o → m k ≡ some e → m' k ≡ some e
  unfolding answer_of after_asking
  other_key o a agrees other is = ap (λ (n : PlainMap). n k) (sym agrees.after) ∙ setting_other m (key_of o) k _ other ∙ is

  -- and an add that is answered Added is of another key
  added_other : (o : Operation) → Agrees m o Added m' → m k ≡ some e → k ≢ key_of o
  unfolding answer_of
  added_other o agrees is same = go o (ap (answer_holding o) (sym is ∙ ap m same) ∙ agrees.answer)
    where
      go : (p : Operation) → answer_holding p (some e) ≡ Added → ⊥
      go (search j) h = contradiction (cc)
      go (insert j x) h = contradiction (cc)
      go (delete j) h = contradiction (cc)

-- the codes
search_is : (k x : ℕ) → operation 1 k x ≡ search k
unfolding operation
search_is k x = refl

insert_is : (k e : ℕ) → operation 2 k e ≡ insert k e
unfolding operation
insert_is k e = refl

delete_is : (k x : ℕ) → operation 3 k x ≡ delete k
unfolding operation
delete_is k x = refl

module _ {top : ℕ} {start : Catalogue} {calls : List Call} (ready : Ready top start calls) (s w k e f h : ℕ)
    (request : Request start calls s w 2 k e) (finished : Finished start calls s w f Added) (no_flags : NoDeleteFlags start calls k f h) where
  added : Agrees (map_at ready f) (insert k e) Added (map_at ready (suc f))
  added = rw (insert_is k e) at (add_agrees ready s w 2 k e f (ended ready s w 2 k e f Added request finished))

  -- ---- No row of key k is marked between f and h ----

  -- Its delete would have set the flag before f,
  flagged_before : (r v x t y : ℕ) → Request start calls r v 3 k x → BusySince start calls r v t → (c : Claimed ready r v t y) → f < t
      → t < h
      → c.at < f
  flagged_before r v x t y asked busy c later early = go (compared c.at f)
    where
      go : Compared c.at f → c.at < f
      go (less q) = q
      go (equal q) =
          let same = same_stepper f v w (rw q at c.step) finished.step in
          absurd (idle_not_busy finished.answered (rw same at (busy (suc f) (omega (arith, c.later)) later)))
      go (more q) =
          absurd (no_flags r v x y asked (set_flag ready c) (λ j low high. busy j low (omega (arith, c.before)))
          q (omega (arith, c.before)))

  -- and the row would have been there when the add was answered Added.
  not_marked : (r v code element t y : ℕ) → Running ready r v code k element t → removed_at ready t v ≡ y → y ≢ no_row_removed
      → mark_of (TableAt ready t) y ≡ false
      → f < t → t < h → ⊥
  not_marked r v code element t y run is some_row unmarked later early = elim run.claim [
    | inl none ↦ some_row (sym is ∙ none)
    | inr c ↦
        let d = deletes ready r v code k element t y run is some_row in
        let before = flagged_before r v element t _ d.request run.busy c later early in
        let was = ran ready r v code k element f t run (omega (arith, c.later)) (omega arith) in
        let m = removes_save ready r v code k element f y was (c.removes f before (omega arith) ∙ is) some_row in
        let key : m.key ≡ k = cc (d.operation_same, delete_is k element, m.is_delete) in
        let unmarked_then = unmarked_earlier (TableAt ready) (mover_at ready) (structure_at ready) (move_at ready) f t y (omega arith) unmarked in
        let has : Has (TableAt ready f) k (TableAt ready f y).element = record {
          row = y;
          regular = record { linked = m.save.linked; unmarked = unmarked_then };
          save = m.save.no_end;
          key = m.save.has_key ∙ key;
          element = refl;
        } in
        added_other (map_at ready f) (map_at ready (suc f)) k _ (insert k e) added
        (map_has (structure_at ready f) (is_map_at ready f) k _ has) refl
  ]

  -- ---- From the add's finish on the map holds the save ----

  kept : (t : ℕ) → f < t → t < h → map_at ready t k ≡ some e → Cause ready t → map_at ready (suc t) k ≡ some e
  kept t later early held (same_map q) = ap (λ (m : PlainMap). m k) q ∙ held
  kept t later early held (changed_by r (adds v code key element x)) =
      let agrees = add_agrees ready r v code key element t x in
      let other = added_other (map_at ready t) (map_at ready (suc t)) k e (operation code key element) agrees held in
      other_key (map_at ready t) (map_at ready (suc t)) k e (operation code key element) Added agrees other held
  kept t later early held (changed_by r (removes v code key element y run is some_row unmarked marked)) = go (ℕ_discrete k key)
    where
      d : Deletes ready r v code key element
      d = deletes ready r v code key element t y run is some_row

      agrees : Agrees (map_at ready t) (delete key) (Removed (TableAt ready t y).element) (map_at ready (suc t))
      agrees =
          rw (d.operation_same ∙ delete_is key element) at (removal_agrees ready r v code key element t y run is some_row unmarked marked)

      go : Dec (k ≡ key) → map_at ready (suc t) k ≡ some e
      go (no other) = other_key (map_at ready t) (map_at ready (suc t)) k e (delete key) _ agrees other held
      go (yes same) =
          absurd (not_marked r v code element t y (rw (sym same) at run) is some_row unmarked later early)

  holds_from : (t : ℕ) → f < t → t ≤ h → map_at ready t k ≡ some e
  holds_from zero later early = absurd (omega arith)
  holds_from (suc t) later early = go (ℕ_discrete t f) (λ q. holds_from t q (omega arith))
    where
      go : Dec (t ≡ f) → (f < t → map_at ready t k ≡ some e) → map_at ready (suc t) k ≡ some e
      go (yes q) before = rw q (added_holds (map_at ready f) (map_at ready (suc f)) k e added)
      go (no q) before = kept t (omega arith) (omega arith) (before (omega arith)) (cause ready t)

  -- ---- So a search finds it ----

  found_with : (v q : ℕ) (R' : Table) (removed : ℕ) (a : Answer) → f < q → Answered v (TableAt ready) (suc q) h R' removed (search k) a
      → a ≡ Found e
  found_with v q R' removed (Found e') later (is_found x) =
      let at = map_has (structure_at ready x.time) (is_map_at ready x.time) k e' x.has in
      let held = holds_from x.time (omega (arith, x.after)) x.before in
      ap Found (cc)
  found_with v q R' removed Absent later (is_absent x) =
      let at = map_lacks (structure_at ready x.time) (is_map_at ready x.time) k x.lacks in
      let held = holds_from x.time (omega (arith, x.after)) x.before in
      contradiction (cc)
  found_with v q R' removed _ later other = elim other [ ]

  pub found_after_added : (q v x : ℕ) (a : Answer) → Request start calls q v 1 k x → f < q → Finished start calls q v h a → a ≡ Found e
  found_after_added q v x a asked later ends_so =
      found_with v q _ _ a later (rw (search_is k x) at (ended ready q v 1 k x h a asked ends_so).answered)

-- For any calls from the empty catalogue.
pub stored_save_found : (calls : List Call) (s w k e f : ℕ) → Request empty_catalogue calls s w 2 k e
    → Finished empty_catalogue calls s w f Added
    → (q v x h : ℕ) (a : Answer) → Request empty_catalogue calls q v 1 k x → f < q → Finished empty_catalogue calls q v h a
    → NoDeleteFlags empty_catalogue calls k f h
    → a ≡ Found e
stored_save_found calls s w k e f request finished q v x h a asked later ends_so no_flags =
    found_after_added (empty_ready calls) s w k e f h request finished no_flags q v x a asked later ends_so
