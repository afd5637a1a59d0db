-- Removals over time: a delete that has set the flag for its row removes it at the step that marks the row, and it finishes with Removed
-- afterwards or is a removal that is still unfinished at the end.
use Rattle.std.specs.Prelude.{ℕ, suc, ◌≤◌, ◌<◌, Bool, true, false, ◌≡◌, refl, ◌≢◌, ◌⊎◌, List, eqb, length}
use Rattle.std.proofs.Common.{ap, sym, ◌∙◌, inl, inr, arith, leb-true}
use Rattle.std.proofs.lemmas.Bool.{eqb-false}
use Rattle.order.proofs.Table.{Table, mark_of}
use Rattle.order.proofs.StructureFacts.{unflagged_right_unmarked}
use Rattle.order.proofs.Facts.{SaveOf, AllHold, facts}
use Rattle.order.proofs.LineKnows.{Targets, in_help, targets_operation, target_known}
use Rattle.order.proofs.Stack.{stack_of}
use Rattle.order.proofs.Timeline.{marked_within}
use Rattle.order.specs.PlainMap.{Operation, operation, search, insert, delete}
use Rattle.order.proofs.Lawful.{no_row_removed, removed_row, removed_in_help}
use Rattle.order.proofs.Memory.{Answered, RemovesRow, operation_of, is_removed, none_removed}
use Rattle.order.specs.Demand.{state_at, line_at, Request, SetFlag, Removing}
use Rattle.order.proofs.Time.{Ready, sound_at, structure_at, mover_at, move_at, submit_taken, TableAt}
use Rattle.order.proofs.Running.{removed_at, Claimed, Running, Ends}
use Rattle.order.proofs.Courses.{ran}
use Rattle.kept.specs.Conditions.{clash, contradiction}
use Rattle.model.specs.State.{worker_at}
use Rattle.model.specs.Step.{is_request}
use Rattle.model.specs.declared.Pending.{Pending}
use Rattle.model.specs.declared.Catalogue.{Catalogue}
use Rattle.model.specs.declared.Answer.{Answer}
use Rattle.model.specs.declared.Answer.TheVariants.{Absent, Removed}
use Rattle.model.specs.declared.HelpCaller.{HelpCaller}
use Rattle.model.specs.declared.HelpCaller.TheVariants.{Insert8, Insert16, Delete6}
use Rattle.model.specs.declared.HelpFrame.{HelpFrame}
use Rattle.model.specs.declared.HelpLine.{HelpLine}
use Rattle.model.specs.declared.Line.{Line}
use Rattle.model.specs.declared.Line.TheVariants.{Idle, Search, Insert, Flag, Help}
use Rattle.model.specs.declared.Call.{Call}

-- ---- A delete's row has its key ----

-- the line belongs to the delete of a key, and the row that it removes is a save of that key
pub record RemovesSave (R : Table) (o : Operation) (row : ℕ) : Type 0 where
  pub key : ℕ
  pub is_delete : o ≡ delete key
  pub save : SaveOf R row key

module _ (top w : ℕ) (R : Table) where
  target_removed : (l : HelpLine) (f : HelpFrame) (hs : List Pending) (caller : HelpCaller) → f.caller ≡ caller
      → AllHold top w R (facts (Help l f) hs)
      → removed_in_help caller ≢ no_row_removed → RemovesSave R (operation_of (Help l f)) (removed_in_help caller)
  target_removed l f hs (Insert8 row new) e known some = absurd (some refl)
  target_removed l f hs (Insert16 row new) e known some = absurd (some refl)
  target_removed l f hs (Delete6 target true) e known some =
      let targets : Targets (Help l f) target f.key = in_help e in
      record { key = f.key; is_delete = targets_operation targets; save = target_known top w R hs targets known }
  target_removed l f hs (Delete6 target false) e known some = absurd (some refl)

  removed_save : (l : Line) (hs : List Pending) → AllHold top w R (facts l hs) → removed_row l ≢ no_row_removed
      → RemovesSave R (operation_of l) (removed_row l)
  removed_save (Idle a) hs known some = absurd (some refl)
  removed_save (Search l f) hs known some = absurd (some refl)
  removed_save (Insert l f) hs known some = absurd (some refl)
  removed_save (Flag l f) hs known some = absurd (some refl)
  removed_save (Help l f) hs known some = target_removed l f hs f.caller refl known some

-- ---- The code of a delete ----

pub record DeleteCode (code key k : ℕ) : Type 0 where
  pub three : code ≡ 3
  pub key_is : key ≡ k

pub delete_code : (code key element k : ℕ) → is_request code ≡ true → operation code key element ≡ delete k → DeleteCode code key k
unfolding operation
delete_code code key element k known is = go (eqb code 0) refl (eqb code 1) refl (eqb code 2) refl
  where
    go : (a : Bool) → eqb code 0 ≡ a → (b : Bool) → eqb code 1 ≡ b → (c : Bool) → eqb code 2 ≡ c → DeleteCode code key k
    go true z b p c q = absurd (clash known (rw z refl))
    go false z true p c q = let e : search key ≡ delete k = rw (p, operation) at is in contradiction (cc)
    go false z false p true q =
        let e : insert key element ≡ delete k = rw (p, q, operation) at is in contradiction (cc)
    go false z false p false q =
        let e : delete key ≡ delete k = rw (p, q, operation) at is in
        let not_none : code ≢ 0 = eqb-false code 0 z in
        let not_search : code ≢ 1 = eqb-false code 1 p in
        let not_insert : code ≢ 2 = eqb-false code 2 q in
        let small : code ≤ 3 = leb-true code 3 (rw z at known) in
        record { three = omega arith; key_is = cc }

module _ {top : ℕ} {start : Catalogue} {calls : List Call} (ready : Ready top start calls) where
  pub removes_save : (s w code key element u y : ℕ) → Running ready s w code key element u → removed_at ready u w ≡ y → y ≢ no_row_removed
      → RemovesSave (TableAt ready u) (operation code key element) y
  removes_save s w code key element u y r is some =
      rw (r.operation_is, is) at
      (removed_save top w (TableAt ready u) (line_at start calls u w) (stack_of (worker_at (state_at start calls u).workers w))
      ((sound_at ready u).known w) (λ e. some (sym is ∙ e)))

  -- ---- What a removal answers ----

  answer_removed : (w t u : ℕ) (R' : Table) (y k : ℕ) (a : Answer) → y ≢ no_row_removed → Answered w (TableAt ready) t u R' y (delete k) a
      → (e : ℕ) × (a ≡ Removed e) × RemovesRow (TableAt ready u) y e
  answer_removed w t u R' y k Absent some (none_removed no_row h) = absurd (some no_row)
  answer_removed w t u R' y k (Removed e) some (is_removed h) = (e, refl, h)
  answer_removed w t u R' y k _ some other = elim other [ ]

  -- a delete that removes row y ends with Removed and the element of y
  pub removal_answer : (s w code key element f y : ℕ) (a : Answer) → Ends ready s w code key element f a → removed_at ready f w ≡ y
      → y ≢ no_row_removed
      → a ≡ Removed (TableAt ready f y).element
  removal_answer s w code key element f y a e is some =
      let m = removes_save s w code key element f y e.running is some in
      let r = answer_removed w (suc s) f (TableAt ready (suc f)) y m.key a some (rw (is, m.is_delete) at e.answered) in
      r.1 ∙ ap Removed (sym r.2.has_element)

  -- ---- The step that marks a claimed row ----

  pub record MarkedAt (s w code key element u y : ℕ) : Type 0 where
    pub time : ℕ
    pub later : s < time
    pub before : time < u
    pub running : Running ready s w code key element time
    pub removes : removed_at ready time w ≡ y
    pub unmarked : mark_of (TableAt ready time) y ≡ false
    pub marked : mark_of (TableAt ready (suc time)) y ≡ true

  claim_marked : (s w code key element u y : ℕ) → Running ready s w code key element u → Claimed ready s w u y
      → mark_of (TableAt ready u) y ≡ true
      → MarkedAt s w code key element u y
  claim_marked s w code key element u y r c marked =
      let m = marked_within (TableAt ready) (mover_at ready) (structure_at ready) (move_at ready) (suc c.at) u y
      c.before clear marked in
      let low : suc c.at ≤ m.time = m.after in
      record {
        time = m.time;
        later = omega (arith, c.later);
        before = m.before;
        running = ran ready s w code key element m.time u r (omega (arith, c.later)) (omega (arith, m.before));
        removes = c.removes m.time low (omega (arith, m.before));
        unmarked = m.regular.unmarked;
        marked = m.marked;
      }
    where
      clear : mark_of (TableAt ready (suc c.at)) y ≡ false
      clear = c.flag.mark= y ∙ (rw c.flag.prev_right at
          (unflagged_right_unmarked (structure_at ready c.at) c.prev c.flag.prev_regular c.flag.prev_not_tail
          c.flag.prev_unflagged))

  -- a running delete whose row is marked was marked at a step of its own time
  pub removal_marked : (s w code key element u y : ℕ) → Running ready s w code key element u → removed_at ready u w ≡ y → y ≢ no_row_removed
      → mark_of (TableAt ready u) y ≡ true → MarkedAt s w code key element u y
  removal_marked s w code key element u y r is some marked = go r.claim
    where
      go : (removed_at ready u w ≡ no_row_removed) ⊎ Claimed ready s w u (removed_at ready u w) → MarkedAt s w code key element u y
      go (inl none) = absurd (some (sym is ∙ none))
      go (inr c) = claim_marked s w code key element u y r (rw is at c) marked

  -- ---- A removal that is unfinished at the end ----

  abbrev pub set_flag : {s w u y : ℕ} → Claimed ready s w u y → SetFlag start calls s w y
  set_flag c = record {
    at = c.at;
    prev = c.prev;
    later = c.later;
    step = c.step;
    before = λ i. record { right = c.flag.prev_right i; mark = c.flag.prev_regular.unmarked i; flag = c.flag.prev_unflagged i };
    after =
        let right = c.flag.right= c.prev ∙ c.flag.prev_right in
        let mark = c.flag.mark= c.prev ∙ c.flag.prev_regular.unmarked in
        let flag = c.flag.flag_prev in
        λ i. record { right = right i; mark = mark i; flag = flag i };
  }

  -- the request of a removal is a delete
  pub record Deletes (s w code key element : ℕ) : Type 0 where
    pub request : Request start calls s w 3 key element
    pub operation_same : operation code key element ≡ operation 3 key element

  pub deletes : (s w code key element u y : ℕ) → Running ready s w code key element u → removed_at ready u w ≡ y → y ≢ no_row_removed
      → Deletes s w code key element
  deletes s w code key element u y r is some =
      let m = removes_save s w code key element u y r is some in
      let d = delete_code code key element m.key (submit_taken ready s w code key element r.request).is_request_holds m.is_delete in
      record {
        request = rw d.three at r.request;
        operation_same = ap (λ (c : ℕ). operation c key element) d.three;
      }

  pub removing : (s w code key element y : ℕ) → Running ready s w code key element (length calls) → removed_at ready (length calls) w ≡ y
      → y ≢ no_row_removed
      → mark_of (TableAt ready (length calls)) y ≡ true → Removing start calls s w
  removing s w code key element y r is some marked = go r.claim
    where
      go : (removed_at ready (length calls) w ≡ no_row_removed) ⊎ Claimed ready s w (length calls) (removed_at ready (length calls) w)
          → Removing start calls s w
      go (inl none) = absurd (some (sym is ∙ none))
      go (inr c) = record {
        key = key;
        element = element;
        request = (deletes s w code key element (length calls) y r is some).request;
        unfinished = r.busy;
        row = y;
        flagged = set_flag (rw is at c);
        marked = marked;
      }
