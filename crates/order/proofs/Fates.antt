-- The fate of a request in the order: it reads the map at its moment, it changes the map at its step, or it has no place in the order,
-- being neither finished nor a removal whose row is marked.
use Rattle.std.specs.Prelude.{ℕ, suc, ◌≤◌, ◌<◌, true, false, ◌≡◌, refl, ◌≢◌, ◌⊎◌, List, length}
use Rattle.std.proofs.Common.{ap, sym, ◌∙◌, inl, inr, arith}
use Rattle.std.proofs.Math.Decide.{ℕ_discrete}
use Rattle.order.proofs.Table.{Table, mark_of, flag_of, right_of}
use Rattle.order.proofs.StructureFacts.{above_not_head}
use Rattle.order.specs.PlainMap.{operation}
use Rattle.order.proofs.Lawful.{Removal, goes_on, claims, ends, no_row_removed, removed_row}
use Rattle.order.proofs.Events.{StepTaken, next_line}
use Rattle.order.proofs.SoundKept.{step_lawful}
use Rattle.order.proofs.Asking.{Agrees}
use Rattle.order.specs.Demand.{state_at, Accepts, Request, Finished, Removing}
use Rattle.order.proofs.Time.{Ready, Happening, nothing_happens, submits, steps, happening, sound_at, structure_at, step_taken, submit_taken, TableAt}
use Rattle.order.proofs.Running.{removed_at, Running, Ends, begins}
use Rattle.order.proofs.OneRequest.{same_call, same_request}
use Rattle.order.proofs.Courses.{Course, under_way, over, course, ended_not_running, removes_on}
use Rattle.order.proofs.MapAt.{map_at}
use Rattle.order.proofs.Moments.{reading, Kind, reads_only, is_full, kind, adds as adds_kind, removes as removes_kind}
use Rattle.order.proofs.Removals.{MarkedAt, removal_marked}
use Rattle.order.proofs.MapChanges.{Change, adds, removes, change_unfinished, RemovesMarked}
use Rattle.kept.specs.Conditions.{clash, contradiction}
use Rattle.std.proofs.lemmas.Bool.{cases_Bool}
use Rattle.kept.specs.Ways.{effect_in, line_of}
use Rattle.model.specs.State.{idle}
use Rattle.model.specs.declared.Succ.{Succ}
use Rattle.model.specs.declared.Catalogue.{Catalogue}
use Rattle.model.specs.declared.Answer.{Answer}
use Rattle.model.specs.declared.Answer.TheVariants.{Full}
use Rattle.model.specs.declared.Call.{Call}
use Rattle.model.specs.declared.Call.TheVariants.{Submit, Step}

module _ {top : ℕ} {start : Catalogue} {calls : List Call} (ready : Ready top start calls) where
  -- A finished request that leaves the map as it is, at its moment T. Full is not asked of the map.
  pub record ReadsAt (s T : ℕ) : Type 0 where
    pub worker : ℕ
    pub code : ℕ
    pub key : ℕ
    pub element : ℕ
    pub finish : ℕ
    pub answer : Answer
    pub ends_so : Ends ready s worker code key element finish answer
    pub later : s < T
    pub until : T ≤ finish
    pub stepper : ℕ
    pub step : Accepts start calls T (Step stepper)
    pub right : (answer ≡ Full) ⊎ ((reading answer ≡ true) × Agrees (map_at ready T) (operation code key element) answer (map_at ready T))

  -- no request was submitted at s, or it is unfinished and removes no row that is marked
  pub record NoPlace (s : ℕ) : Type 0 where
    pub not_finished : (w code key element f : ℕ) (a : Answer) → Request start calls s w code key element → Finished start calls s w f a → ⊥
    pub not_removing : (w : ℕ) → Removing start calls s w → ⊥
    pub not_changing : (T : ℕ) → Change ready s T → ⊥

  pub data Fate (s : ℕ) : Type 0 where
    reads_at : (T : ℕ) → ReadsAt s T → Fate s
    changes_at : (T : ℕ) → Change ready s T → Fate s
    no_place : NoPlace s → Fate s

  -- ---- What the history says of an unfinished removal ----

  -- the step that sets a flag claims the row
  flag_claims : (at w prev t : ℕ) (R' : Table) (after : ℕ) → flag_of (TableAt ready at) prev ≡ false → right_of (TableAt ready at) prev ≡ t
      → flag_of R' prev ≡ true → Removal (TableAt ready at) R' (removed_at ready at w) after → (after ≡ t) × (t ≢ no_row_removed)
  flag_claims at w prev t R' after clear right set (goes_on same no_new) = absurd (clash (no_new prev set) clear)
  flag_claims at w prev t R' after clear right set (ends none no_new gone) = absurd (clash (no_new prev set) clear)
  flag_claims at w prev t R' after clear right set (claims {prev = other} m none) = go (ℕ_discrete prev other)
    where
      go : Dec (prev ≡ other) → (after ≡ t) × (t ≢ no_row_removed)
      go (no e) = absurd (clash set (m.flag_other prev e ∙ clear))
      go (yes e) =
          let same : after ≡ t = sym m.prev_right ∙ ap (right_of (TableAt ready at)) (sym e) ∙ right in
          let above = (structure_at ready at).right_above other m.prev_regular.linked m.prev_not_tail in
          (same, λ z. above_not_head top (TableAt ready at) other after (rw m.prev_right at above) (same ∙ z))

  removes_now : (s w : ℕ) → Removing start calls s w → RemovesMarked ready w
  removes_now s w m = go (course ready s w 3 m.key m.element m.request (length calls) m.request.inside)
    where
      at : ℕ
      at = m.flagged.at

      taken : StepTaken (state_at start calls at) (state_at start calls (suc at)) w
      taken = step_taken ready at w m.flagged.step

      claimed : (removed_row (effect_in (state_at start calls at) w).line ≡ m.row) × (m.row ≢ no_row_removed)
      claimed = flag_claims at w m.flagged.prev m.row _ _ (ap (λ (x : Succ). x.flag) m.flagged.before)
          (ap (λ (x : Succ). x.right) m.flagged.before)
          (rw taken.rows_written at (ap (λ (x : Succ). x.flag) m.flagged.after))
          (step_lawful top _ _ (sound_at ready at) w taken).removal

      removed_then : removed_at ready (suc at) w ≡ m.row
      removed_then = cc (next_line taken, claimed.0)

      go : Course ready s w 3 m.key m.element (length calls) → RemovesMarked ready w
      go (over f a h e) = absurd (ended_not_running ready s w f (length calls) a e.finished h m.unfinished)
      go (under_way r) =
          let still = removes_on ready s w 3 m.key m.element (suc at) (length calls) m.row r (omega (arith, m.flagged.later))
          m.flagged.step.inside removed_then claimed.1 in
          ((λ z. claimed.1 (sym still ∙ z)), rw still m.marked)

  -- ---- Every fate ----

  -- nothing was submitted
  none_submitted : (s : ℕ) → ((w code key element : ℕ) → Request start calls s w code key element → ⊥) → Fate s
  none_submitted s none = no_place (record {
    not_finished = λ w code key element f a r x. none w code key element r;
    not_removing = λ w m. none w 3 m.key m.element m.request;
    not_changing = λ T c. of_change T c;
  })
    where
      of_change : (T : ℕ) → Change ready s T → ⊥
      of_change T (adds w code key element e) = none w code key element e.running.request
      of_change T (removes w code key element y r is some unmarked marked) = none w code key element r.request

  module _ (s w code key element : ℕ) (request : Request start calls s w code key element) where
    removal_fate : (u y : ℕ) → MarkedAt ready s w code key element u y → y ≢ no_row_removed → Fate s
    removal_fate u y m some = changes_at m.time (removes w code key element y m.running m.removes some m.unmarked m.marked)

    -- it is finished, and reads the map at T
    reads_fate : (f : ℕ) (a : Answer) → Ends ready s w code key element f a → (T : ℕ) → s < T → T ≤ f
        → (v : ℕ) → Accepts start calls T (Step v)
        → (a ≡ Full) ⊎ ((reading a ≡ true) × Agrees (map_at ready T) (operation code key element) a (map_at ready T)) → Fate s
    reads_fate f a e T later until v step right = reads_at T (record {
      worker = w;
      code = code;
      key = key;
      element = element;
      finish = f;
      answer = a;
      ends_so = e;
      later = later;
      until = until;
      stepper = v;
      step = step;
      right = right;
    })

    -- it is finished
    finished_fate : (f : ℕ) (a : Answer) → Ends ready s w code key element f a → Fate s
    finished_fate f a e = go (kind ready s w code key element f a e)
      where
        go : Kind ready s w f (operation code key element) a → Fate s
        go (reads_only h r) = reads_fate f a e r.moment r.later r.until r.worker r.step (inr (h, r.agrees))
        go (is_full h) = reads_fate f a e f e.finished.later (omega arith) w e.finished.step (inl h)
        go (adds_kind h agrees) = changes_at f (adds w code key element (rw h at e))
        go (removes_kind x h r) =
            removal_fate f _ (removal_marked ready s w code key element f _ e.running refl r.some_row r.marked) r.some_row

    -- it is unfinished, and removes no row that is marked
    waiting : Running ready s w code key element (length calls) → (RemovesMarked ready w → ⊥) → Fate s
    waiting r none = no_place (record {
      not_finished = λ w' code' key' element' f a q x.
          ended_not_running ready s w f (length calls) a
          (rw (same_request s w code key element w' code' key' element' request q).worker at x)
          x.step.inside r.busy;
      not_removing = λ w' m.
          let same = same_request s w code key element w' 3 m.key m.element request m.request in
          none (rw same.worker at (removes_now s w' m));
      not_changing = λ T c. none (change_unfinished ready s T w code key element c r);
    })

    request_fate : Course ready s w code key element (length calls) → Fate s
    request_fate (over f a h e) = finished_fate f a e
    request_fate (under_way r) = go (ℕ_discrete (removed_at ready (length calls) w) no_row_removed)
        (cases_Bool (mark_of (TableAt ready (length calls)) (removed_at ready (length calls) w)))
      where
        go : Dec (removed_at ready (length calls) w ≡ no_row_removed)
            → (mark_of (TableAt ready (length calls)) (removed_at ready (length calls) w) ≡ true)
            ⊎ (mark_of (TableAt ready (length calls)) (removed_at ready (length calls) w) ≡ false)
            → Fate s
        go (yes e) b = waiting r (λ m. m.0 e)
        go (no e) (inr b) = waiting r (λ m. clash m.1 b)
        go (no e) (inl b) = removal_fate (length calls) _ (removal_marked ready s w code key element (length calls) _ r refl e b) e

  pub fate : (s : ℕ) → Fate s
  fate s = go (happening ready s)
    where
      go : Happening start calls s → Fate s
      go (nothing_happens e) = none_submitted s (λ w code key element r.
          clash (ap (λ (c : Catalogue). idle (line_of c w)) e ∙ (submit_taken ready s w code key element r).was_idle)
          ((begins ready s w code key element r).busy (suc s) (omega arith) (omega arith)))
      go (steps v a taken) = none_submitted s (λ w code key element r.
          let e = same_call s (Submit w code key element) (Step v) r a in
          contradiction (cc))
      go (submits w code key element a taken) =
          request_fate s w code key element a (course ready s w code key element a (length calls) a.inside)
